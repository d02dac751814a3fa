use Rattle.std.proofs.Common.{option_map, ◌+◌, take, drop, ap}
use Rattle.std.proofs.lemmas.List.{take_rest}
use Rattle.keep_routes.proofs.paths.parted.Goals as goal

pub returns-in-Some : goal.returns-in-Some
returns-in-Some c = rw take_rest (ap (option_map (λ i. (take i c.args.text.now, drop (i + 1) c.args.text.now))) c.in-Some.ensures.place)
