use Rattle.std.proofs.Common.{◌∙◌, ap, take, ℕ}
use Rattle.std.proofs.lemmas.List.{take_min}
use Rattle.keep_wire.proofs.filling.front.Goals as goal

pub returns : goal.returns
returns c = ap (λ (n : ℕ). take n c.args.bytes.now) c.min.ensures ∙ take_min 65536 c.args.bytes.now
