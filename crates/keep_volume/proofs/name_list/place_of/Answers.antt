use Rattle.std.proofs.Common.{rules}
use Rattle.std.proofs.lemmas.Fn.{always_returns_same}
use Rattle.keep_event.specs.Store.{name_cmp}
use Rattle.keep_volume.proofs.Places.{searched}
use Rattle.keep_volume.proofs.name_list.place_of.Goals as goal

-- the closure compares an entry's name with the name
pub returns : goal.returns
returns c =
    let facts = c.binary_search_by.ensures in
    searched c.args.name.now c.args.items.now _ c.requires facts.bound (facts.position (λ e. name_cmp e.0 c.args.name.now) (always_returns_same _ _ _ (λ a r f k. search rules)))
