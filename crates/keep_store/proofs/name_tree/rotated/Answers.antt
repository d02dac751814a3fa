use Rattle.std.proofs.Common.{sym, subst}
use Rattle.keep_event.specs.Store.{IsAscending}
use Rattle.keep_store.proofs.Trees.{first-two, last-two}
use Rattle.keep_store.proofs.name_tree.rotated.Goals as goal

pub of-requires : goal.of-requires
of-requires c = subst IsAscending (sym c.fork.ensures) (last-two _ _ c.args.middle.value _ _ c.requires)

pub of-requires-2 : goal.of-requires-2
of-requires-2 c = subst IsAscending (sym c.fork-2.ensures) (first-two _ _ c.args.middle.value _ _ c.requires)
