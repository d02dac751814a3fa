use Rattle.std.proofs.Common.{[], refl}
use Rattle.keep_event.specs.declared.names.Stored.{Stored}
use Rattle.keep_store.proofs.Order.{nothing-ascends}
use Rattle.keep_store.proofs.name_tree.NameTree.take.Goals as goal

pub invariant_of-self : goal.invariant_of-self
invariant_of-self c = rw c.replace.ensures.after (nothing-ascends {X = Stored} [] refl)
