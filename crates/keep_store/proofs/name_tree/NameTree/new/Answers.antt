use Rattle.std.proofs.Common.{[], refl}
use Rattle.keep_event.specs.declared.names.Stored.{Stored}
use Rattle.keep_store.proofs.Order.{nothing-ascends}
use Rattle.keep_store.proofs.name_tree.NameTree.new.Goals as goal

pub invariant_of-result : goal.invariant_of-result
invariant_of-result c = nothing-ascends {X = Stored} [] refl
