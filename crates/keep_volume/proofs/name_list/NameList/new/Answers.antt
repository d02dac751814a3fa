use Rattle.std.proofs.Common.{rules}
use Rattle.keep_store.proofs.Order.{nothing-ascends}
use Rattle.keep_volume.proofs.name_list.NameList.new.Goals as goal

pub invariant_of-result : goal.invariant_of-result
invariant_of-result c = nothing-ascends _ (search rules)
