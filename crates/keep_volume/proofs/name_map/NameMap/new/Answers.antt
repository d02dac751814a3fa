use Rattle.std.proofs.Common.{[], refl, inl}
use Rattle.keep_event.specs.declared.names.Metadata.{Metadata}
use Rattle.keep_store.proofs.Order.{nothing-ascends}
use Rattle.keep_volume.proofs.name_map.NameMap.new.Goals as goal

pub invariant_of-result : goal.invariant_of-result
invariant_of-result c = rw c.new.ensures.items (record { number = inl refl; placed = tt; ascending = nothing-ascends {X = Metadata} [] refl })
