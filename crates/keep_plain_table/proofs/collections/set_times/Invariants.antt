use Rattle.std.proofs.Common.{◌≡◌, ◌++◌, take, drop, map}
use Rattle.keep_event.specs.Table.{with_times}
use Rattle.keep_plain_table.proofs.collections.set_times.Given as goal

abbrev pub invariant-loop-collection : goal.invariant-loop-collection
invariant-loop-collection l = l.collection-items ≡ map (with_times l.number l.trash_at l.delete_at) (take l.collection-index l.fn.collections.items) ++ drop l.collection-index l.fn.collections.items
