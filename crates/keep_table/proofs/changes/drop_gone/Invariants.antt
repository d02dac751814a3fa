use Rattle.std.proofs.Common.{◌≡◌, length, filter}
use Rattle.keep_event.specs.Table.{is_gone}
use Rattle.keep_event.specs.declared.table.Collection.{Collection}
use Rattle.keep_table.specs.Maps.{is_next_collection}
use Rattle.keep_table.proofs.Steps.{keeps}
use Rattle.keep_table.proofs.changes.drop_gone.Given as goal

-- those that go are out, as far as the last one
abbrev pub invariant-loop-collection : goal.invariant-loop-collection
invariant-loop-collection l = l.collections ≡ filter (keeps (λ (x : Collection). x.number) (is_gone l.reading) l.after) l.fn.collections

abbrev pub decreases-loop-collection : goal.decreases-loop-collection
decreases-loop-collection l = length (filter (is_next_collection l.after) l.fn.collections)
