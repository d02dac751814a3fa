use Rattle.std.proofs.Common.{◌≡◌, length, filter, not}
use Rattle.keep_event.specs.Table.{outlasts}
use Rattle.keep_table.specs.Maps.{is_next, any_record}
use Rattle.keep_table.proofs.Steps.{keeps}
use Rattle.keep_table.proofs.Walks.{revision}
use Rattle.keep_table.proofs.changes.drop_swept.Given as goal

-- those that don't outlast the sweep are out, as far as the last one
abbrev pub invariant-loop-row : goal.invariant-loop-row
invariant-loop-row l = l.records ≡ filter (keeps revision (λ r. not (outlasts l.reading l.collections r)) l.after) l.fn.records

abbrev pub decreases-loop-row : goal.decreases-loop-row
decreases-loop-row l = length (filter (is_next any_record l.after) l.fn.records)
