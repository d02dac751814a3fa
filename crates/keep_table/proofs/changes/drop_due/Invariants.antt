use Rattle.std.proofs.Common.{◌≡◌, length, filter, not}
use Rattle.keep_event.specs.Table.{is_due_of}
use Rattle.keep_table.proofs.changes.drop_due.Given as goal

-- those that aren't due are still there
abbrev pub invariant-loop-revision : goal.invariant-loop-revision
invariant-loop-revision l = filter (λ r. not (is_due_of l.reading l.number r)) l.records ≡ filter (λ r. not (is_due_of l.reading l.number r)) l.fn.records

abbrev pub decreases-loop-revision : goal.decreases-loop-revision
decreases-loop-revision l = length l.records
