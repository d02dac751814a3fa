use Rattle.std.proofs.Common.{◌≡◌, ◌+◌, length, filter}
use Rattle.keep_event.specs.Table.{is_swept}
use Rattle.keep_table.specs.Maps.{is_next, any_record}
use Rattle.keep_table.proofs.changes.count_swept.Given as goal

-- those so far, and those above the last one
abbrev pub invariant-loop-row : goal.invariant-loop-row
invariant-loop-row l = l.swept + length (filter (is_next (is_swept l.reading l.collections) l.after) l.records) ≡ length (filter (is_next (is_swept l.reading l.collections) 0) l.records)

abbrev pub decreases-loop-row : goal.decreases-loop-row
decreases-loop-row l = length (filter (is_next any_record l.after) l.records)
