use Rattle.std.proofs.Common.{◌≡◌, ◌≤◌, ◌++◌, length, filter}
use Rattle.keep_event.specs.Table.{rows_above}
use Rattle.keep_table.specs.Maps.{is_next, any_record}
use Rattle.keep_table.proofs.changes.rows_after.Given as goal

-- the rows so far, and then those above the last one
abbrev pub invariant-loop-row : goal.invariant-loop-row
invariant-loop-row l = record {
  rows_so_far : l.rows.items ++ rows_above l.at l.records ≡ rows_above l.after l.records;
  bounded : length l.rows.items ≤ l.limit;
}

abbrev pub decreases-loop-row : goal.decreases-loop-row
decreases-loop-row l = length (filter (is_next any_record l.at) l.records)
