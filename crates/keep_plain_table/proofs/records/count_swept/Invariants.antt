use Rattle.std.proofs.Common.{◌≡◌, ◌≤◌, take, count_by}
use Rattle.keep_event.specs.Table.{is_swept}
use Rattle.keep_plain_table.proofs.records.count_swept.Given as goal

abbrev pub invariant-loop-row : goal.invariant-loop-row
invariant-loop-row l = record {
  count : l.swept ≡ count_by (is_swept l.reading l.collections) (take l.row-index l.records);
  few : l.swept ≤ l.row-index;
}
