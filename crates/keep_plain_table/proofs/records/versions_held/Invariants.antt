use Rattle.std.proofs.Common.{◌≡◌, ◌≤◌, take, count_by}
use Rattle.keep_event.specs.Table.{is_held}
use Rattle.keep_plain_table.proofs.records.versions_held.Given as goal

abbrev pub invariant-loop-row : goal.invariant-loop-row
invariant-loop-row l = record {
  count : l.held ≡ count_by (is_held l.reading l.number) (take l.row-index l.records);
  few : l.held ≤ l.row-index;
}
