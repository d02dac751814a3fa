use Rattle.std.proofs.Common.{◌≡◌, take}
use Rattle.keep_event.specs.Table.{rows_above}
use Rattle.keep_plain_table.proofs.records.rows_above.Given as goal

abbrev pub invariant-loop-row : goal.invariant-loop-row
invariant-loop-row l = l.rows.items ≡ rows_above l.after (take l.row-index l.records)
