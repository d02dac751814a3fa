use Rattle.std.proofs.Common.{◌≡◌, drop}
use Rattle.std.specs.List.{find}
use Rattle.keep_event.specs.Table.{is_readable}
use Rattle.keep_plain_table.proofs.records.readable.Given as goal

abbrev pub invariant-loop-row : goal.invariant-loop-row
invariant-loop-row l = find (is_readable l.number l.version) (drop l.row-index l.records) ≡ find (is_readable l.number l.version) l.records
