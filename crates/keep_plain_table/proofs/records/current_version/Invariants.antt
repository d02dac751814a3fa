use Rattle.std.proofs.Common.{◌≡◌, drop}
use Rattle.std.specs.List.{find}
use Rattle.keep_event.specs.Table.{is_current_of}
use Rattle.keep_plain_table.proofs.records.current_version.Given as goal

abbrev pub invariant-loop-row : goal.invariant-loop-row
invariant-loop-row l = find (is_current_of l.number) (drop l.row-index l.records) ≡ find (is_current_of l.number) l.records
