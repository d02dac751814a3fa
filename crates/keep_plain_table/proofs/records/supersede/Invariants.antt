use Rattle.std.proofs.Common.{◌≡◌, ◌++◌, take, drop, map}
use Rattle.keep_event.specs.Table.{superseded}
use Rattle.keep_plain_table.proofs.records.supersede.Given as goal

abbrev pub invariant-loop-row : goal.invariant-loop-row
invariant-loop-row l = l.records ≡ map (superseded l.number l.standing) (take l.row-index l.fn.records) ++ drop l.row-index l.fn.records
