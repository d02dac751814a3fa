use Rattle.std.proofs.Common.{◌<◌, length}
use Rattle.std.proofs.lemmas.List.{get_or_default}
use Rattle.std.proofs.lemmas.List.Edits.{map_over_more}
use Rattle.keep_event.specs.Table.{superseded}
use Rattle.keep_plain_table.proofs.records.supersede.Goals as goal

pub loop-row-preserved : goal.loop-row-preserved
loop-row-preserved c =
    let i = c.loop-row.row-index in
    let there : i < length c.loop-row.records = rw c.loop-row.auto.records c.loop-row-test.true in
    rw c.mark.ensures
    (map_over_more (superseded c.args.number c.args.standing) c.args.records.now c.loop-row.records i _ c.loop-row-test.true c.loop-row.invariant (get_or_default c.loop-row.records i _ _ there))
