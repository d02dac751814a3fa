use Rattle.keep_table.proofs.Orderly.{scan-rises}
use Rattle.keep_table.proofs.table.Table.scan.Goals as goal

pub returns-clause-rows_rise : goal.returns-clause-rows_rise
returns-clause-rows_rise c =
    rw c.in_ok-rows.ensures.rows
    (scan-rises c.self.inside.numbers c.self.inside.revisions c.args.after c.args.limit c.self.inside.records c.self.invariant.0)
