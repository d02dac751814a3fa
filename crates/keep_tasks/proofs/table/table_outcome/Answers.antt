use Rattle.std.proofs.Common.{sym, ◌∙◌}
use Rattle.keep_tasks.proofs.table.table_outcome.Goals as goal

pub unreachable-requires : goal.unreachable-requires
unreachable-requires c =
    let is = c.in_ok-outcome.ensures.end c.args.config.now c.args.query.now c.in_ok-ends.ensures c.token_of_query.ensures in
    cc (sym c.in-None.is ∙ is)
