use Rattle.keep_balance.proofs.Shown.{round-asks}
use Rattle.keep_balance.proofs.steps.BalanceTaskSteps.query.Goals as goal

pub returns-clause-named : goal.returns-clause-named
returns-clause-named c = λ next answers open_ h. round-asks _ next answers h
