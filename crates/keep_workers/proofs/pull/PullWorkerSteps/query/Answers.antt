use Rattle.keep_workers.proofs.Pulls.{pull-asks}
use Rattle.keep_workers.proofs.pull.PullWorkerSteps.query.Goals as goal

pub returns-clause-named : goal.returns-clause-named
returns-clause-named c = λ next answers open_ h. pull-asks _ next answers h
