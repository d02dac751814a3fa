use Rattle.keep_tasks.proofs.Taking.{put-asks}
use Rattle.keep_tasks.proofs.put.PutTaskSteps.query.Goals as goal

pub returns-clause-named : goal.returns-clause-named
returns-clause-named c = λ next answers open_ h. put-asks _ _ _ next answers h
