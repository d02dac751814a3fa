use Rattle.keep_workers.proofs.Empties.{empty-asks}
use Rattle.keep_workers.proofs.empty.EmptyWorkerSteps.query.Goals as goal

pub returns-clause-named : goal.returns-clause-named
returns-clause-named c = λ next answers open_ h. empty-asks _ next answers h
