use Rattle.keep_workers.proofs.Trashes.{trash-asks}
use Rattle.keep_workers.proofs.trash.TrashWorkerSteps.query.Goals as goal

pub returns-clause-named : goal.returns-clause-named
returns-clause-named c = λ next answers open_ h. trash-asks _ next answers h
