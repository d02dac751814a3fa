use Rattle.keep_running.proofs.running.AnyTaskSteps.query.Goals as goal

pub returns-in-Client-clause-named : goal.returns-in-Client-clause-named
returns-in-Client-clause-named c = rw c.in-Client.is c.query.ensures.named

pub returns-in-Balance-clause-named : goal.returns-in-Balance-clause-named
returns-in-Balance-clause-named c = rw c.in-Balance.is c.query-in-Balance.ensures.named

pub returns-in-TrashWorker-clause-named : goal.returns-in-TrashWorker-clause-named
returns-in-TrashWorker-clause-named c = rw c.in-TrashWorker.is c.query-in-TrashWorker.ensures.named

pub returns-in-PullWorker-clause-named : goal.returns-in-PullWorker-clause-named
returns-in-PullWorker-clause-named c = rw c.in-PullWorker.is c.query-in-PullWorker.ensures.named

pub returns-in-EmptyWorker-clause-named : goal.returns-in-EmptyWorker-clause-named
returns-in-EmptyWorker-clause-named c = rw c.in-EmptyWorker.is c.query-in-EmptyWorker.ensures.named
