use Rattle.keep_running.proofs.running.AnyTaskSteps.take.Goals as goal

pub returns-in-Client-clause-taken : goal.returns-in-Client-clause-taken
returns-in-Client-clause-taken c = rw c.in-Client.is c.take.ensures.taken

pub returns-in-Client-clause-askable : goal.returns-in-Client-clause-askable
returns-in-Client-clause-askable c = rw c.in-Client.is c.take.ensures.askable

pub returns-in-Balance-clause-taken : goal.returns-in-Balance-clause-taken
returns-in-Balance-clause-taken c = rw c.in-Balance.is c.take-in-Balance.ensures.taken

pub returns-in-Balance-clause-askable : goal.returns-in-Balance-clause-askable
returns-in-Balance-clause-askable c = rw c.in-Balance.is c.take-in-Balance.ensures.askable

pub returns-in-TrashWorker-clause-taken : goal.returns-in-TrashWorker-clause-taken
returns-in-TrashWorker-clause-taken c = rw c.in-TrashWorker.is c.take-in-TrashWorker.ensures.taken

pub returns-in-TrashWorker-clause-askable : goal.returns-in-TrashWorker-clause-askable
returns-in-TrashWorker-clause-askable c = rw c.in-TrashWorker.is c.take-in-TrashWorker.ensures.askable

pub returns-in-PullWorker-clause-taken : goal.returns-in-PullWorker-clause-taken
returns-in-PullWorker-clause-taken c = rw c.in-PullWorker.is c.take-in-PullWorker.ensures.taken

pub returns-in-PullWorker-clause-askable : goal.returns-in-PullWorker-clause-askable
returns-in-PullWorker-clause-askable c = rw c.in-PullWorker.is c.take-in-PullWorker.ensures.askable

pub returns-in-EmptyWorker-clause-taken : goal.returns-in-EmptyWorker-clause-taken
returns-in-EmptyWorker-clause-taken c = rw c.in-EmptyWorker.is c.take-in-EmptyWorker.ensures.taken

pub returns-in-EmptyWorker-clause-askable : goal.returns-in-EmptyWorker-clause-askable
returns-in-EmptyWorker-clause-askable c = rw c.in-EmptyWorker.is c.take-in-EmptyWorker.ensures.askable
