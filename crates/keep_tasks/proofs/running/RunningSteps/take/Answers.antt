use Rattle.keep_tasks.proofs.running.RunningSteps.take.Goals as goal

pub returns-in-Put-clause-taken : goal.returns-in-Put-clause-taken
returns-in-Put-clause-taken c = rw c.in-Put.is c.take.ensures.taken

pub returns-in-Put-clause-askable : goal.returns-in-Put-clause-askable
returns-in-Put-clause-askable c = rw c.in-Put.is c.take.ensures.askable

pub returns-in-Get-clause-taken : goal.returns-in-Get-clause-taken
returns-in-Get-clause-taken c = rw c.in-Get.is c.take-in-Get.ensures.taken

pub returns-in-Get-clause-askable : goal.returns-in-Get-clause-askable
returns-in-Get-clause-askable c = rw c.in-Get.is c.take-in-Get.ensures.askable

pub returns-in-Touch-clause-taken : goal.returns-in-Touch-clause-taken
returns-in-Touch-clause-taken c = rw c.in-Touch.is c.take-in-Touch.ensures.taken

pub returns-in-Touch-clause-askable : goal.returns-in-Touch-clause-askable
returns-in-Touch-clause-askable c = rw c.in-Touch.is c.take-in-Touch.ensures.askable

pub returns-in-Untrash-clause-taken : goal.returns-in-Untrash-clause-taken
returns-in-Untrash-clause-taken c = rw c.in-Untrash.is c.take-in-Untrash.ensures.taken

pub returns-in-Untrash-clause-askable : goal.returns-in-Untrash-clause-askable
returns-in-Untrash-clause-askable c = rw c.in-Untrash.is c.take-in-Untrash.ensures.askable

pub returns-in-Restart-clause-taken : goal.returns-in-Restart-clause-taken
returns-in-Restart-clause-taken c = rw c.in-Restart.is c.take-in-Restart.ensures.taken

pub returns-in-Restart-clause-askable : goal.returns-in-Restart-clause-askable
returns-in-Restart-clause-askable c = rw c.in-Restart.is c.take-in-Restart.ensures.askable

pub returns-in-Table-clause-taken : goal.returns-in-Table-clause-taken
returns-in-Table-clause-taken c = rw c.in-Table.is c.take-in-Table.ensures.taken

pub returns-in-Table-clause-askable : goal.returns-in-Table-clause-askable
returns-in-Table-clause-askable c = rw c.in-Table.is c.take-in-Table.ensures.askable
