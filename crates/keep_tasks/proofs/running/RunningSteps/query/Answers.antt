use Rattle.keep_tasks.proofs.running.RunningSteps.query.Goals as goal

pub returns-in-Put-clause-named : goal.returns-in-Put-clause-named
returns-in-Put-clause-named c = rw c.in-Put.is c.query.ensures.named

pub returns-in-Get-clause-named : goal.returns-in-Get-clause-named
returns-in-Get-clause-named c = rw c.in-Get.is c.query-in-Get.ensures.named

pub returns-in-Touch-clause-named : goal.returns-in-Touch-clause-named
returns-in-Touch-clause-named c = rw c.in-Touch.is c.query-in-Touch.ensures.named

pub returns-in-Untrash-clause-named : goal.returns-in-Untrash-clause-named
returns-in-Untrash-clause-named c = rw c.in-Untrash.is c.query-in-Untrash.ensures.named

pub returns-in-Restart-clause-named : goal.returns-in-Restart-clause-named
returns-in-Restart-clause-named c = rw c.in-Restart.is c.query-in-Restart.ensures.named

pub returns-in-Table-clause-named : goal.returns-in-Table-clause-named
returns-in-Table-clause-named c = rw c.in-Table.is c.query-in-Table.ensures.named
