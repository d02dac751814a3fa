use Rattle.std.proofs.Common.{rules}
use Rattle.keep_history.proofs.Collisions.{told-collisions}
use Rattle.keep_history.proofs.Finished.{told-finishes}
use Rattle.keep_history.proofs.GetsOfPuts.{told-reads}
use Rattle.keep_history.proofs.GoodTasks.{told-good-tasks}
use Rattle.keep_history.proofs.Ordered.{told-ordered}
use Rattle.keep_run.proofs.Inputs.{well-ran}
use Rattle.keep_run.proofs.Saves.{told-saves}
use Rattle.keep_run.proofs.call.run_call.Goals as goal

pub returns-clause-ran_well : goal.returns-clause-ran_well
returns-clause-ran_well g c = λ words bytes starts left tell. well-ran _ _ bytes _ starts _ _ _ (search rules)

pub returns-then-not-is_run-clause-reads : goal.returns-then-not-is_run-clause-reads
returns-then-not-is_run-clause-reads g c = told-reads _ _

pub returns-then-not-is_run-clause-collisions : goal.returns-then-not-is_run-clause-collisions
returns-then-not-is_run-clause-collisions g c = told-collisions _ _

pub returns-clause-reads : goal.returns-clause-reads
returns-clause-reads g c = told-reads _ _

pub returns-clause-collisions : goal.returns-clause-collisions
returns-clause-collisions g c = told-collisions _ _

pub returns-then-not-is_run-clause-good_tasks : goal.returns-then-not-is_run-clause-good_tasks
returns-then-not-is_run-clause-good_tasks g c = told-good-tasks _ _

pub returns-clause-good_tasks : goal.returns-clause-good_tasks
returns-clause-good_tasks g c = told-good-tasks _ _

pub returns-then-not-is_run-clause-saves : goal.returns-then-not-is_run-clause-saves
returns-then-not-is_run-clause-saves g c = told-saves _ _

pub returns-clause-saves : goal.returns-clause-saves
returns-clause-saves g c = told-saves _ _

pub returns-then-not-is_run-clause-finished : goal.returns-then-not-is_run-clause-finished
returns-then-not-is_run-clause-finished g c = told-finishes _ _

pub returns-clause-finished : goal.returns-clause-finished
returns-clause-finished g c = told-finishes _ _

pub returns-then-not-is_run-clause-ordered : goal.returns-then-not-is_run-clause-ordered
returns-then-not-is_run-clause-ordered g c = told-ordered _ _

pub returns-clause-ordered : goal.returns-clause-ordered
returns-clause-ordered g c = told-ordered _ _
