use Rattle.keep_rounds.proofs.Finish.{tasks-end}
use Rattle.keep_rounds.proofs.tasks_end.Goals as goal

pub returns : goal.returns
returns c = tasks-end
