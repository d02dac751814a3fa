use Rattle.keep_tasks.proofs.Taking.{untrash-begins}
use Rattle.keep_tasks.proofs.untrash.UntrashTask.begin.Goals as goal

pub returns-clause-stands : goal.returns-clause-stands
returns-clause-stands c = λ config. untrash-begins config c.args.devices c.args.digest _ (rw c.into_vec.ensures at c.in-Some.ensures.at)
