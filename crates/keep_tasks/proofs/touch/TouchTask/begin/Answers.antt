use Rattle.std.proofs.Common.{Some, ap}
use Rattle.keep_tasks.proofs.Taking.{touch-begins}
use Rattle.keep_tasks.proofs.touch.TouchTask.begin.Goals as goal

pub returns-clause-stands : goal.returns-clause-stands
returns-clause-stands c =
    touch-begins c.args.config.now c.args.id c.args.devices c.args.token c.args.digest c.args.stripped.now _ _ (ap Some c.in_ok-locator.ensures) (rw c.into_vec.ensures at c.in-Some.ensures.at)
