use Rattle.std.proofs.Common.{refl}
use Rattle.keep_steps.proofs.Opens.{task-made}
use Rattle.keep_tasks.proofs.Opens.{restart-opens, restart-begins}
use Rattle.keep_tasks.proofs.restart.RestartTask.open.Goals as goal

pub returns : goal.returns
returns c = record {
  opened = λ reading. task-made _ _ _ _ (restart-opens c.args._config.now c.args.device reading) (refl, (restart-begins c.args._config.now c.args.device, c.requires.within));
}
