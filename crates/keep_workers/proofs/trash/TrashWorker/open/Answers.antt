use Rattle.std.proofs.Common.{refl}
use Rattle.keep_steps.proofs.Opens.{task-made}
use Rattle.keep_workers.proofs.Trashes.{trash-begins, trash-opens}
use Rattle.keep_workers.proofs.trash.TrashWorker.open.Goals as goal

pub returns : goal.returns
returns c = record {
  opened = λ reading. task-made _ _ _ _ (trash-opens c.args._config.now c.args.device reading) (refl, (trash-begins c.args._config.now c.args.device _ refl refl refl, c.requires.within));
}
