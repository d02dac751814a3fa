use Rattle.std.proofs.Common.{refl}
use Rattle.keep_steps.proofs.Opens.{task-made}
use Rattle.keep_workers.proofs.Empties.{empty-begins, empty-opens}
use Rattle.keep_workers.proofs.empty.EmptyWorker.open.Goals as goal

pub returns : goal.returns
returns c = record {
  opened = λ reading. task-made _ _ _ _ (empty-opens c.args._config.now c.args.device reading) (refl, (empty-begins c.args._config.now c.args.device _ refl refl, c.requires.within));
}
