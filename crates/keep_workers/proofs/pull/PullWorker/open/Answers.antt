use Rattle.std.proofs.Common.{◌≡◌, ◌∙◌, ap, length, refl}
use Rattle.keep_spec.specs.Config.{Configuration}
use Rattle.keep_steps.proofs.Opens.{task-made}
use Rattle.keep_workers.proofs.Pulls.{pull-begins, pull-may-ask, pull-opens}
use Rattle.keep_workers.proofs.pull.PullWorker.open.Goals as goal

pub returns : goal.returns
returns c =
    let devices : c.len.result ≡ length c.args.config.now.devices = c.len.ensures ∙ ap (λ (s : Configuration). length s.devices) c.config.view_is in
    record {
      opened = λ reading. task-made _ _ _ _ (pull-opens c.args.config.now c.args.device reading)
          (refl, (pull-begins c.args.config.now c.args.device _ refl devices refl refl refl, pull-may-ask c.args.config.now c.args.device _ c.requires.within refl devices refl c.new.ensures.items));
    }
