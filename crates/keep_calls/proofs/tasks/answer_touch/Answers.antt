use Rattle.keep_tasks.specs.Kinds.{IsTouch}
use Rattle.keep_tasks.specs.Walks.{AreBelow}
use Rattle.keep_steps.proofs.Opens.{may-ask}
use Rattle.keep_calls.proofs.tasks.answer_touch.Goals as goal

pub go_on-requires : goal.go_on-requires
go_on-requires g c =
    may-ask (λ t. t.ended) (λ t. IsTouch t.walk t.locator) (λ t n. AreBelow n t.walk) c.args.config.now _ c.in-Task.task _ (rw c.in-Task.is at (c.in_ok-task.ensures.opened)) c.requires.devices
