use Rattle.keep_tasks.specs.Kinds.{IsPut, ArePut}
use Rattle.keep_steps.proofs.Opens.{may-ask}
use Rattle.keep_calls.proofs.tasks.answer_put.Goals as goal

pub go_on-requires : goal.go_on-requires
go_on-requires g c =
    may-ask (λ t. t.ended) (λ t. IsPut t.walk t.locator t.writes) (λ t n. ArePut n t.walk t.writes) c.args.config.now _ c.in-Task.task _ (rw c.in-Task.is at (c.in_ok-task.ensures.opened 0)) c.requires.devices
