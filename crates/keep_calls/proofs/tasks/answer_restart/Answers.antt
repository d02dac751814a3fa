use Rattle.keep_event.specs.Port.{MayAsk}
use Rattle.keep_tasks.specs.Kinds.{IsRestart}
use Rattle.keep_steps.proofs.Opens.{may-ask}
use Rattle.keep_calls.proofs.tasks.answer_restart.Goals as goal

pub go_on-requires : goal.go_on-requires
go_on-requires g c =
    may-ask (λ t. t.ended) (λ t. IsRestart t.query) (λ t n. MayAsk n t.query) c.args.config.now _ c.in-Task.task _ (rw c.in-Task.is at (c.open.ensures.opened 0)) c.requires
