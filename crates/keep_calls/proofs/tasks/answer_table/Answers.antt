use Rattle.keep_event.specs.Port.{MayAsk}
use Rattle.keep_history.specs.Tasks.{asks_table}
use Rattle.keep_tasks.specs.Tables.{IsTable}
use Rattle.keep_steps.proofs.Opens.{may-ask}
use Rattle.keep_calls.proofs.tasks.answer_table.Goals as goal

pub go_on-requires : goal.go_on-requires
go_on-requires g c =
    may-ask (λ t. t.ended) (λ t. IsTable t.query t.ends) (λ t n. MayAsk n t.query) c.args.config.now (asks_table c.in-Some.query) c.in-Task.task _ (rw c.in-Task.is at (c.in_ok-task.ensures.opened)) c.requires
