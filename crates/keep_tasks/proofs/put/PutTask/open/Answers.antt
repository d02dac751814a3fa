use Rattle.std.proofs.Common.{ap, sym, ◌∙◌}
use Rattle.keep_spec.specs.Config.{token_of}
use Rattle.keep_history.specs.declared.task.Task.TheVariants as T
use Rattle.keep_tasks.specs.Openings.{made}
use Rattle.keep_steps.proofs.Opens.{ended-at-once, task-made}
use Rattle.keep_tasks.proofs.Opens.{put-opens, put-unknown}
use Rattle.keep_tasks.proofs.Taking.{none_when}
use Rattle.keep_tasks.proofs.put.PutTask.open.Goals as goal

pub returns-in_default : goal.returns-in_default
returns-in_default c = record {
  opened = λ reading. let known = c.token-2.ensures ∙ ap (token_of c.args.config.now) c.as_slice.ensures in
      ended-at-once _ _ _ (put-unknown c.args.config.now c.args.token c.args.server reading c.args.bytes c.args.digest (sym (none_when _ c.in_default.not-Some) ∙ known));
}

pub returns-in_ok-task-in-Ok : goal.returns-in_ok-task-in-Ok
returns-in_ok-task-in-Ok c = record {
  opened = λ reading. let known = c.token-2.ensures ∙ ap (token_of c.args.config.now) c.as_slice.ensures in
      let opens = put-opens c.args.config.now c.args.token c.args.server reading c.args.bytes c.args.digest c.in-Some.id (sym c.in-Some.is ∙ known) ∙ c.in_ok-devices.ensures.opened c.in-Some.id c.args.token ∙ ap (made (λ p. T.Put p.0 c.args.token c.in-Some.id p.1)) c.in-Ok.is in
      task-made _ _ _ _ opens (c.in_ok-task-in-Ok.ensures.open, (c.in_ok-task-in-Ok.ensures.stands, c.in_ok-task-in-Ok.ensures.may_ask _ (rw c.in-Ok.is at c.in_ok-devices.ensures.within)));
}

pub returns-in-Err : goal.returns-in-Err
returns-in-Err c = record {
  opened = λ reading. let known = c.token-2.ensures ∙ ap (token_of c.args.config.now) c.as_slice.ensures in
      ended-at-once _ _ _ (put-opens c.args.config.now c.args.token c.args.server reading c.args.bytes c.args.digest c.in-Some.id (sym c.in-Some.is ∙ known) ∙ c.in_ok-devices.ensures.opened c.in-Some.id c.args.token ∙ ap (made (λ p. T.Put p.0 c.args.token c.in-Some.id p.1)) c.in-Err.is);
}
