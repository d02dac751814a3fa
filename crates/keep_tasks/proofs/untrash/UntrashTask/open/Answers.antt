use Rattle.std.proofs.Common.{ap, sym, ◌∙◌}
use Rattle.keep_history.specs.declared.task.Task.TheVariants as T
use Rattle.keep_tasks.specs.Openings.{made}
use Rattle.keep_steps.proofs.Opens.{ended-at-once, task-made}
use Rattle.keep_tasks.proofs.Opens.{untrash-opens, untrash-unknown}
use Rattle.keep_tasks.proofs.Taking.{none_when}
use Rattle.keep_tasks.proofs.untrash.UntrashTask.open.Goals as goal

pub returns-in_default : goal.returns-in_default
returns-in_default c = record {
  opened = λ reading. let known = c.token.ensures in
      ended-at-once _ _ _ (untrash-unknown c.args.config.now c.args.token.now c.args.server reading c.args.digest (sym (none_when _ c.in_default.not-Some) ∙ known));
}

pub returns-in-Ok : goal.returns-in-Ok
returns-in-Ok c = record {
  opened = λ reading. let known = c.token.ensures in
      let opens = untrash-opens c.args.config.now c.args.token.now c.args.server reading c.args.digest c.in-Some.id (sym c.in-Some.is ∙ known) ∙ c.in_ok-devices.ensures.opened c.args.digest ∙ ap (made (λ p. T.Untrash p c.args.digest)) c.in-Ok.is in
      task-made _ _ _ _ opens (c.begin.ensures.open, (c.begin.ensures.stands c.args.config.now, c.begin.ensures.may_ask _ (rw c.in-Ok.is at c.in_ok-devices.ensures.within)));
}

pub returns-in-Err : goal.returns-in-Err
returns-in-Err c = record {
  opened = λ reading. let known = c.token.ensures in
      ended-at-once _ _ _ (untrash-opens c.args.config.now c.args.token.now c.args.server reading c.args.digest c.in-Some.id (sym c.in-Some.is ∙ known) ∙ c.in_ok-devices.ensures.opened c.args.digest ∙ ap (made (λ p. T.Untrash p c.args.digest)) c.in-Err.is);
}
