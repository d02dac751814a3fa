use Rattle.std.proofs.Common.{ap, sym, ◌∙◌}
use Rattle.keep_spec.specs.Config.{token_of}
use Rattle.keep_history.specs.declared.task.Task.TheVariants as T
use Rattle.keep_tasks.specs.Openings.{made}
use Rattle.keep_steps.proofs.Opens.{ended-at-once, task-made}
use Rattle.keep_tasks.proofs.Opens.{touch-opens, touch-unknown}
use Rattle.keep_tasks.proofs.Taking.{none_when}
use Rattle.keep_tasks.proofs.touch.TouchTask.open.Goals as goal

pub returns-in_default : goal.returns-in_default
returns-in_default c = record {
  opened = let known = c.token-2.ensures ∙ ap (token_of c.args.config.now) c.as_slice.ensures in
      ended-at-once _ _ _ (touch-unknown c.args.config.now c.args.token c.args.server c.args.reading c.args.locator.now (sym (none_when _ c.in_default.not-Some) ∙ known));
}

pub returns-in_ok-task-in-Ok : goal.returns-in_ok-task-in-Ok
returns-in_ok-task-in-Ok c = record {
  opened = let known = c.token-2.ensures ∙ ap (token_of c.args.config.now) c.as_slice.ensures in
      let opens = touch-opens c.args.config.now c.args.token c.args.server c.args.reading c.args.locator.now c.in-Some.id (sym c.in-Some.is ∙ known) ∙ (rw c.as_slice-2.ensures at c.in_ok-devices.ensures.opened) ∙ ap (made (λ p. T.Touch p.0 c.args.token c.in-Some.id p.1 p.2)) c.in-Ok.is in
      task-made _ _ _ _ opens (c.in_ok-task-in-Ok.ensures.open, (rw c.as_slice-in-Ok.ensures at c.in_ok-task-in-Ok.ensures.stands, c.in_ok-task-in-Ok.ensures.may_ask _ (rw c.in-Ok.is at c.in_ok-devices.ensures.within)));
}

pub returns-in-Err : goal.returns-in-Err
returns-in-Err c = record {
  opened = let known = c.token-2.ensures ∙ ap (token_of c.args.config.now) c.as_slice.ensures in
      ended-at-once _ _ _ (touch-opens c.args.config.now c.args.token c.args.server c.args.reading c.args.locator.now c.in-Some.id (sym c.in-Some.is ∙ known) ∙ (rw c.as_slice-2.ensures at c.in_ok-devices.ensures.opened) ∙ ap (made (λ p. T.Touch p.0 c.args.token c.in-Some.id p.1 p.2)) c.in-Err.is);
}
