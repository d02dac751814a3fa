use Rattle.std.proofs.Common.{ap, sym, ◌∙◌}
use Rattle.keep_history.specs.declared.task.Task.TheVariants as T
use Rattle.keep_tasks.specs.Openings.{made}
use Rattle.keep_steps.proofs.Opens.{ended-at-once, task-made}
use Rattle.keep_tasks.proofs.Opens.{get-opens, get-unknown}
use Rattle.keep_tasks.proofs.Taking.{none_when}
use Rattle.keep_tasks.proofs.get.GetTask.open.Goals as goal

pub returns-in_default : goal.returns-in_default
returns-in_default c = record {
  opened = let known = c.token.ensures in
      ended-at-once _ _ _ (get-unknown c.args.config.now c.args.token.now c.args.server c.args.reading c.args.locator.now (sym (none_when _ c.in_default.not-Some) ∙ known));
}

pub returns-in-Ok : goal.returns-in-Ok
returns-in-Ok c = record {
  opened = let known = c.token.ensures in
      let opens = get-opens c.args.config.now c.args.token.now c.args.server c.args.reading c.args.locator.now c.in-Some.id (sym c.in-Some.is ∙ known) ∙ c.in_ok-devices.ensures.opened ∙ ap (made (λ p. T.Get p.0 p.1)) c.in-Ok.is in
      task-made _ _ _ _ opens (c.begin.ensures.open, (c.begin.ensures.stands c.args.config.now, c.begin.ensures.may_ask _ (rw c.in-Ok.is at c.in_ok-devices.ensures.within)));
}

pub returns-in-Err : goal.returns-in-Err
returns-in-Err c = record {
  opened = let known = c.token.ensures in
      ended-at-once _ _ _ (get-opens c.args.config.now c.args.token.now c.args.server c.args.reading c.args.locator.now c.in-Some.id (sym c.in-Some.is ∙ known) ∙ c.in_ok-devices.ensures.opened ∙ ap (made (λ p. T.Get p.0 p.1)) c.in-Err.is);
}
