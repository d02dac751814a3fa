use Rattle.keep_event.specs.declared.device.DeviceQuery.TheVariants as Q
use Rattle.std.proofs.Common.{[], ◌∷◌, ◌++◌, ◌≡◌, None, Some, ap, sym, ◌∙◌}
use Rattle.keep_history.specs.Next.{ends}
use Rattle.keep_history.specs.Tasks.{on_device, by_all, touch_end, not_touched}
use Rattle.keep_tasks.proofs.Taking.{none_when}
use Rattle.keep_tasks.proofs.Walking.{walk-ends, walk-last, walk-moves}
use Rattle.keep_tasks.proofs.touch.TouchTaskSteps.take.Goals as goal

pub returns-in-Some-clause-taken : goal.returns-in-Some-clause-taken
returns-in-Some-clause-taken c = λ next answers h.
    walk-ends (Q.Touch h.digest (Some h.id)) (on_device (touch_end h.config h.token h.digest h.text)) (by_all not_touched) _ next answers _ _
    (sym (c.in-Some.ensures.end h.config h.token h.digest h.text h.locator_is)) h.walks

pub returns-then-advance-clause-taken : goal.returns-then-advance-clause-taken
returns-then-advance-clause-taken c = λ next answers h.
    let none = none_when _ c.in_default.not-Some in
    let goes : on_device (touch_end h.config h.token h.digest h.text) c.args.reply.now.answer ≡ None = sym (c.touch_end.ensures.end h.config h.token h.digest h.text h.locator_is) ∙ none in
    record {
      config = h.config;
      id = h.id;
      token = h.token;
      digest = h.digest;
      text = h.text;
      locator_is = c.touch_end.ensures.kept none ∙ h.locator_is;
      walks = walk-moves (Q.Touch h.digest (Some h.id)) (on_device (touch_end h.config h.token h.digest h.text)) (by_all not_touched) _ _ next answers _ goes h.walks
          (c.advance.ensures.moved c.if-advance.true _ h.walks.seen h.walks.devices h.walks.at);
    }

pub returns-clause-taken : goal.returns-clause-taken
returns-clause-taken c = λ next answers h.
    let none = none_when _ c.in_default.not-Some in
    let goes : on_device (touch_end h.config h.token h.digest h.text) c.args.reply.now.answer ≡ None = sym (c.touch_end.ensures.end h.config h.token h.digest h.text h.locator_is) ∙ none in
    let over = c.advance.ensures.over c.if-advance.false (Q.Touch h.digest (Some h.id)) h.walks.seen h.walks.devices h.walks.at in
    walk-last (Q.Touch h.digest (Some h.id)) (on_device (touch_end h.config h.token h.digest h.text)) (by_all not_touched) _ next answers _ goes over.0 h.walks
    ∙ ap ends (sym (c.not_touched.ensures (h.walks.seen ++ c.args.reply.now.answer ∷ []) over.1.seen_is))
