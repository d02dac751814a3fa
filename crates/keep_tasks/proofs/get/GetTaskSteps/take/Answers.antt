use Rattle.keep_event.specs.declared.device.DeviceQuery.TheVariants as Q
use Rattle.std.proofs.Common.{[], ◌∷◌, ◌++◌, ◌≡◌, None, ap, sym, ◌∙◌}
use Rattle.keep_history.specs.Next.{ends}
use Rattle.keep_history.specs.Tasks.{on_device, by_all, fetch_end, not_fetched}
use Rattle.keep_tasks.proofs.Taking.{none_when}
use Rattle.keep_tasks.proofs.Walking.{walk-ends, walk-last, walk-moves}
use Rattle.keep_tasks.proofs.get.GetTaskSteps.take.Goals as goal

pub returns-in-Some-clause-taken : goal.returns-in-Some-clause-taken
returns-in-Some-clause-taken c = λ next answers h.
    walk-ends (Q.Fetch h.digest) (on_device fetch_end) (by_all not_fetched) _ next answers _ _ (sym c.in_ok-end.ensures ∙ c.in-Some.is) h.walks

pub returns-then-advance-clause-taken : goal.returns-then-advance-clause-taken
returns-then-advance-clause-taken c = λ next answers h.
    let goes : on_device fetch_end c.args.reply.now.answer ≡ None = sym c.in_ok-end.ensures ∙ none_when _ c.in_default.not-Some in
    record {
      digest = h.digest;
      walks = walk-moves (Q.Fetch h.digest) (on_device fetch_end) (by_all not_fetched) _ _ next answers _ goes h.walks (c.advance.ensures.moved c.if-advance.true _ h.walks.seen h.walks.devices h.walks.at);
    }

pub returns-clause-taken : goal.returns-clause-taken
returns-clause-taken c = λ next answers h.
    let goes : on_device fetch_end c.args.reply.now.answer ≡ None = sym c.in_ok-end.ensures ∙ none_when _ c.in_default.not-Some in
    let over = c.advance.ensures.over c.if-advance.false (Q.Fetch h.digest) h.walks.seen h.walks.devices h.walks.at in
    walk-last (Q.Fetch h.digest) (on_device fetch_end) (by_all not_fetched) _ next answers _ goes over.0 h.walks ∙ ap ends (sym (c.not_fetched.ensures (h.walks.seen ++ c.args.reply.now.answer ∷ []) over.1.seen_is))
