use Rattle.keep_event.specs.declared.device.DeviceQuery.TheVariants as Q
use Rattle.std.proofs.Common.{[], ◌∷◌, ◌++◌, ap, sym, ◌∙◌}
use Rattle.keep_history.specs.Next.{ends}
use Rattle.keep_history.specs.Tasks.{on_device, by_all, no_end, untrashed}
use Rattle.keep_tasks.proofs.Taking.{goes-on}
use Rattle.keep_tasks.proofs.Walking.{walk-last, walk-moves}
use Rattle.keep_tasks.proofs.untrash.UntrashTaskSteps.take.Goals as goal

pub returns-then-advance-clause-taken : goal.returns-then-advance-clause-taken
returns-then-advance-clause-taken c = λ next answers h. record {
  digest = h.digest;
  walks = walk-moves (Q.Untrash h.digest) (on_device no_end) (by_all untrashed) _ _ next answers _ (goes-on c.args.reply.now.answer) h.walks (c.advance.ensures.moved c.if-advance.true _ h.walks.seen h.walks.devices h.walks.at);
}

pub returns-clause-taken : goal.returns-clause-taken
returns-clause-taken c = λ next answers h.
    let over = c.advance.ensures.over c.if-advance.false (Q.Untrash h.digest) h.walks.seen h.walks.devices h.walks.at in
    walk-last (Q.Untrash h.digest) (on_device no_end) (by_all untrashed) _ next answers _ (goes-on c.args.reply.now.answer) over.0 h.walks ∙ ap ends (sym (c.untrashed.ensures (h.walks.seen ++ c.args.reply.now.answer ∷ []) over.1.seen_is))
