use Rattle.std.proofs.Common.{◌≡◌, ap, sym, get_or, ◌∙◌, arith}
use Rattle.keep_plan.specs.Decided.{with_decided}
use Rattle.keep_plan.proofs.Numbers.{each-more}
use Rattle.keep_plan.proofs.give.give_all.Goals as goal

pub loop-place-preserved : goal.loop-place-preserved
loop-place-preserved c =
    let place = c.loop-place.place in
    let f = with_decided c.args.decision.now c.args.config.now c.args.threshold c.args.entries.now in
    let number : c.in-Ok.device ≡ place = omega (arith, c.in-Ok.ensures) in
    each-more f place c.args.drafts.now c.loop-place.drafts c.index-drafts-place.result c.give.new.draft (omega arith) c.loop-place.invariant c.index-drafts-place.is
    (c.in_ok-give.ensures ∙ ap (λ d. f d (get_or c.loop-place.drafts place c.index-drafts-place.result)) number ∙ ap (f place) (sym c.index-drafts-place.is))
