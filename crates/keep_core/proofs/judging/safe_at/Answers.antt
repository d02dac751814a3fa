use Rattle.std.proofs.Common.{reverse, not, ap, ◌∙◌, sym, subst, slice_get}
use Rattle.keep_core.specs.Judged.{is_first}
use Rattle.keep_core.specs.Unheld.{is_held, protected_digests}
use Rattle.keep_core.proofs.HeldNowhere.{first-left, judged, never-unheld}
use Rattle.keep_core.proofs.judging.safe_at.Goals as goal

pub returns-in-Ok-clause-exact : goal.returns-in-Ok-clause-exact
returns-in-Ok-clause-exact c =
    let config = c.args.config.now in
    let past = reverse c.args.events.now in
    let first = ap (λ v. slice_get v 0) (c.deref.ensures.value ∙ c.in-Ok.ensures) ∙ sym (first-left (λ h. not (is_held config past h)) (protected_digests config past)) in
    judged config past c.first_unheld.result (subst (λ o. is_first o c.first_unheld.result) first c.first_unheld.ensures)

pub returns-in-Ok-clause-never_unheld : goal.returns-in-Ok-clause-never_unheld
returns-in-Ok-clause-never_unheld c = never-unheld c.args.config.now (reverse c.args.events.now) c.first_unheld.result (returns-in-Ok-clause-exact c)
