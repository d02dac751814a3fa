use Rattle.std.proofs.Common.{◌+◌, refl, sym, ◌∙◌, ap, subst}
use Rattle.keep_history.specs.Next.{ends}
use Rattle.keep_balance.specs.Standing.{HandsOn}
use Rattle.keep_balance.proofs.Planned.{all-handed, handed}
use Rattle.keep_balance.proofs.task.BalanceTask.hand_on.Goals as goal

pub returns-in-Some-clause-handed : goal.returns-in-Some-clause-handed
returns-in-Some-clause-handed c = λ s h.
    handed (c.args.device + 1) c.args.self.now s h c.hand_to.new.self c.hand_to.result
    (subst (λ k. HandsOn k c.args.self.now c.hand_to.new.self c.hand_to.result) c.in-Some.ensures.some.0 c.hand_to.ensures.handed)

pub returns-in-None-clause-handed : goal.returns-in-None-clause-handed
returns-in-None-clause-handed c = λ s h.
    (all-handed (c.args.device + 1) c.args.self.now s h (c.in-None.ensures.none refl) ∙ ap ends (sym c.balanced.ensures), refl)
