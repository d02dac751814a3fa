use Rattle.std.proofs.Common.{[], ◌∷◌, ◌++◌, sym, subst}
use Rattle.keep_steps.specs.Steps.{IsTaken, answered}
use Rattle.keep_balance.specs.Gathering.{BalanceMayAsk}
use Rattle.keep_balance.specs.Standing.{Stands}
use Rattle.keep_balance.proofs.Shown.{round-may-ask, round-taken}
use Rattle.keep_balance.proofs.steps.BalanceTaskSteps.take.Goals as goal

pub returns-clause-taken : goal.returns-clause-taken
returns-clause-taken c = λ next answers h.
    subst (λ ended. IsTaken next (answers ++ answered c.args.reply.now ∷ []) c.in_ok-end.end (Stands (record c.take_answer.new.self { ended = ended }) next)) (sym c.is_some-self.ensures)
    (round-taken c.args.self.now c.take_answer.new.self (answered c.args.reply.now) c.in_ok-end.ensures.config c.in_ok-end.end c.in_ok-end.ensures.taken next answers h)

pub returns-clause-askable : goal.returns-clause-askable
returns-clause-askable c = λ devices h.
    subst (λ ended. BalanceMayAsk (record c.take_answer.new.self { ended = ended }) devices) (sym c.is_some-self.ensures)
    (round-may-ask c.args.self.now c.take_answer.new.self (answered c.args.reply.now) c.in_ok-end.ensures.config c.in_ok-end.end c.in_ok-end.ensures.taken c.requires.open devices h)
