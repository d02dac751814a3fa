-- Replies and events in the order in which they came, for code that appends.
use Rattle.std.proofs.Common.{◌≡◌, ℕ, List, [], ◌∷◌, ◌++◌, reverse, Bool, sym, ap, subst}
use Rattle.std.proofs.lemmas.List.{reverse-append}
use Rattle.keep_spec.specs.Config.{Configuration}
use Rattle.keep_event.specs.declared.event.Event.{Event}
use Rattle.keep_history.specs.Next.{Answered}
use Rattle.keep_rounds.specs.Balance.{next_of, after_next, standing}
use Rattle.keep_rounds.specs.Interleaved.{IsStep, AreSteps}

pub standing-more : (c : Configuration) (replies : List Answered) (x : Answered) → standing c (reverse (replies ++ x ∷ [])) ≡ after_next (next_of c (standing c (reverse replies))) x (standing c (reverse replies))
standing-more c replies x = ap (standing c) (reverse-append replies (x ∷ []))

pub steps-more : (c : Configuration) (task_of : Event → ℕ) (balances : ℕ → Bool) (events : List Event) (e : Event) →
    AreSteps c task_of balances (reverse events) → IsStep c task_of balances (reverse events) e → AreSteps c task_of balances (reverse (events ++ e ∷ []))
steps-more c task_of balances events e h step = subst (AreSteps c task_of balances) (sym (reverse-append events (e ∷ []))) (step, h)
