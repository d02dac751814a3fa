-- A worker that was answered: `ends-there`, where the rule ends after the answer, and `stands-there`, where it goes on; `asks-below` and `ends-at` on the greatest number of items.
use Rattle.std.proofs.Common.{◌≡◌, ◌<◌, ℕ, false, List, [], ◌∷◌, ◌++◌, nat_lt, if◌then◌else◌, sym, ◌∙◌, ap, subst}
use Rattle.std.proofs.lemmas.Bool.{lt-ltb}
use Rattle.keep_event.specs.declared.event.Query.{Query}
use Rattle.keep_history.specs.declared.task.Outcome.{Outcome}
use Rattle.keep_history.specs.Next.{Answered, GoesFrom, Next, asks, ends}
use Rattle.keep_history.specs.Workers.{below_max, items_max}
use Rattle.keep_history.proofs.Going.{goes-after, goes-asks}

module _ {S : Type 0} (next : S → Next) (after : Query → Answered → S → S) (s : S) (by : List Answered → Next) (answers : List Answered) (goes : GoesFrom next after s by answers) (q : Query) (asked : next s ≡ asks q) (a : Answered) where
  pub ends-there : (outcome : Outcome) → next (after q a s) ≡ ends outcome → by (answers ++ a ∷ []) ≡ ends outcome
  ends-there outcome e = goes-asks next after (after q a s) by (answers ++ a ∷ []) (goes-after next after s by answers goes q a asked) ∙ e

  pub stands-there : (t : S) → t ≡ after q a s → GoesFrom next after t by (answers ++ a ∷ [])
  stands-there t e = subst (λ v. GoesFrom next after v by (answers ++ a ∷ [])) (sym e) (goes-after next after s by answers goes q a asked)

module _ (items : ℕ) (q : Query) (outcome : Outcome) where
  pub asks-below : items < items_max → below_max items q outcome ≡ asks q
  asks-below h = ap (λ b. if b then asks q else ends outcome) (lt-ltb items items_max h)

  pub ends-at : nat_lt items items_max ≡ false → below_max items q outcome ≡ ends outcome
  ends-at e = ap (λ b. if b then asks q else ends outcome) e
