-- What holds of the state of every name: `named` keeps it when a name is set, `looked-up` finds it, `after-end` gives it to a task that has ended, `all-more` weakens it.
use Rattle.std.proofs.Common.{ℕ, Bool, true, false, List, [], ◌∷◌, cond, Option, Some, IfSome}
use Rattle.std.specs.List.{AllByRecursion}
use Rattle.std.specs.Ordering.{match_ordering, nat_cmp}
use Rattle.std.specs.Cmp.Lexicographic.{slice_cmp}
use Rattle.std.specs.BTreeMap.{is_at}
use Rattle.std.specs.declared.cmp.Ordering.{Ordering}
use Rattle.std.specs.declared.cmp.Ordering.TheVariants.{Less, Equal, Greater}
use Rattle.keep_history.specs.declared.task.Outcome.{Outcome}
use Rattle.keep_history.specs.declared.task.Outcome.TheVariants as O
use Rattle.keep_history.specs.declared.task.TaskState.{TaskState}
use Rattle.keep_history.specs.declared.task.TaskState.TheVariants as S
use Rattle.keep_history.specs.Effects.{Standing, state_after}
use Rattle.keep_history.specs.Names.{Named, at_name, with_name}

module _ (P : TaskState Standing → Type 0) where
  abbrev pub AllNames : Named (TaskState Standing) → Type 0
  AllNames names = AllByRecursion (λ n. P n.1) names

  named-by : (o : Ordering) (name : List ℕ) (st : TaskState Standing) (e : List ℕ × TaskState Standing) (es rest : Named (TaskState Standing)) → P st → P e.1 → AllNames es → AllNames rest →
      AllNames (match_ordering o ((name, st) ∷ e ∷ es) ((e.0, st) ∷ es) (e ∷ rest))
  named-by Less name st e es rest p q h k = (p, (q, h))
  named-by Equal name st e es rest p q h k = (p, h)
  named-by Greater name st e es rest p q h k = (q, k)

  pub named : (name : List ℕ) (st : TaskState Standing) (names : Named (TaskState Standing)) → P st → AllNames names → AllNames (with_name name st names)
  named name st [] p h = (p, tt)
  named name st (e ∷ es) p h = named-by (slice_cmp nat_cmp name e.0) name st e es (with_name name st es) p h.0 h.1 (named name st es p h.1)

  looked-by : (b : Bool) (st : TaskState Standing) (rest : Option (TaskState Standing)) → P st → IfSome rest P → IfSome (cond b (Some st) rest) P
  looked-by true st rest p h = p
  looked-by false st rest p h = h

  pub looked-up : (name : List ℕ) (names : Named (TaskState Standing)) → AllNames names → IfSome (at_name name names) P
  looked-up name [] h = tt
  looked-up name (e ∷ es) h = looked-by (is_at (slice_cmp nat_cmp name) e.0) e.1 (at_name name es) h.0 (looked-up name es h.1)

  -- what holds of each state that is not open holds after an end
  pub after-end : ((locator : List ℕ) → P (S.Located locator)) → ((text : List ℕ) → P (S.Row text)) → P S.Ended → (o : Outcome) → P (state_after o)
  after-end located row ended (O.Stored locator) = located locator
  after-end located row ended (O.Touched locator) = located locator
  after-end located row ended (O.Row version want trash_at text) = row text
  after-end located row ended _ = ended

pub all-more : {X : Type 0} (P Q : X → Type 0) → ((x : X) → P x → Q x) → (xs : List X) → AllByRecursion P xs → AllByRecursion Q xs
all-more P Q f [] h = tt
all-more P Q f (x ∷ xs) h = (f x h.0, all-more P Q f xs h.1)
