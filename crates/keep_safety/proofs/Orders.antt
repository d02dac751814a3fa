-- A round that is asked for in order: what is known of it between its events, for whoever shows that a run's history may happen: `own-event`, `other-event`, `own-in-order`, `counted-once`.
use Rattle.std.proofs.Common.{◌≡◌, ◌≤◌, ◌+◌, ℕ, List, [], ◌∷◌, count_by, refl, sym, ◌∙◌, ap, subst, Option, None, Some, arith, inl, inr}
use Rattle.std.specs.Prelude.{◌==◌}
use Rattle.std.specs.List.{AllByRecursion}
use Rattle.std.proofs.lemmas.Bool.{eq-eqb, ne_eqb}
use Rattle.keep_event.specs.declared.event.Event.{Event}
use Rattle.keep_event.specs.declared.event.Query.{Query}
use Rattle.keep_event.specs.declared.event.Answer.{Answer}
use Rattle.keep_table.proofs.Counts.{bit, count-cons}
use Rattle.keep_spec.specs.Members.{IsIn}
use Rattle.keep_safety.specs.Past.{Past}
use Rattle.keep_history.specs.Rounds.{Round, no_round, gave}
use Rattle.keep_safety.specs.Rounds.{round_in, Stage, stage, at_stage, MayPrecede, IsInOrder}
use Rattle.keep_spec.specs.Members.{AreDistinct}
use Rattle.keep_safety.proofs.Settled.{all-settled}

-- what a round gave so far, and the highest stage that it may have come to
pub record RoundIs (r : ℕ) (past : Past) (g : Round) (k : ℕ) : Type 0 where
  pub given : round_in r past ≡ g
  pub stages : AllByRecursion (λ x. MayPrecede (stage x.query x.answer) (at_stage r k)) past

-- an event isn't of the round
abbrev pub IsElsewhere : ℕ → Query → Answer → Type 0
IsElsewhere r q a = (j : ℕ) → stage q a ≡ at_stage r j → ⊥

later-stage : (o : Option Stage) (r k j : ℕ) → k ≤ j → MayPrecede o (at_stage r k) → MayPrecede o (at_stage r j)
later-stage None r k j le h = tt
later-stage (Some s) r k j le h = λ e. (let low = h e in omega arith)

later-stages : (past : Past) (r k j : ℕ) → k ≤ j → AllByRecursion (λ x. MayPrecede (stage x.query x.answer) (at_stage r k)) past → AllByRecursion (λ x. MayPrecede (stage x.query x.answer) (at_stage r j)) past
later-stages [] r k j le h = tt
later-stages (e ∷ past) r k j le h = (later-stage (stage e.query e.answer) r k j le h.0, later-stages past r k j le h.1)

-- the round's next event is in order, if its stage isn't lower
pub own-in-order : (r k j : ℕ) (past : Past) (g : Round) (q : Query) (a : Answer) → RoundIs r past g k → k ≤ j → stage q a ≡ at_stage r j → IsInOrder past q a
own-in-order r k j past g q a h le is = subst (λ o. AllByRecursion (λ x. MayPrecede (stage x.query x.answer) o) past) (sym is) (later-stages past r k j le h.stages)

-- so is an event of no round
none-before : (o p : Option Stage) → p ≡ None → MayPrecede o p
none-before None p is = tt
none-before (Some s) None is = tt
none-before (Some s) (Some t) is = cc is

pub no-round-in-order : (past : Past) (q : Query) (a : Answer) → stage q a ≡ None → IsInOrder past q a
no-round-in-order [] q a is = tt
no-round-in-order (e ∷ past) q a is = (none-before (stage e.query e.answer) (stage q a) is, no-round-in-order past q a is)

-- ---- after an event
elsewhere-before : (o : Option Stage) (r k : ℕ) → ((j : ℕ) → o ≡ at_stage r j → ⊥) → MayPrecede o (at_stage r k)
elsewhere-before None r k never = tt
elsewhere-before (Some s) r k never = λ e. absurd (never s.place (ap (λ n. at_stage n s.place) e))

pub other-event : (r k : ℕ) (past : Past) (g : Round) (e : Event) → RoundIs r past g k → IsElsewhere r e.query e.answer → RoundIs r (e ∷ past) g k
other-event r k past g e h never = record {
  given = ap (gave r e.query e.answer) h.given ∙ all-settled r g e.query e.answer (λ j is. absurd (never j is));
  stages = (elsewhere-before (stage e.query e.answer) r k never, h.stages);
}

own-before : (o : Option Stage) (r j : ℕ) → o ≡ at_stage r j → MayPrecede o (at_stage r j)
own-before o r j is = subst (λ o. MayPrecede o (at_stage r j)) (sym is) (λ e. omega arith)

pub own-event : (r k j : ℕ) (past : Past) (g : Round) (e : Event) → RoundIs r past g k → k ≤ j → stage e.query e.answer ≡ at_stage r j → RoundIs r (e ∷ past) (gave r e.query e.answer g) j
own-event r k j past g e h le is = record { given = ap (gave r e.query e.answer) h.given; stages = (own-before (stage e.query e.answer) r j is, later-stages past r k j le h.stages) }

-- a round of which nothing has happened
pub fresh-round : (r : ℕ) (past : Past) → AllByRecursion (λ x. IsElsewhere r x.query x.answer) past → RoundIs r past no_round 0
fresh-round r [] h = record { given = refl; stages = tt }
fresh-round r (e ∷ past) h = other-event r 0 past no_round e (fresh-round r past h.1) h.0

-- ---- each of some distinct devices is counted once
none-counted-by : (d x : ℕ) (xs : List ℕ) → (d ≡ x → ⊥) → count_by (λ y. y == d) xs ≡ 0 → count_by (λ y. y == d) (x ∷ xs) ≡ 0
none-counted-by d x xs never h = count-cons (λ y. y == d) x xs ∙ ap (λ b. bit b + count_by (λ y. y == d) xs) (ne_eqb x d (λ e. never (sym e))) ∙ (omega (arith, h))

none-counted : (d : ℕ) (xs : List ℕ) → (IsIn d xs → ⊥) → count_by (λ y. y == d) xs ≡ 0
none-counted d [] never = refl
none-counted d (x ∷ xs) never = none-counted-by d x xs (λ e. never (inl e)) (none-counted d xs (λ i. never (inr i)))

pub counted-once : (d : ℕ) (xs : List ℕ) → AreDistinct xs → IsIn d xs → count_by (λ y. y == d) xs ≡ 1
counted-once d [] h i = absurd i
counted-once d (x ∷ xs) h (inl e) =
    let none = none-counted d xs (λ i. h.0 (subst (λ v. IsIn v xs) e i)) in
    count-cons (λ y. y == d) x xs ∙ ap (λ b. bit b + count_by (λ y. y == d) xs) (eq-eqb x d (sym e)) ∙ (omega arith)
counted-once d (x ∷ xs) h (inr i) =
    let one = counted-once d xs h.1 i in
    count-cons (λ y. y == d) x xs ∙ ap (λ b. bit b + count_by (λ y. y == d) xs) (ne_eqb x d (λ e. h.0 (subst (λ v. IsIn v xs) (sym e) i))) ∙ (omega arith)
