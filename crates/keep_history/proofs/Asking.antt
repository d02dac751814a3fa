-- What asking a task up to so many times leaves: no event too many by `asked-within`, and an end, or no event left, by `asked-ends`.
use Rattle.std.proofs.Common.{◌≡◌, ◌≤◌, ◌<◌, ◌+◌, ℕ, zero, suc, ◌==◌, Bool, true, false, List, [], length, Option, None, Some, refl, arith}
use Rattle.std.specs.Prelude.{⊤, if◌then◌else◌, MatchOption}
use Rattle.std.proofs.lemmas.Bool.{eqb-true, eqb-false}
use Rattle.keep_spec.specs.Config.{Configuration}
use Rattle.keep_event.specs.World.{World}
use Rattle.keep_history.specs.declared.task.Outcome.{Outcome}
use Rattle.keep_history.specs.Effects.{Asked, Made, Standing, after_made, asked_on, event_of, events_max, with_answer}
use Rattle.keep_history.specs.Next.{Next, asks, ends}
use Rattle.keep_history.specs.Tasks.{next}

module _ (c : Configuration) (failed : List ℕ) where
  -- there was no event left, from the event of a number on
  pub record IsUsedUp (n : ℕ) (a : Asked) : Type 0 where
    pub spent : a.spent ≡ true
    pub made_all : n + length a.made ≡ events_max

  abbrev pub HasEndedOr : ℕ → Asked → Type 0
  HasEndedOr n a = MatchOption a.outcome (IsUsedUp n a) (λ outcome. ⊤)

  made-ended : (n : ℕ) (m : Made) (a : Asked) (o : Option Outcome) → a.outcome ≡ o → MatchOption o (IsUsedUp (n + 1) a) (λ outcome. ⊤) → MatchOption o (IsUsedUp n (after_made m a)) (λ outcome. ⊤)
  made-ended n m a None e h = record { spent = h.spent; made_all = let k = h.made_all in omega (arith, k) }
  made-ended n m a (Some outcome) e h = tt

  either-asked : (P : Asked → Type 0) (b : Bool) (x y : Asked) → (b ≡ true → P x) → (b ≡ false → P y) → P (if b then x else y)
  either-asked P true x y p q = p refl
  either-asked P false x y p q = q refl

  -- with turns for an event more than there may be, a task has ended, or no event is left
  pub asked-ends : (turns reading n : ℕ) (w : World) (s : Standing) (nx : Next) → n ≤ events_max → events_max < n + turns → HasEndedOr n (asked_on turns c failed reading n w s nx)
  unfolding asked_on
  asked-ends zero reading n w s (ends outcome) le enough = tt
  asked-ends (suc turns) reading n w s (ends outcome) le enough = tt
  asked-ends zero reading n w s (asks q) le enough = absurd (omega (arith, le, enough))
  asked-ends (suc turns) reading n w s (asks q) le enough =
      let m = event_of failed reading s.actor n q w in
      let after = with_answer s m.event in
      let rest = asked_on turns c failed reading (n + 1) m.left after (next c after.task after.answers) in
      either-asked (HasEndedOr n) (n == events_max) (record { made = []; world = w; standing = s; outcome = None; spent = true }) (after_made m rest)
      (λ e. record { spent = refl; made_all = let k = eqb-true n events_max e in omega (arith, k) })
      (λ e. let other = eqb-false n events_max e in made-ended n m rest rest.outcome refl (asked-ends turns reading (n + 1) m.left after (next c after.task after.answers) (omega (arith, le, other)) (omega (arith, enough))))

  -- the events of a run are at most as many as there may be
  pub asked-within : (turns reading n : ℕ) (w : World) (s : Standing) (nx : Next) → n ≤ events_max → n + length (asked_on turns c failed reading n w s nx).made ≤ events_max
  unfolding asked_on
  asked-within zero reading n w s (ends outcome) le = omega (arith, le)
  asked-within (suc turns) reading n w s (ends outcome) le = omega (arith, le)
  asked-within zero reading n w s (asks q) le = omega (arith, le)
  asked-within (suc turns) reading n w s (asks q) le =
      let m = event_of failed reading s.actor n q w in
      let after = with_answer s m.event in
      let rest = asked_on turns c failed reading (n + 1) m.left after (next c after.task after.answers) in
      either-asked (λ a. n + length a.made ≤ events_max) (n == events_max) (record { made = []; world = w; standing = s; outcome = None; spent = true }) (after_made m rest)
      (λ e. omega (arith, le))
      (λ e. let other = eqb-false n events_max e in let k = asked-within turns reading (n + 1) m.left after (next c after.task after.answers) (omega (arith, le, other)) in omega (arith, k))
