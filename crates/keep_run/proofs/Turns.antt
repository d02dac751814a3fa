-- The turns of a task: what one does (`turn-spent-is`, `turn-event`), and how more go on from it (`turn-more`, `turn-ended`, `turn-over`, `turn-prefix`); events before a rest (`after-all-is`, `after-all-append`).
use Rattle.std.proofs.Common.{◌≡◌, ◌≢◌, ◌≤◌, ℕ, zero, suc, ◌+◌, Bool, true, false, List, [], ◌∷◌, ◌++◌, length, take, Option, None, Some, refl, sym, ◌∙◌, ap, subst, arith}
use Rattle.std.specs.Prelude.{◌==◌, if◌then◌else◌}
use Rattle.std.proofs.lemmas.Bool.{eq-eqb, ne_eqb}
use Rattle.std.proofs.lemmas.List.{take-append-le, length-take}
use Rattle.keep_spec.specs.Config.{Configuration}
use Rattle.keep_event.specs.World.{World}
use Rattle.keep_event.specs.declared.event.Query.{Query}
use Rattle.keep_history.specs.declared.task.Outcome.{Outcome}
use Rattle.keep_history.specs.Effects.{Made, Asked, Standing, asked_on, after_made, event_of, events_max, with_answer}
use Rattle.keep_history.specs.Next.{Next, asks, ends}
use Rattle.keep_history.specs.Tasks.{next}
use Rattle.keep_run.specs.Turns.{after_all}

pub after-all-is : (ms : List Made) (rest : Asked) → after_all ms rest ≡ record { made = ms ++ rest.made; world = rest.world; standing = rest.standing; outcome = rest.outcome; spent = rest.spent }
after-all-is [] rest = refl
after-all-is (m ∷ ms) rest = ap (after_made m) (after-all-is ms rest)

pub after-all-append : (a b : List Made) (rest : Asked) → after_all (a ++ b) rest ≡ after_all a (after_all b rest)
after-all-append [] b rest = refl
after-all-append (m ∷ ms) b rest = ap (after_made m) (after-all-append ms b rest)

-- nothing was asked
abbrev pub stopped : World → Standing → Option Outcome → Bool → Asked
stopped w s outcome spent = record { made = []; world = w; standing = s; outcome = outcome; spent = spent }

module _ (c : Configuration) (failed : List ℕ) (reading : ℕ) where
  abbrev turns_from : ℕ → ℕ → World → Standing → Next → Asked
  turns_from turns n w s nx = asked_on turns c failed reading n w s nx

  pub turns-end : (turns n : ℕ) (w : World) (s : Standing) (o : Outcome) → turns_from turns n w s (ends o) ≡ stopped w s (Some o) false
  unfolding asked_on
  turns-end zero n w s o = refl
  turns-end (suc t) n w s o = refl

  pub turns-none : (n : ℕ) (w : World) (s : Standing) (q : Query) → turns_from zero n w s (asks q) ≡ stopped w s None false
  unfolding asked_on
  turns-none n w s q = refl

  abbrev goes_on : ℕ → ℕ → Standing → Made → Asked
  goes_on t n s m = turns_from t (n + 1) m.left (with_answer s m.event) (next c (with_answer s m.event).task (with_answer s m.event).answers)

  abbrev by_number : Bool → ℕ → ℕ → World → Standing → Query → Asked
  by_number b t n w s q =
      if b then stopped w s None true else after_made (event_of failed reading s.actor n q w) (goes_on t n s (event_of failed reading s.actor n q w))

  turns-ask : (t n : ℕ) (w : World) (s : Standing) (q : Query) → turns_from (suc t) n w s (asks q) ≡ by_number (n == events_max) t n w s q
  unfolding asked_on
  turns-ask t n w s q = refl

  -- where all numbers are drawn
  pub turn-spent-is : (t n : ℕ) (w : World) (s : Standing) (q : Query) → n ≡ events_max → turns_from (suc t) n w s (asks q) ≡ stopped w s None true
  turn-spent-is t n w s q e = turns-ask t n w s q ∙ ap (λ b. by_number b t n w s q) (eq-eqb n events_max e)

  -- an event, and what comes after it
  pub turn-event : (t n : ℕ) (w : World) (s : Standing) (q : Query) (m : Made) → n ≢ events_max → event_of failed reading s.actor n q w ≡ m → turns_from (suc t) n w s (asks q) ≡ after_made m (goes_on t n s m)
  turn-event t n w s q m ne e = turns-ask t n w s q ∙ ap (λ b. by_number b t n w s q) (ne_eqb n events_max ne) ∙ ap (λ v. after_made v (goes_on t n s v)) e

  -- ---- one turn, and more

  abbrev from_standing : ℕ → ℕ → Asked → Asked
  from_standing t n a = turns_from t (n + length a.made) a.world a.standing (next c a.standing.task a.standing.answers)

  abbrev Goes : ℕ → ℕ → Asked → Asked → Type 0
  Goes t n more a = a.outcome ≡ None → a.spent ≡ false → more ≡ after_all a.made (from_standing t n a)

  none-some : {X : Type 0} (x : X) → Some x ≡ None → ⊥
  none-some x e = cc

  true-false : true ≡ false → ⊥
  true-false e = cc

  more-after : (t n : ℕ) (s : Standing) (m : Made) (nx : Next) → next c (with_answer s m.event).task (with_answer s m.event).answers ≡ nx → Goes t n (after_made m (goes_on t n s m)) (after_made m (turns_from zero (n + 1) m.left (with_answer s m.event) nx))
  unfolding asked_on
  more-after t n s m (ends o) e none not_spent = absurd (none-some o none)
  more-after t n s m (asks q) e none not_spent = refl

  more-by : (b : Bool) (t n : ℕ) (w : World) (s : Standing) (q : Query) → Goes t n (by_number b t n w s q) (by_number b zero n w s q)
  more-by true t n w s q none not_spent = absurd (true-false not_spent)
  more-by false t n w s q none not_spent = more-after t n s (event_of failed reading s.actor n q w) _ refl none not_spent

  turn-more-at : (t n : ℕ) (w : World) (s : Standing) (nx : Next) → Goes t n (turns_from (suc t) n w s nx) (turns_from 1 n w s nx)
  unfolding asked_on
  turn-more-at t n w s (ends o) none not_spent = absurd (none-some o none)
  turn-more-at t n w s (asks q) none not_spent = more-by (n == events_max) t n w s q none not_spent

  -- a turn after which the task asks on
  pub turn-more : (t n : ℕ) (w : World) (s : Standing) (nx : Next) (a : Asked) → turns_from 1 n w s nx ≡ a → Goes t n (turns_from (suc t) n w s nx) a
  turn-more t n w s nx a e = subst (Goes t n (turns_from (suc t) n w s nx)) e (turn-more-at t n w s nx)

  -- ---- the last turn

  abbrev Same : Asked → Asked → Type 0
  Same more a = (a.spent ≡ true → more ≡ a) × ((o : Outcome) → a.outcome ≡ Some o → more ≡ a)

  same-after : (t n : ℕ) (s : Standing) (m : Made) (nx : Next) → Same (after_made m (turns_from t (n + 1) m.left (with_answer s m.event) nx)) (after_made m (turns_from zero (n + 1) m.left (with_answer s m.event) nx))
  unfolding asked_on
  same-after t n s m (ends o) = (λ spent. absurd (false-true spent), λ o some. ap (after_made m) (turns-end t (n + 1) m.left (with_answer s m.event) _))
    where
      false-true : false ≡ true → ⊥
      false-true e = cc
  same-after t n s m (asks q) = (λ spent. absurd (false-true spent), λ o some. absurd (some-none o some))
    where
      false-true : false ≡ true → ⊥
      false-true e = cc

      some-none : (o : Outcome) → None ≡ Some o → ⊥
      some-none o e = cc

  same-by : (b : Bool) (t n : ℕ) (w : World) (s : Standing) (q : Query) → Same (by_number b t n w s q) (by_number b zero n w s q)
  same-by true t n w s q = (λ spent. refl, λ o some. refl)
  same-by false t n w s q = same-after t n s (event_of failed reading s.actor n q w) _

  same-at : (t n : ℕ) (w : World) (s : Standing) (nx : Next) → Same (turns_from (suc t) n w s nx) (turns_from 1 n w s nx)
  unfolding asked_on
  same-at t n w s (ends o) = (λ spent. refl, λ o some. refl)
  same-at t n w s (asks q) = same-by (n == events_max) t n w s q

  -- a turn after which no event is left
  pub turn-over : (t n : ℕ) (w : World) (s : Standing) (nx : Next) (a : Asked) → turns_from 1 n w s nx ≡ a → a.spent ≡ true → turns_from (suc t) n w s nx ≡ a
  turn-over t n w s nx a e = (subst (Same (turns_from (suc t) n w s nx)) e (same-at t n w s nx)).0

  -- a turn that ends the task
  pub turn-ended : (t n : ℕ) (w : World) (s : Standing) (nx : Next) (a : Asked) (o : Outcome) → turns_from 1 n w s nx ≡ a → a.outcome ≡ Some o → turns_from (suc t) n w s nx ≡ a
  turn-ended t n w s nx a o e = (subst (Same (turns_from (suc t) n w s nx)) e (same-at t n w s nx)).1 o

  -- ---- the first events

  abbrev Begins : Asked → Asked → Type 0
  Begins more a = (rest : List Made) × (more.made ≡ a.made ++ rest)

  begins-after : (t n : ℕ) (s : Standing) (m : Made) (nx : Next) → Begins (after_made m (turns_from t (n + 1) m.left (with_answer s m.event) nx)) (after_made m (turns_from zero (n + 1) m.left (with_answer s m.event) nx))
  unfolding asked_on
  begins-after t n s m (ends o) = ((turns_from t (n + 1) m.left (with_answer s m.event) (ends o)).made, refl)
  begins-after t n s m (asks q) = ((turns_from t (n + 1) m.left (with_answer s m.event) (asks q)).made, refl)

  begins-by : (b : Bool) (t n : ℕ) (w : World) (s : Standing) (q : Query) → Begins (by_number b t n w s q) (by_number b zero n w s q)
  begins-by true t n w s q = ([], refl)
  begins-by false t n w s q = begins-after t n s (event_of failed reading s.actor n q w) _

  turn-begins : (t n : ℕ) (w : World) (s : Standing) (nx : Next) → Begins (turns_from (suc t) n w s nx) (turns_from 1 n w s nx)
  unfolding asked_on
  turn-begins t n w s (ends o) = ([], refl)
  turn-begins t n w s (asks q) = begins-by (n == events_max) t n w s q

  -- the first events of one turn are those of more
  pub turn-prefix : (t n : ℕ) (w : World) (s : Standing) (nx : Next) (made : List Made) → take (length made) (turns_from 1 n w s nx).made ≡ made → take (length made) (turns_from (suc t) n w s nx).made ≡ made
  turn-prefix t n w s nx made e =
      let b = turn-begins t n w s nx in
      let one : List Made = (turns_from 1 n w s nx).made in
      let within : length made ≤ length one = fits (length made) one (ap length e) in
      ap (take (length made)) b.1 ∙ take-append-le (length made) one b.0 within ∙ e
    where
      fits : (k : ℕ) (xs : List Made) → length (take k xs) ≡ k → k ≤ length xs
      fits k xs e = omega (arith, sym (length-take k xs) ∙ e)
