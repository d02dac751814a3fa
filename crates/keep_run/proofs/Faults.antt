-- Lists of failed events and the events that they are of: `Agrees-append`, `Agrees-left`, `Agrees-right` and `agrees-faulty`; `numbered-append`; `rise-none`, `rise-one` and `rise-append`; `left-append`.
use Rattle.std.proofs.Common.{◌≡◌, ℕ, suc, ◌+◌, ◌≤◌, ◌<◌, Bool, true, false, List, [], ◌∷◌, ◌++◌, length, refl, sym, ◌∙◌, ap, subst, arith, length-append}
use Rattle.std.specs.Prelude.{◌||◌, ◌&&◌, ◌==◌, if◌then◌else◌}
use Rattle.std.proofs.lemmas.Bool.{eq-eqb, ne_eqb}
use Rattle.std.proofs.lemmas.List.Elements.{filter-append}
use Rattle.keep_spec.specs.Causes.{Rose}
use Rattle.keep_event.specs.World.{World}
use Rattle.keep_history.specs.Effects.{Made, is_failed}
use Rattle.keep_history.specs.Ended.{faulty, faults_on, RisesBy, is_on, left_after}
use Rattle.keep_history.specs.Tasks.{is_fault}
use Rattle.keep_run.specs.Faults.{Agrees, AreNumbered, Rise}

-- ---- the numbers of failed events

pub Agrees-left : (failed : List ℕ) (a b : List Made) → Agrees failed (a ++ b) → Agrees failed a
Agrees-left failed [] b h = tt
Agrees-left failed (m ∷ ms) b h = (h.0, Agrees-left failed ms b h.1)

pub Agrees-right : (failed : List ℕ) (a b : List Made) → Agrees failed (a ++ b) → Agrees failed b
Agrees-right failed [] b h = h
Agrees-right failed (m ∷ ms) b h = Agrees-right failed ms b h.1

pub Agrees-append : (failed : List ℕ) (a b : List Made) → Agrees failed a → Agrees failed b → Agrees failed (a ++ b)
Agrees-append failed [] b h k = k
Agrees-append failed (m ∷ ms) b h k = (h.0, Agrees-append failed ms b h.1 k)

pub numbered-append : (n : ℕ) (a b : List Made) → AreNumbered n a → AreNumbered (n + length a) b → AreNumbered n (a ++ b)
numbered-append n [] b h k = subst (λ v. AreNumbered v b) (omega arith) k
numbered-append n (m ∷ ms) b h k = (h.0, numbered-append (n + 1) ms b h.1 (subst (λ v. AreNumbered v b) (shifted n (length ms)) k))
  where
    shifted : (n k : ℕ) → n + suc k ≡ (n + 1) + k
    shifted n k = omega arith

other-number : (n k : ℕ) → n < k → (n == k) ≡ false
other-number n k lt = ne_eqb n k (λ e. omega (arith, lt, e))

-- a number below those of some events says nothing of them
agrees-skip : (failed : List ℕ) (n k : ℕ) (made : List Made) → n < k → AreNumbered k made → Agrees failed made → Agrees (n ∷ failed) made
agrees-skip failed n k [] lt num h = tt
agrees-skip failed n k (m ∷ ms) lt num h = (
  ap (λ b. b || is_failed failed m.event.tick) (ap (λ v. n == v) num.0 ∙ other-number n k lt) ∙ h.0,
  agrees-skip failed n (k + 1) ms (omega arith) num.1 h.1,
)

-- events above a number fail at other numbers
not-faulty : (n k : ℕ) (made : List Made) → n < k → AreNumbered k made → is_failed (faulty made) n ≡ false
not-faulty n k [] lt num = refl
not-faulty n k (m ∷ ms) lt num = by (is_fault m.event.answer) (not-faulty n (k + 1) ms (omega arith) num.1)
  where
    by : (b : Bool) → is_failed (faulty ms) n ≡ false → is_failed (if b then m.event.tick ∷ faulty ms else faulty ms) n ≡ false
    by true rest = ap (λ v. (v == n) || is_failed (faulty ms) n) num.0 ∙ ap (λ b. b || is_failed (faulty ms) n) (ne_eqb k n (λ e. omega (arith, lt, e))) ∙ rest
    by false rest = rest

-- the numbers of the events that failed are of just those
pub agrees-faulty : (n : ℕ) (made : List Made) → AreNumbered n made → Agrees (faulty made) made
agrees-faulty n [] num = tt
agrees-faulty n (m ∷ ms) num = by (is_fault m.event.answer) refl (agrees-faulty (n + 1) ms num.1)
  where
    by : (b : Bool) → is_fault m.event.answer ≡ b → Agrees (faulty ms) ms → Agrees (if b then m.event.tick ∷ faulty ms else faulty ms) (m ∷ ms)
    by true is rest = (
      ap (λ b. b || is_failed (faulty ms) m.event.tick) (eq-eqb m.event.tick m.event.tick refl) ∙ sym is,
      agrees-skip (faulty ms) m.event.tick (n + 1) ms (omega (arith, num.0)) num.1 rest,
    )
    by false is rest = (not-faulty m.event.tick (n + 1) ms (omega (arith, num.0)) num.1 ∙ sym is, rest)

-- ---- counts

pub rise-none : (before now : ℕ → ℕ) → ((device : ℕ) → before device ≤ now device) → Rise [] before now
rise-none before now le device = λ few. omega (arith, le device)

faults-append : (device : ℕ) (a b : List Made) → faults_on device (a ++ b) ≡ faults_on device a + faults_on device b
faults-append device a b = ap length (filter-append (λ (m : Made). is_fault m.event.answer && is_on device m.event.query) a b) ∙ length-append _ _

risen : (a b before mid now : ℕ) → RisesBy a before mid → RisesBy b mid now → mid ≤ now → RisesBy (a + b) before now
risen a b before mid now p q le = λ few. let x = p (omega (arith, le, few)) in let y = q few in omega (arith, x, y)

pub rise-append : (a b : List Made) (before mid now : ℕ → ℕ) → Rise a before mid → Rise b mid now → ((device : ℕ) → mid device ≤ now device) → Rise (a ++ b) before now
rise-append a b before mid now p q le device =
    subst (λ n. RisesBy n (before device) (now device)) (sym (faults-append device a b)) (risen (faults_on device a) (faults_on device b) (before device) (mid device) (now device) (p device) (q device) (le device))

risen-one : (before now : ℕ) → Rose before now → RisesBy 1 before now
risen-one before now rose = λ few. omega (arith, rose, few)

-- an event whose fault raised its device's count
pub rise-one : (m : Made) (before now : ℕ → ℕ) → ((device : ℕ) → before device ≤ now device) → ((device : ℕ) → is_fault m.event.answer ≡ true → is_on device m.event.query ≡ true → Rose (before device) (now device)) → Rise (m ∷ []) before now
rise-one m before now le rose device = by (is_fault m.event.answer) (is_on device m.event.query) refl refl
  where
    by : (b c : Bool) → is_fault m.event.answer ≡ b → is_on device m.event.query ≡ c → RisesBy (length (if b && c then m ∷ [] else [])) (before device) (now device)
    by true true e f = risen-one (before device) (now device) (rose device e f)
    by true false e f = λ few. omega (arith, le device)
    by false c e f = λ few. omega (arith, le device)

-- ---- worlds

pub left-append : (w : World) (a b : List Made) → left_after w (a ++ b) ≡ left_after (left_after w a) b
unfolding left_after
left-append w [] b = refl
left-append w (m ∷ ms) b = left-append m.left ms b
