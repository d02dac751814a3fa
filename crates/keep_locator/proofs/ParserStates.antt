-- Parsing a locator a byte at a time: what can still follow, and how far a text goes.
-- Laws: `accepts-go`, `accepts-stop`, `advance-go`, `advance-stop`, `cases_Option`, `advance-take`, `advance-le`, `advance-accepted`,
-- `front-completed`.
use Rattle.std.proofs.Common.{◌≡◌, ℕ, zero, suc, ◌+◌, ◌-◌, ◌≤◌, min, Bool, true, false, ◌&&◌, nat_lt, ◌==◌, ◌⊎◌, inl, inr, List, [], ◌∷◌, ◌++◌, length, take, drop, replicate, Option, Some, None, unwrap_or, if◌then◌else◌, refl, sym, ap, subst, ◌∙◌, arith}
use Rattle.std.specs.Prelude.{codes}
use Rattle.std.specs.Option.{option_map}
use Rattle.std.proofs.lemmas.Bool.{cases_Bool, cases_lt, lt-ltb, le-ltb, ltb-true, and_parts, false≢true}
use Rattle.std.proofs.lemmas.Option.{none-some, same_Some, cond_some}
use Rattle.std.proofs.lemmas.List.{drop_all, drop-append-le, drop-replicate}
use Rattle.std.specs.Char.{is_ascii_digit}
use Rattle.keep_spec.specs.Digest.{is_lower_digit}
use Rattle.keep_locator.specs.HintStates.{state_after}
use Rattle.keep_locator.specs.declared.hint_state.HintState.{HintState}
use Rattle.keep_locator.specs.declared.hint_state.HintState.TheVariants.{AfterSize, AfterPlus, InHint}

-- n digits of the digest, n of the size, or a place in the hints
pub data State : Type 0 where
  digits : ℕ → State
  counted : ℕ → State
  placed : HintState → State

abbrev pub step : State → ℕ → Option State
step (digits n) c =
    if nat_lt n 32 then (if is_lower_digit c then Some (digits (n + 1)) else None)
    else (if c == 43 then Some (counted 0) else None)
step (counted n) c =
    if is_ascii_digit c && nat_lt n 19 then Some (counted (n + 1))
    else (if (c == 43) && nat_lt 0 n then Some (placed AfterPlus) else None)
step (placed p) c = option_map placed (state_after p c)

abbrev pub is_final : State → Bool
is_final (digits n) = false
is_final (counted n) = nat_lt 0 n
is_final (placed AfterSize) = true
is_final (placed AfterPlus) = false
is_final (placed InHint) = true

-- whether the text leads to a state in which a locator may end
abbrev pub accepts : State → List ℕ → Bool
accepts s [] = is_final s
accepts s (c ∷ cs) = unwrap_or (option_map (λ t. accepts t cs) (step s c)) false

-- how many bytes of the text have a next state
abbrev pub advance : State → List ℕ → ℕ
advance s [] = 0
advance s (c ∷ cs) = unwrap_or (option_map (λ t. advance t cs + 1) (step s c)) 0

pub accepts-go : (s t : State) (c : ℕ) (cs : List ℕ) → step s c ≡ Some t → accepts s (c ∷ cs) ≡ accepts t cs
accepts-go s t c cs e = ap (λ o. unwrap_or (option_map (λ t. accepts t cs) o) false) e

pub accepts-stop : (s : State) (c : ℕ) (cs : List ℕ) → step s c ≡ None → accepts s (c ∷ cs) ≡ false
accepts-stop s c cs e = ap (λ o. unwrap_or (option_map (λ t. accepts t cs) o) false) e

pub advance-go : (s t : State) (c : ℕ) (cs : List ℕ) → step s c ≡ Some t → advance s (c ∷ cs) ≡ advance t cs + 1
advance-go s t c cs e = ap (λ o. unwrap_or (option_map (λ t. advance t cs + 1) o) 0) e

pub advance-stop : (s : State) (c : ℕ) (cs : List ℕ) → step s c ≡ None → advance s (c ∷ cs) ≡ 0
advance-stop s c cs e = ap (λ o. unwrap_or (option_map (λ t. advance t cs + 1) o) 0) e

pub cases_Option : {X : Type 0} (o : Option X) → (o ≡ None) ⊎ ((x : X) × (o ≡ Some x))
cases_Option None = inl refl
cases_Option (Some x) = inr (x, refl)

pub advance-take : (s : State) (m : ℕ) (xs : List ℕ) → advance s (take m xs) ≡ min m (advance s xs)
advance-take s zero xs = omega arith
advance-take s (suc m) [] = omega arith
advance-take s (suc m) (c ∷ cs) =
    elim (cases_Option (step s c)) [
      | inl stop ↦ omega (arith, advance-stop s c (take m cs) stop, advance-stop s c cs stop)
      | inr (t, go) ↦ omega (arith, advance-go s t c (take m cs) go, advance-go s t c cs go, advance-take t m cs)
    ]

pub advance-le : (s : State) (xs : List ℕ) → advance s xs ≤ length xs
advance-le s [] = omega arith
advance-le s (c ∷ cs) =
    elim (cases_Option (step s c)) [
      | inl stop ↦ omega (arith, advance-stop s c cs stop)
      | inr (t, go) ↦ omega (arith, advance-go s t c cs go, advance-le t cs)
    ]

-- what begins an accepted text goes all the way
pub advance-accepted : (s : State) (front more : List ℕ) → accepts s (front ++ more) ≡ true → advance s front ≡ length front
advance-accepted s [] more h = refl
advance-accepted s (c ∷ cs) more h =
    elim (cases_Option (step s c)) [
      | inl stop ↦ absurd (false≢true (sym (accepts-stop s c (cs ++ more) stop) ∙ h))
      | inr (t, go) ↦
          let ih = advance-accepted t cs more (sym (accepts-go s t c (cs ++ more) go) ∙ h) in
          omega (arith, advance-go s t c cs go, ih)
    ]

-- the state is one that j bytes can lead to
abbrev pub IsCounted : State → ℕ → Type 0
IsCounted (digits n) j = (n ≡ j) × (j ≤ 32)
IsCounted (counted n) j = 33 + n ≡ j
IsCounted (placed p) j = 34 ≤ j

some_of_map : {X Y : Type 0} (f : X → Y) (o : Option X) (y : Y) → option_map f o ≡ Some y → (x : X) × (f x ≡ y)
some_of_map f None y e = absurd (none-some y e)
some_of_map f (Some x) y e = (x, same_Some (f x) y e)

IsCounted-step : (s t : State) (c j : ℕ) → IsCounted s j → step s c ≡ Some t → IsCounted t (j + 1)
IsCounted-step (digits n) t c j at go =
    let lower : Option State = if is_lower_digit c then Some (digits (n + 1)) else None in
    let plus : Option State = if c == 43 then Some (counted 0) else None in
    let Goal : State → Type 0 = λ s. IsCounted s (j + 1) in
    elim (cases_lt n 32) [
      | inl below ↦
          let e : lower ≡ Some t = sym (ap (λ b. if b then lower else plus) (lt-ltb n 32 below)) ∙ go in
          subst Goal (cond_some (is_lower_digit c) (digits (n + 1)) t e).1 (omega arith, omega arith)
      | inr full ↦
          let e : plus ≡ Some t = sym (ap (λ b. if b then lower else plus) (le-ltb n 32 full)) ∙ go in
          let one : 33 + 0 ≡ j + 1 = omega arith in
          subst Goal (cond_some (c == 43) (counted 0) t e).1 one
    ]
IsCounted-step (counted n) t c j at go =
    let digit : Bool = is_ascii_digit c && nat_lt n 19 in
    let plus : Option State = if (c == 43) && nat_lt 0 n then Some (placed AfterPlus) else None in
    let Goal : State → Type 0 = λ s. IsCounted s (j + 1) in
    elim (cases_Bool digit) [
      | inl is ↦
          let e : Some (counted (n + 1)) ≡ Some t = sym (ap (λ b. if b then Some (counted (n + 1)) else plus) is) ∙ go in
          let more : 33 + (n + 1) ≡ j + 1 = omega arith in
          subst Goal (same_Some (counted (n + 1)) t e) more
      | inr isnt ↦
          let e : plus ≡ Some t = sym (ap (λ b. if b then Some (counted (n + 1)) else plus) isnt) ∙ go in
          let parts = cond_some ((c == 43) && nat_lt 0 n) (placed AfterPlus) t e in
          let some = ltb-true 0 n (and_parts (c == 43) (nat_lt 0 n) parts.0).1 in
          let more : 34 ≤ j + 1 = omega (arith, some) in
          subst Goal parts.1 more
    ]
IsCounted-step (placed p) t c j at go =
    let Goal : State → Type 0 = λ s. IsCounted s (j + 1) in
    let next = some_of_map placed (state_after p c) t go in
    let more : 34 ≤ j + 1 = omega arith in
    subst Goal next.1 more

-- Each state can be completed.

-- the least locator: 32 zeros, a plus and a zero
abbrev pub least : List ℕ
least = replicate 32 48 ++ codes "+0"

digits-completed : (k n : ℕ) → k + n ≡ 32 → accepts (digits n) (replicate k 48 ++ codes "+0") ≡ true
digits-completed zero n sum =
    let Goal : ℕ → Type 0 = λ m. accepts (digits m) (codes "+0") ≡ true in
    let full : 32 ≡ n = omega (arith, sum) in
    subst Goal full refl
digits-completed (suc k) n sum =
    let plus : Option State = if 48 == 43 then Some (counted 0) else None in
    let go : step (digits n) 48 ≡ Some (digits (n + 1)) = ap (λ b. if b then Some (digits (n + 1)) else plus) (lt-ltb n 32 (omega (arith, sum))) in
    accepts-go (digits n) (digits (n + 1)) 48 (replicate k 48 ++ codes "+0") go ∙ digits-completed k (n + 1) (omega (arith, sum))

drop-least : (n : ℕ) → n ≤ 32 → drop n least ≡ replicate (32 - n) 48 ++ codes "+0"
drop-least n le = drop-append-le n (replicate 32 48) (codes "+0") le ∙ ap (λ xs. xs ++ codes "+0") (drop-replicate n 32 48)

drop-least-all : (n : ℕ) → 34 ≤ n → drop n least ≡ []
drop-least-all n le = drop_all n least (omega arith)

-- completed by a part of the least locator, or by a letter
abbrev pub IsCompleted : State → ℕ → List ℕ → Type 0
IsCompleted s j front = (accepts s (front ++ drop j least) ≡ true) ⊎ (accepts s (front ++ codes "A") ≡ true)

state-completed : (s : State) (j : ℕ) → IsCounted s j → IsCompleted s j []
state-completed (digits n) j at =
    let e : drop j least ≡ replicate (32 - n) 48 ++ codes "+0" = ap (λ m. drop m least) (sym at.0) ∙ drop-least n (omega arith) in
    inl (ap (accepts (digits n)) e ∙ digits-completed (32 - n) n (omega arith))
state-completed (counted zero) j at =
    let e : drop j least ≡ 48 ∷ [] = ap (λ m. drop m least) (sym at) in
    inl (ap (accepts (counted zero)) e)
state-completed (counted (suc n)) j at = inl (ap (accepts (counted (suc n))) (drop-least-all j (omega arith)) ∙ lt-ltb 0 (suc n) (omega arith))
state-completed (placed AfterSize) j at = inl (ap (accepts (placed AfterSize)) (drop-least-all j at))
state-completed (placed AfterPlus) j at = inr refl
state-completed (placed InHint) j at = inl (ap (accepts (placed InHint)) (drop-least-all j at))

-- what goes all the way is completed
pub front-completed : (s : State) (j : ℕ) (front : List ℕ) → IsCounted s j → advance s front ≡ length front → IsCompleted s (j + length front) front
front-completed s j [] at all = state-completed s (j + 0) (let P : ℕ → Type 0 = IsCounted s in let e : j ≡ j + 0 = omega arith in subst P e at)
front-completed s j (c ∷ cs) at all =
    elim (cases_Option (step s c)) [
      | inl stop ↦ absurd (omega (arith, advance-stop s c cs stop, all))
      | inr (t, go) ↦
          let rest : advance t cs ≡ length cs = omega (arith, advance-go s t c cs go, all) in
          let P : ℕ → Type 0 = λ m. IsCompleted t m cs in
          let e : j + 1 + length cs ≡ j + length (c ∷ cs) = omega arith in
          let ih = subst P e (front-completed t (j + 1) cs (IsCounted-step s t c j at go) rest) in
          elim ih [
            | inl h ↦ inl (accepts-go s t c (cs ++ drop (j + length (c ∷ cs)) least) go ∙ h)
            | inr h ↦ inr (accepts-go s t c (cs ++ codes "A") go ∙ h)
          ]
    ]
