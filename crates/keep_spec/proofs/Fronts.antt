-- The longest front of a list that passes a test, and the test of all.
use Rattle.std.proofs.Common.{◌≡◌, ℕ, zero, suc, ◌+◌, min, Bool, true, false, cond, List, [], ◌∷◌, refl, ap, arith, length, take, inl, inr, ◌∙◌}
use Rattle.std.proofs.lemmas.Bool.{cases_Bool, and_parts, and_from}
use Rattle.std.specs.List.{list_all, prefix_len}

pub prefix_len-yes : {X : Type 0} (p : X → Bool) (x : X) (xs : List X) → p x ≡ true → prefix_len p (x ∷ xs) ≡ suc (prefix_len p xs)
prefix_len-yes p x xs passes = ap (λ b. cond b (1 + prefix_len p xs) 0) passes ∙ omega arith

pub prefix_len-no : {X : Type 0} (p : X → Bool) (x : X) (xs : List X) → p x ≡ false → prefix_len p (x ∷ xs) ≡ 0
prefix_len-no p x xs fails = ap (λ b. cond b (1 + prefix_len p xs) 0) fails

pub prefix_len-take : {X : Type 0} (p : X → Bool) (n : ℕ) (xs : List X) → prefix_len p (take n xs) ≡ min n (prefix_len p xs)
prefix_len-take p zero xs = omega arith
prefix_len-take p (suc n) [] = omega arith
prefix_len-take p (suc n) (x ∷ xs) =
    elim (cases_Bool (p x)) [
      | inl passes ↦ omega (arith, prefix_len-yes p x (take n xs) passes, prefix_len-yes p x xs passes, prefix_len-take p n xs)
      | inr fails ↦ omega (arith, prefix_len-no p x (take n xs) fails, prefix_len-no p x xs fails)
    ]

pub prefix_len-all : {X : Type 0} (p : X → Bool) (xs : List X) → list_all p xs ≡ true → prefix_len p xs ≡ length xs
prefix_len-all p [] all = refl
prefix_len-all p (x ∷ xs) all =
    let parts = and_parts (p x) (list_all p xs) all in
    let ih = prefix_len-all p xs parts.1 in
    ap (λ b. cond b (1 + prefix_len p xs) 0) parts.0 ∙ omega (arith, ih)

pub list_all-from_prefix_len : {X : Type 0} (p : X → Bool) (xs : List X) → prefix_len p xs ≡ length xs → list_all p xs ≡ true
list_all-from_prefix_len p [] whole = refl
list_all-from_prefix_len p (x ∷ xs) whole =
    elim (cases_Bool (p x)) [
      | inl passes ↦ and_from (p x) (list_all p xs) passes (list_all-from_prefix_len p xs (omega (arith, prefix_len-yes p x xs passes, whole)))
      | inr fails ↦ absurd (omega (arith, prefix_len-no p x xs fails, whole))
    ]
