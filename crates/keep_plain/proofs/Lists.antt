-- The last item of a list that is mapped: `last-map`. The same for each item of a list: `one-more`.
use Rattle.std.proofs.Common.{◌≡◌, ℕ, zero, suc, ◌+◌, ◌<◌, List, [], ◌∷◌, ◌++◌, length, map, take, Option, Some, option_map, refl, ap, arith, add-one}
use Rattle.std.specs.List.{last_or}

pub last-map : {A B : Type 0} (f : A → B) (o : Option A) (xs : List A) → last_or (option_map f o) (map f xs) ≡ option_map f (last_or o xs)
last-map f o [] = refl
last-map f o (x ∷ xs) = last-map f (Some x) xs

next : {A B : Type 0} (x : B) (xs : List A) (i : ℕ) → i < length xs → map (λ y. x) (take i xs) ++ x ∷ [] ≡ map (λ y. x) (take (suc i) xs)
next x [] i lt = absurd (omega (arith, lt))
next x (y ∷ ys) zero lt = refl
next x (y ∷ ys) (suc i) lt = ap (λ v. x ∷ v) (next x ys i (omega (arith, lt)))

pub one-more : {A B : Type 0} (x : B) (xs : List A) (i : ℕ) → i < length xs → map (λ y. x) (take i xs) ++ x ∷ [] ≡ map (λ y. x) (take (i + 1) xs)
one-more x xs i lt = rw add-one (next x xs i lt)
