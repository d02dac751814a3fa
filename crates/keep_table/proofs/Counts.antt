-- How many elements of a list pass a test.
use Rattle.std.proofs.Common.{◌≡◌, ◌≤◌, ◌+◌, ℕ, Bool, true, false, cond, List, [], ◌∷◌, ◌++◌, map, filter, count_by, arith}
use Rattle.std.proofs.lemmas.List.Sums.{sum_by-cons, sum_by_push}

abbrev pub bit : Bool → ℕ
bit b = cond b 1 0

pub bit-le-1 : (b : Bool) → bit b ≤ 1
bit-le-1 true = omega arith
bit-le-1 false = omega arith

pub count-cons : {X : Type 0} (p : X → Bool) (x : X) (xs : List X) → count_by p (x ∷ xs) ≡ bit (p x) + count_by p xs
count-cons p x xs = sum_by-cons (λ y. cond (p y) 1 0) x xs

pub count-push : {X : Type 0} (p : X → Bool) (xs : List X) (x : X) → count_by p (xs ++ x ∷ []) ≡ count_by p xs + bit (p x)
count-push p xs x = sum_by_push (λ y. cond (p y) 1 0) xs x

count-kept : {X : Type 0} (p : X → Bool) (b : Bool) (x : X) (ys xs : List X) → count_by p ys ≤ count_by p xs → count_by p (cond b (x ∷ ys) ys) ≤ count_by p (x ∷ xs)
count-kept p true x ys xs h = rw (count-cons p x ys, count-cons p x xs) (omega arith)
count-kept p false x ys xs h = rw (count-cons p x xs) (omega arith)

pub count-filter : {X : Type 0} (p q : X → Bool) (xs : List X) → count_by p (filter q xs) ≤ count_by p xs
count-filter p q [] = omega arith
count-filter p q (x ∷ xs) = count-kept p (q x) x (filter q xs) xs (count-filter p q xs)

-- of elements that are changed no more pass p than passed q or r
pub count-map : {X : Type 0} (p q r : X → Bool) (f : X → X) (xs : List X) → ((x : X) → bit (p (f x)) ≤ bit (q x) + bit (r x)) → count_by p (map f xs) ≤ count_by q xs + count_by r xs
count-map p q r f [] h = omega arith
count-map p q r f (x ∷ xs) h =
    let here = h x in
    let there = count-map p q r f xs h in
    rw (count-cons p (f x) (map f xs), count-cons q x xs, count-cons r x xs) (omega arith)
