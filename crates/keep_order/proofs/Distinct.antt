-- Lists of distinct numbers, and that the order by weight is one.
use Rattle.std.proofs.Common.{◌≡◌, ◌≤◌, ◌<◌, ◌+◌, ℕ, zero, suc, List, [], ◌∷◌, length, filter, take, drop, Bool, true, false, cond, refl, arith, inl, inr, Option, None, Some}
use Rattle.std.specs.Prelude.{◌⊎◌, find, ◌==◌}
use Rattle.std.specs.List.{filter_map, cons_option}
use Rattle.std.proofs.lemmas.Bool.{eqb-true, cases_eq}
use Rattle.keep_spec.specs.Members.{IsIn, AreDistinct, numbers_from}
use Rattle.keep_spec.specs.Order.{count_before, by_weight}
use Rattle.keep_order.proofs.Lists.{in-filter, in-given, find-in}

-- ---- parts
distinct-kept : (b : Bool) (x : ℕ) (xs zs : List ℕ) → (IsIn x zs → IsIn x xs) → (IsIn x xs → ⊥) → AreDistinct zs → AreDistinct (cond b (x ∷ zs) zs)
distinct-kept true x xs zs f never h = (λ i. never (f i), h)
distinct-kept false x xs zs f never h = h

pub distinct-filter : (p : ℕ → Bool) (xs : List ℕ) → AreDistinct xs → AreDistinct (filter p xs)
distinct-filter p [] h = tt
distinct-filter p (x ∷ xs) h = distinct-kept (p x) x xs (filter p xs) (λ i. (in-filter p x xs i).0) h.0 (distinct-filter p xs h.1)

pub in-take : (n k : ℕ) (xs : List ℕ) → IsIn k (take n xs) → IsIn k xs
in-take zero k xs i = absurd i
in-take (suc n) k [] i = absurd i
in-take (suc n) k (x ∷ xs) (inl e) = inl e
in-take (suc n) k (x ∷ xs) (inr i) = inr (in-take n k xs i)

in-drop : (n k : ℕ) (xs : List ℕ) → IsIn k (drop n xs) → IsIn k xs
in-drop zero k xs i = i
in-drop (suc n) k [] i = absurd i
in-drop (suc n) k (x ∷ xs) i = inr (in-drop n k xs i)

pub distinct-take : (n : ℕ) (xs : List ℕ) → AreDistinct xs → AreDistinct (take n xs)
distinct-take zero xs h = tt
distinct-take (suc n) [] h = tt
distinct-take (suc n) (x ∷ xs) h = (λ i. h.0 (in-take n x xs i), distinct-take n xs h.1)

-- ---- the first numbers
pub number-bounds : (k n x : ℕ) → IsIn x (numbers_from k n) → (k ≤ x) × (x < k + n)
number-bounds k zero x i = absurd i
number-bounds k (suc n) x (inl e) = (omega arith, omega arith)
number-bounds k (suc n) x (inr i) = let r = number-bounds (k + 1) n x i in (omega (arith, r.0), omega (arith, r.1))

pub numbers-distinct : (k n : ℕ) → AreDistinct (numbers_from k n)
numbers-distinct k zero = tt
numbers-distinct k (suc n) = (λ i. (let r = number-bounds (k + 1) n k i in omega (arith, r.0)), numbers-distinct (k + 1) n)

pub number-in : (k n x : ℕ) → k ≤ x → x < k + n → IsIn x (numbers_from k n)
number-in k zero x low high = absurd (omega arith)
number-in k (suc n) x low high = by (cases_eq x k) (λ lower. number-in (k + 1) n x lower (omega arith))
  where
    by : (x ≡ k) ⊎ (x ≡ k → ⊥) → (k + 1 ≤ x → IsIn x (numbers_from (k + 1) n)) → IsIn x (k ∷ numbers_from (k + 1) n)
    by (inl e) f = inl e
    by (inr ne) f = inr (f (omega arith))

-- ---- the order by weight
pub in-by_weight : (w : ℕ → List ℕ) (x : ℕ) (ns : List ℕ) → IsIn x (by_weight w ns) → IsIn x ns
in-by_weight w x ns i =
    let g = in-given (λ k. find (λ y. count_before w ns y == k) ns) x (numbers_from 0 (length ns)) i in
    (find-in (λ y. count_before w ns y == g.from) x ns g.gave).0

module _ (w : ℕ → List ℕ) (ns : List ℕ) where
  abbrev at : ℕ → Option ℕ
  at k = find (λ y. count_before w ns y == k) ns

  place-of : (k x : ℕ) → at k ≡ Some x → count_before w ns x ≡ k
  place-of k x e = eqb-true (count_before w ns x) k (find-in (λ y. count_before w ns y == k) x ns e).1

  later : (k n x : ℕ) → IsIn x (filter_map at (numbers_from k n)) → k ≤ count_before w ns x
  later k n x i =
      let g = in-given at x (numbers_from k n) i in
      let low = (number-bounds k n g.from g.member).0 in
      let is = place-of g.from x g.gave in
      omega arith

  apart-from : (k n : ℕ) (o : Option ℕ) → at k ≡ o → AreDistinct (filter_map at (numbers_from (k + 1) n)) → AreDistinct (cons_option o (filter_map at (numbers_from (k + 1) n)))
  apart-from k n None e h = h
  apart-from k n (Some x) e h = (λ i. (let l = later (k + 1) n x i in let is = place-of k x e in omega arith), h)

  all-apart : (k n : ℕ) → AreDistinct (filter_map at (numbers_from k n))
  all-apart k zero = tt
  all-apart k (suc n) = apart-from k n (at k) refl (all-apart (k + 1) n)

  pub by_weight-distinct : AreDistinct (by_weight w ns)
  by_weight-distinct = all-apart 0 (length ns)
