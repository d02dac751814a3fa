-- The order by weight: that it is a total order, and that by_weight is the one list that has the first numbers in it.
use Rattle.std.proofs.Common.{◌≡◌, ◌≤◌, ◌<◌, ◌+◌, ℕ, zero, suc, List, [], ◌∷◌, length, Bool, true, false, cond, Some, Option, refl, sym, ◌∙◌, ap, subst, arith, nat_eq, Less, Equal, Greater, Ordering, get_or}
use Rattle.std.specs.Prelude.{IsPermutation, IsSorted, count_by, ◌==◌, find}
use Rattle.std.specs.Cmp.{IsTotalOrder}
use Rattle.std.specs.List.{filter_map, cons_option}
use Rattle.std.specs.Ordering.{nat_cmp, is_lt, ordering_then, ordering_reverse, MatchOrdering}
use Rattle.std.specs.Cmp.Lexicographic.{slice_cmp}
use Rattle.std.proofs.lemmas.Bool.{eqb-true, eq-eqb}
use Rattle.std.proofs.lemmas.Cmp.{then_total, on_total, back_total, nat_list_cmp_total, nat_cmp_total, ranked}
use Rattle.std.proofs.lemmas.List.Sorted.{sorted_far, ranks_by, length_permutation, IsPermutation-sym, sum_by-IsPermutation, Contains-permutation}
use Rattle.std.proofs.lemmas.List.Sums.{sum_by-cons}
use Rattle.keep_spec.specs.Members.{numbers_from}
use Rattle.keep_spec.specs.Order.{placement_cmp, count_before, by_weight}

-- ---- the order of two numbers
pub placement_total : (w : ℕ → List ℕ) → IsTotalOrder (placement_cmp w)
placement_total w = then_total (on_total w (back_total nat_list_cmp_total)) nat_cmp_total

then-equal : (o p : Ordering) → ordering_then o p ≡ Equal → p ≡ Equal
then-equal Less p e = cc e
then-equal Equal p e = e
then-equal Greater p e = cc e

number-equal : (x y : ℕ) (o : Ordering) → o ≡ nat_cmp x y → o ≡ Equal → x ≡ y
number-equal x y o e q = subst (λ v. MatchOrdering v (x < y) (x ≡ y) (y < x)) q (ranked x y o e)

placement-equal : (w : ℕ → List ℕ) (x y : ℕ) → placement_cmp w x y ≡ Equal → x ≡ y
placement-equal w x y e = number-equal x y (nat_cmp x y) refl (then-equal (slice_cmp nat_cmp (w y) (w x)) (nat_cmp x y) e)

first-by : (o p : Ordering) → p ≡ ordering_reverse o → is_lt o ≡ false → (o ≡ Equal → ⊥) → is_lt p ≡ true
first-by Less p e after other = cc after
first-by Equal p e after other = absurd (other refl)
first-by Greater p e after other = ap is_lt e

-- of two numbers one of which isn't before the other, the other is
comes-first : (w : ℕ → List ℕ) (x y : ℕ) → is_lt (placement_cmp w y x) ≡ false → (x ≡ y → ⊥) → is_lt (placement_cmp w x y) ≡ true
comes-first w x y after other = first-by (placement_cmp w y x) (placement_cmp w x y) ((placement_total w).antisymm x y) after (λ e. other (sym (placement-equal w y x e)))

-- ---- counts
count-cons : {X : Type 0} (p : X → Bool) (x : X) (xs : List X) → count_by p (x ∷ xs) ≡ cond (p x) 1 0 + count_by p xs
count-cons p x xs = sum_by-cons (λ y. cond (p y) 1 0) x xs

yes-more : (p : ℕ → Bool) (x : ℕ) (xs : List ℕ) (k : ℕ) → p x ≡ true → count_by p xs ≡ k → count_by p (x ∷ xs) ≡ suc k
yes-more p x xs k e h = count-cons p x xs ∙ ap (λ b. cond b 1 0 + count_by p xs) e ∙ omega (arith, h)

no-more : (p : ℕ → Bool) (x : ℕ) (xs : List ℕ) (k : ℕ) → p x ≡ false → count_by p xs ≡ k → count_by p (x ∷ xs) ≡ k
no-more p x xs k e h = count-cons p x xs ∙ ap (λ b. cond b 1 0 + count_by p xs) e ∙ omega (arith, h)

-- where a test passes up to a place and fails from it on, the place is the count
count-split : (p : ℕ → Bool) (xs : List ℕ) (k : ℕ) → k ≤ length xs → ((i : ℕ) → i < k → p (get_or xs i 0) ≡ true) → ((i : ℕ) → k ≤ i → i < length xs → p (get_or xs i 0) ≡ false) → count_by p xs ≡ k
count-split p [] k le passes fails = omega arith
count-split p (x ∷ xs) zero le passes fails = no-more p x xs 0 (fails 0 (omega arith) (omega arith)) (count-split p xs zero (omega arith) (λ i l. absurd (omega arith)) (λ i l m. fails (suc i) (omega arith) (omega arith)))
count-split p (x ∷ xs) (suc k) le passes fails = yes-more p x xs k (passes 0 (omega arith)) (count-split p xs k (omega arith) (λ i l. passes (suc i) (omega arith)) (λ i l m. fails (suc i) (omega arith) (omega arith)))

count-up : (p : ℕ → Bool) (x : ℕ) (xs : List ℕ) (k : ℕ) → k ≤ count_by p xs → k ≤ count_by p (x ∷ xs)
count-up p x xs k h = by (p x) refl
  where
    by : (b : Bool) → p x ≡ b → k ≤ count_by p (x ∷ xs)
    by true e = let n = yes-more p x xs (count_by p xs) e refl in omega arith
    by false e = let n = no-more p x xs (count_by p xs) e refl in omega arith

count-one : (x : ℕ) (xs : List ℕ) (j : ℕ) → j < length xs → get_or xs j 0 ≡ x → 1 ≤ count_by (λ y. y == x) xs
count-one x [] j lt e = absurd (omega arith)
count-one x (y ∷ ys) zero lt e = let n = yes-more (λ z. z == x) y ys (count_by (λ z. z == x) ys) (eq-eqb y x e) refl in omega arith
count-one x (y ∷ ys) (suc j) lt e = count-up (λ z. z == x) y ys 1 (count-one x ys j (omega arith) e)

count-two : (x : ℕ) (xs : List ℕ) (i j : ℕ) → i < j → j < length xs → get_or xs i 0 ≡ x → get_or xs j 0 ≡ x → 2 ≤ count_by (λ y. y == x) xs
count-two x [] i j lt le d e = absurd (omega arith)
count-two x (y ∷ ys) zero zero lt le d e = absurd (omega arith)
count-two x (y ∷ ys) zero (suc j) lt le d e =
    let one = count-one x ys j (omega arith) e in
    let n = yes-more (λ z. z == x) y ys (count_by (λ z. z == x) ys) (eq-eqb y x d) refl in
    omega arith
count-two x (y ∷ ys) (suc i) zero lt le d e = absurd (omega arith)
count-two x (y ∷ ys) (suc i) (suc j) lt le d e = count-up (λ z. z == x) y ys 2 (count-two x ys i j (omega arith) (omega arith) d e)

none-below : (k n x : ℕ) → x < k → count_by (λ y. y == x) (numbers_from k n) ≡ 0
none-below k zero x lt = refl
none-below k (suc n) x lt = no-more (λ z. z == x) k (numbers_from (k + 1) n) 0 (apart (nat_eq k x) refl) (none-below (k + 1) n x (omega arith))
  where
    apart : (b : Bool) → nat_eq k x ≡ b → nat_eq k x ≡ false
    apart true e = absurd (let h = eqb-true k x e in omega arith)
    apart false e = e

once : (k n x : ℕ) → count_by (λ y. y == x) (numbers_from k n) ≤ 1
once k zero x = omega arith
once k (suc n) x = by (nat_eq k x) refl (once (k + 1) n x)
  where
    by : (b : Bool) → nat_eq k x ≡ b → count_by (λ y. y == x) (numbers_from (k + 1) n) ≤ 1 → count_by (λ y. y == x) (numbers_from k (suc n)) ≤ 1
    by true e h =
        let is = eqb-true k x e in
        let none = none-below (k + 1) n x (omega arith) in
        let c = yes-more (λ z. z == x) k (numbers_from (k + 1) n) 0 e none in
        omega arith
    by false e h = let c = no-more (λ z. z == x) k (numbers_from (k + 1) n) (count_by (λ y. y == x) (numbers_from (k + 1) n)) e refl in omega arith

pub length-numbers : (k n : ℕ) → length (numbers_from k n) ≡ n
length-numbers k zero = refl
length-numbers k (suc n) = ap suc (length-numbers (k + 1) n)

-- ---- finding
find-by : (b : Bool) (test : ℕ → Bool) (x : ℕ) (xs : List ℕ) (y : ℕ) → test x ≡ b → (test x ≡ true → x ≡ y) → (test x ≡ false → find test xs ≡ Some y) → cond b (Some x) (find test xs) ≡ Some y
find-by true test x xs y e is rest = ap Some (is e)
find-by false test x xs y e is rest = rest e

find-only : (test : ℕ → Bool) (ns : List ℕ) (y k : ℕ) → k < length ns → get_or ns k y ≡ y → test y ≡ true → ((i : ℕ) → i < length ns → test (get_or ns i y) ≡ true → get_or ns i y ≡ y) → find test ns ≡ Some y
find-only test [] y k lt at passes only = absurd (omega arith)
find-only test (x ∷ xs) y zero lt at passes only = find-by (test x) test x xs y refl (λ e. at) (λ e. (let h = ap test at in cc))
find-only test (x ∷ xs) y (suc k) lt at passes only =
    find-by (test x) test x xs y refl (λ e. only 0 (omega arith) e)
    (λ e. find-only test xs y k (omega arith) at passes (λ i l t. only (suc i) (omega arith) t))

shown-at : (h : ℕ → Option ℕ) (k : ℕ) (vs : List ℕ) → ((i : ℕ) → i < length vs → h (k + i) ≡ Some (get_or vs i 0)) → filter_map h (numbers_from k (length vs)) ≡ vs
shown-at h k [] all = refl
shown-at h k (v ∷ vs) all =
    let first = subst (λ i. h i ≡ Some v) (let z : k + 0 ≡ k = omega arith in z) (all 0 (omega arith)) in
    let rest = shown-at h (k + 1) vs (λ i l. subst (λ j. h j ≡ Some (get_or vs i 0)) (let z : k + suc i ≡ (k + 1) + i = omega arith in z) (all (suc i) (omega arith))) in
    ap (λ o. cons_option o (filter_map h (numbers_from (k + 1) (length vs)))) first ∙ ap (λ l. v ∷ l) rest

in-range : (xs : List ℕ) (k d e : ℕ) → k < length xs → get_or xs k d ≡ get_or xs k e
in-range [] k d e lt = absurd (omega arith)
in-range (x ∷ xs) zero d e lt = refl
in-range (x ∷ xs) (suc k) d e lt = in-range xs k d e (omega arith)

-- ---- a sorted list of the first numbers
module _ (w : ℕ → List ℕ) (n : ℕ) (vs : List ℕ) (all : IsPermutation (numbers_from 0 n) vs) (sorted : IsSorted (placement_cmp w) vs) where
  long : length vs ≡ n
  long = length_permutation (numbers_from 0 n) vs all ∙ length-numbers 0 n

  apart : (i j : ℕ) → i < j → j < length vs → get_or vs i 0 ≡ get_or vs j 0 → ⊥
  apart i j lt le e =
      let x = get_or vs j 0 in
      let two = count-two x vs i j lt le e refl in
      let moved = sum_by-IsPermutation (λ y. cond (y == x) 1 0) (numbers_from 0 n) vs all in
      let one = once 0 n x in
      omega (arith, two, moved, one)

  not-after : (i j : ℕ) → i ≤ j → j < length vs → is_lt (placement_cmp w (get_or vs j 0) (get_or vs i 0)) ≡ false
  not-after i j le lt = sorted_far (λ x y. is_lt (placement_cmp w x y)) (ranks_by (placement_total w) (λ (x : ℕ). x)) vs sorted i j 0 le lt

  place : (k : ℕ) → k < length vs → count_before w (numbers_from 0 n) (get_or vs k 0) ≡ k
  place k lt =
      sym (sum_by-IsPermutation (λ y. cond (is_lt (placement_cmp w y (get_or vs k 0))) 1 0) (numbers_from 0 n) vs all)
      ∙ count-split (λ y. is_lt (placement_cmp w y (get_or vs k 0))) vs k (omega arith)
      (λ i l. comes-first w (get_or vs i 0) (get_or vs k 0) (not-after i k (omega arith) lt) (apart i k l lt))
      (λ i l m. not-after k i l m)

  only-at : (k : ℕ) → k < length vs → (x : ℕ) → (i : ℕ) → i < length (numbers_from 0 n) → get_or (numbers_from 0 n) i x ≡ x → (count_before w (numbers_from 0 n) x == k) ≡ true → x ≡ get_or vs k 0
  only-at k lt x i l at e =
      let there = Contains-permutation (numbers_from 0 n) vs x all (i, l, at) in
      let j = there.0 in
      let inside = there.1 in
      let is : get_or vs j 0 ≡ x = in-range vs j 0 x inside ∙ there.2 in
      let counted = place j inside in
      let same = eqb-true (count_before w (numbers_from 0 n) x) k e in
      let jk : j ≡ k = sym counted ∙ ap (λ v. count_before w (numbers_from 0 n) v) is ∙ same in
      sym is ∙ ap (λ v. get_or vs v 0) jk

  found : (k : ℕ) → k < length vs → find (λ x. count_before w (numbers_from 0 n) x == k) (numbers_from 0 n) ≡ Some (get_or vs k 0)
  found k lt =
      let y = get_or vs k 0 in
      let there = Contains-permutation vs (numbers_from 0 n) y (IsPermutation-sym (numbers_from 0 n) vs all) (k, lt, in-range vs k y 0 lt) in
      find-only (λ x. count_before w (numbers_from 0 n) x == k) (numbers_from 0 n) y there.0 there.1 there.2 (eq-eqb (count_before w (numbers_from 0 n) y) k (place k lt))
      (λ i l t. only-at k lt (get_or (numbers_from 0 n) i y) i l (in-range (numbers_from 0 n) i (get_or (numbers_from 0 n) i y) y l) t)

  pub only : vs ≡ by_weight w (numbers_from 0 n)
  only =
      let h : ℕ → Option ℕ = λ k. find (λ x. count_before w (numbers_from 0 n) x == k) (numbers_from 0 n) in
      sym (shown-at h 0 vs (λ i l. subst (λ j. h j ≡ Some (get_or vs i 0)) (let z : i ≡ 0 + i = omega arith in z) (found i l)))
      ∙ ap (λ m. filter_map h (numbers_from 0 m)) (long ∙ sym (length-numbers 0 n))
