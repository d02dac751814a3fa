-- The digits of names rise with the names.
use Rattle.std.proofs.Common.{◌≡◌, ℕ, zero, suc, ◌+◌, ◌/◌, ◌%◌, ◌<◌, ◌≤◌, List, [], ◌∷◌, length, drop, get_or, Option, None, Some, refl, sym, ◌∙◌, ap, arith, inl, inr}
use Rattle.std.specs.declared.cmp.Ordering.{Ordering}
use Rattle.std.specs.declared.cmp.Ordering.TheVariants.{Less, Equal, Greater}
use Rattle.std.specs.Ordering.{nat_cmp, ordering_then, ordering_index, ordering_reverse}
use Rattle.std.specs.Cmp.{IsTotalOrder}
use Rattle.std.specs.Cmp.Lexicographic.{slice_cmp}
use Rattle.std.specs.List.Sorted.{IsNonDecreasingBy}
use Rattle.std.proofs.lemmas.Bool.{cases_lt}
use Rattle.std.proofs.lemmas.Cmp.{nat_list_cmp_total, ranked}
use Rattle.std.proofs.lemmas.List.{at_drop_more}
use Rattle.keep_event.specs.Store.{name_cmp, IsAscending}
use Rattle.keep_event.specs.declared.names.Name.{Name}
use Rattle.keep_volume.specs.Digits.{nibbles, order_of, order_then, digit_value}
use Rattle.keep_store.proofs.Order.{ascending-at}

index-le : (o : Ordering) → ordering_index o ≤ 2
index-le Less = omega arith
index-le Equal = omega arith
index-le Greater = omega arith

le-from : (n m : ℕ) (o : Ordering) → o ≡ nat_cmp n m → (o ≡ Greater → ⊥) → n ≤ m
le-from n m Less e h = let lt : n < m = ranked n m Less e in omega arith
le-from n m Equal e h = let eq : n ≡ m = ranked n m Equal e in omega arith
le-from n m Greater e h = absurd (h refl)

equal-from : (n m : ℕ) (o : Ordering) → o ≡ nat_cmp n m → n ≡ m → o ≡ Equal
equal-from n m Less e h = absurd (let lt : n < m = ranked n m Less e in omega arith)
equal-from n m Equal e h = refl
equal-from n m Greater e h = absurd (let gt : m < n = ranked n m Greater e in omega arith)

-- the first digit decides, or else those behind
rise-at : (n m v : ℕ) (r s a b : Ordering) → a ≡ nat_cmp n v → b ≡ nat_cmp m v → n ≤ m → (n ≡ m → ordering_index r ≤ ordering_index s) → ordering_index (ordering_then a r) ≤ ordering_index (ordering_then b s)
rise-at n m v r s Less b ea eb le rest = omega arith
rise-at n m v r s Equal Less ea eb le rest = absurd (let eq : n ≡ v = ranked n v Equal ea in let lt : m < v = ranked m v Less eb in omega arith)
rise-at n m v r s Equal Equal ea eb le rest = let eq : n ≡ v = ranked n v Equal ea in let eq' : m ≡ v = ranked m v Equal eb in rest (eq ∙ sym eq')
rise-at n m v r s Equal Greater ea eb le rest = index-le r
rise-at n m v r s Greater Less ea eb le rest = absurd (let gt : v < n = ranked n v Greater ea in let lt : m < v = ranked m v Less eb in omega arith)
rise-at n m v r s Greater Equal ea eb le rest = absurd (let gt : v < n = ranked n v Greater ea in let eq : m ≡ v = ranked m v Equal eb in omega arith)
rise-at n m v r s Greater Greater ea eb le rest = omega arith

rise-digit : (w : Option ℕ) (n m : ℕ) (r s : Ordering) → n ≤ m → (n ≡ m → ordering_index r ≤ ordering_index s) → ordering_index (order_then n r w) ≤ ordering_index (order_then m s w)
rise-digit None n m r s le rest = omega arith
rise-digit (Some v) n m r s le rest = rise-at n m v r s (nat_cmp n v) (nat_cmp m v) refl refl le rest

-- the answer of two lists, from that of their heads
not-above-head : (a r o : Ordering) → ordering_then a r ≡ o → (o ≡ Greater → ⊥) → a ≡ Greater → ⊥
not-above-head Less r o e h k = cc k
not-above-head Equal r o e h k = cc k
not-above-head Greater r o e h k = h (sym e)

then-equal : (a r o : Ordering) → ordering_then a r ≡ o → a ≡ Equal → r ≡ o
then-equal Less r o e k = cc k
then-equal Equal r o e k = e
then-equal Greater r o e k = cc k

rises : (p ns ms : List ℕ) (o : Ordering) → slice_cmp nat_cmp ns ms ≡ o → (o ≡ Greater → ⊥) → ordering_index (order_of ns p) ≤ ordering_index (order_of ms p)
rises [] ns ms o e h = omega arith
rises (c ∷ cs) [] ms o e h = omega arith
rises (c ∷ cs) (n ∷ ns) [] o e h = absurd (h (sym e))
rises (c ∷ cs) (n ∷ ns) (m ∷ ms) o e h =
    rise-digit (digit_value c) n m (order_of ns cs) (order_of ms cs) (le-from n m (nat_cmp n m) refl (not-above-head (nat_cmp n m) (slice_cmp nat_cmp ns ms) o e h))
    (λ same. rises cs ns ms o (then-equal (nat_cmp n m) (slice_cmp nat_cmp ns ms) o e (equal-from n m (nat_cmp n m) refl same)) h)

-- bytes in order have their digits in order
not-above-two : (x y : ℕ) (r a b : Ordering) → a ≡ nat_cmp (x / 16) (y / 16) → b ≡ nat_cmp (x % 16) (y % 16) → x ≤ y → (x ≡ y → r ≡ Greater → ⊥) → ordering_then a (ordering_then b r) ≡ Greater → ⊥
not-above-two x y r Less b ea eb le rest k = cc k
not-above-two x y r Equal Less ea eb le rest k = cc k
not-above-two x y r Equal Equal ea eb le rest k =
    let high : x / 16 ≡ y / 16 = ranked (x / 16) (y / 16) Equal ea in
    let low : x % 16 ≡ y % 16 = ranked (x % 16) (y % 16) Equal eb in
    rest (omega arith) k
not-above-two x y r Equal Greater ea eb le rest k =
    let high : x / 16 ≡ y / 16 = ranked (x / 16) (y / 16) Equal ea in
    let low : y % 16 < x % 16 = ranked (x % 16) (y % 16) Greater eb in
    absurd (omega arith)
not-above-two x y r Greater b ea eb le rest k =
    let high : y / 16 < x / 16 = ranked (x / 16) (y / 16) Greater ea in
    absurd (omega arith)

nibbles-rise : (xs ys : List ℕ) (o : Ordering) → slice_cmp nat_cmp xs ys ≡ o → (o ≡ Greater → ⊥) → slice_cmp nat_cmp (nibbles xs) (nibbles ys) ≡ Greater → ⊥
nibbles-rise [] [] o e h k = cc k
nibbles-rise [] (y ∷ ys) o e h k = cc k
nibbles-rise (x ∷ xs) [] o e h k = h (sym e)
nibbles-rise (x ∷ xs) (y ∷ ys) o e h k =
    not-above-two x y (slice_cmp nat_cmp (nibbles xs) (nibbles ys)) (nat_cmp (x / 16) (y / 16)) (nat_cmp (x % 16) (y % 16)) refl refl
    (le-from x y (nat_cmp x y) refl (not-above-head (nat_cmp x y) (slice_cmp nat_cmp xs ys) o e h))
    (λ same. nibbles-rise xs ys o (then-equal (nat_cmp x y) (slice_cmp nat_cmp xs ys) o e (equal-from x y (nat_cmp x y) refl same)) h) k

digest-rises : (a b : Name) → name_cmp a b ≡ Less → slice_cmp nat_cmp a.digest b.digest ≡ Greater → ⊥
digest-rises a b e k = not-above-head (slice_cmp nat_cmp a.digest b.digest) _ Less e (λ f. cc f) k

pub digits-rise : {X : Type 0} (p : List ℕ) (es : List (Name × X)) → IsAscending es → IsNonDecreasingBy (λ e. ordering_index (order_of (nibbles e.0.digest) p)) es
digits-rise p es s i j d le in_range = elim (cases_lt i j) [
  | inl lt ↦ let a = (get_or es i d).0 in let b = (get_or es j d).0 in
      rises p (nibbles a.digest) (nibbles b.digest) _ refl (nibbles-rise a.digest b.digest _ refl (digest-rises a b (ascending-at es i j d lt in_range s)))
  | inr ge ↦ let same : i ≡ j = omega arith in omega (arith, ap (λ k. ordering_index (order_of (nibbles (get_or es k d).0.digest) p)) same)
]

rises-order : {K : Type 0} {R : K → K → Ordering} (order : IsTotalOrder R) (x y z : K) (a b : Ordering) → R x y ≡ a → (a ≡ Greater → ⊥) → R y z ≡ b → ordering_index (R x z) ≤ ordering_index b
rises-order order x y z Less Less e h k = let f = ap ordering_index (order.trans x y z e k) in omega (arith, f)
rises-order order x y z Less Equal e h k =
    let f = ap ordering_index (order.antisymm x z ∙ ap ordering_reverse (sym (order.congr y z x k) ∙ order.antisymm y x ∙ ap ordering_reverse e)) in omega (arith, f)
rises-order {R = R} order x y z Less Greater e h k = index-le (R x z)
rises-order order x y z Equal b e h k = let f = ap ordering_index (order.congr x y z e ∙ k) in omega (arith, f)
rises-order order x y z Greater b e h k = absurd (h refl)

pub digests-rise : {X : Type 0} (digest : List ℕ) (es : List (Name × X)) → IsAscending es → IsNonDecreasingBy (λ e. ordering_index (slice_cmp nat_cmp e.0.digest digest)) es
digests-rise digest es s i j d le in_range = elim (cases_lt i j) [
  | inl lt ↦ let a = (get_or es i d).0 in let b = (get_or es j d).0 in
      rises-order nat_list_cmp_total a.digest b.digest digest _ _ refl (digest-rises a b (ascending-at es i j d lt in_range s)) refl
  | inr ge ↦ let same : i ≡ j = omega arith in omega (arith, ap (λ k. ordering_index (slice_cmp nat_cmp (get_or es k d).0.digest digest)) same)
]

-- ---- the digits one by one
pub nibble-even : (bs : List ℕ) (k j : ℕ) → j ≡ k + k → get_or (nibbles bs) j 0 ≡ get_or bs k 0 / 16
nibble-even [] k j e = refl
nibble-even (b ∷ bs) zero zero e = refl
nibble-even (b ∷ bs) zero (suc j) e = absurd (omega arith)
nibble-even (b ∷ bs) (suc k) zero e = absurd (omega arith)
nibble-even (b ∷ bs) (suc k) (suc zero) e = absurd (omega arith)
nibble-even (b ∷ bs) (suc k) (suc (suc j)) e = nibble-even bs k j (omega arith)

pub nibble-odd : (bs : List ℕ) (k j : ℕ) → j ≡ k + k + 1 → get_or (nibbles bs) j 0 ≡ get_or bs k 0 % 16
nibble-odd [] k j e = refl
nibble-odd (b ∷ bs) zero zero e = absurd (omega arith)
nibble-odd (b ∷ bs) zero (suc zero) e = refl
nibble-odd (b ∷ bs) zero (suc (suc j)) e = absurd (omega arith)
nibble-odd (b ∷ bs) (suc k) zero e = absurd (omega arith)
nibble-odd (b ∷ bs) (suc k) (suc zero) e = absurd (omega arith)
nibble-odd (b ∷ bs) (suc k) (suc (suc j)) e = nibble-odd bs k j (omega arith)

pub length-nibbles : (bs : List ℕ) → length (nibbles bs) ≡ length bs + length bs
length-nibbles [] = refl
length-nibbles (b ∷ bs) = omega (arith, length-nibbles bs)

-- the order from the i-th digit on
pub order-at : (ns p : List ℕ) (i : ℕ) → i < length ns → i < length p → order_of (drop i ns) (drop i p) ≡ order_then (get_or ns i 0) (order_of (drop (i + 1) ns) (drop (i + 1) p)) (digit_value (get_or p i 0))
order-at ns p i lt lt' = at_drop_more (λ v. order_of v (drop i p)) ns i 0 lt ∙ at_drop_more (λ v. order_of (get_or ns i 0 ∷ drop (i + 1) ns) v) p i 0 lt'

pub order-end : (ns p : List ℕ) (i : ℕ) → length ns ≤ i → i < length p → order_of (drop i ns) (drop i p) ≡ Less
order-end ns p i ge lt = ap (λ v. order_of v (drop i p)) (no-more ns i ge) ∙ at_drop_more (λ v. order_of [] v) p i 0 lt
  where
    no-more : (xs : List ℕ) (i : ℕ) → length xs ≤ i → drop i xs ≡ []
    no-more [] zero le = refl
    no-more [] (suc i) le = refl
    no-more (x ∷ xs) zero le = absurd (omega arith)
    no-more (x ∷ xs) (suc i) le = no-more xs i (omega arith)

pub order-done : (ns p : List ℕ) (i : ℕ) → length p ≤ i → order_of (drop i ns) (drop i p) ≡ Equal
order-done ns p i ge = ap (λ v. order_of (drop i ns) v) (no-more p i ge)
  where
    no-more : (xs : List ℕ) (i : ℕ) → length xs ≤ i → drop i xs ≡ []
    no-more [] zero le = refl
    no-more [] (suc i) le = refl
    no-more (x ∷ xs) zero le = absurd (omega arith)
    no-more (x ∷ xs) (suc i) le = no-more xs i (omega arith)
