-- Every device stands in the order of a digest; the order by weights is told by the weights of its numbers alone.
use Rattle.std.proofs.Common.{◌≡◌, ◌≤◌, ◌<◌, ◌+◌, ℕ, List, [], ◌∷◌, length, Bool, true, false, cond, Option, None, Some, refl, sym, ◌∙◌, ap, subst, arith, inl, inr, slice_index_or, Ordering, Less, Equal, Greater}
use Rattle.std.specs.Prelude.{◌⊎◌, ◌==◌, count_by, find, map}
use Rattle.std.specs.List.{filter_map, cons_option}
use Rattle.std.specs.Ordering.{is_lt, nat_cmp, ordering_then, ordering_reverse, MatchOrdering}
use Rattle.std.specs.Cmp.Lexicographic.{slice_cmp}
use Rattle.std.proofs.Math.Path.{fun_ext}
use Rattle.std.proofs.lemmas.Bool.{eqb-true, eq-eqb}
use Rattle.std.proofs.lemmas.Cmp.{tied_itself, ranked}
use Rattle.std.proofs.lemmas.List.{length-map}
use Rattle.std.proofs.lemmas.List.Sums.{sum_by-cons}
use Rattle.keep_spec.specs.Config.{Configuration}
use Rattle.keep_spec.specs.Members.{IsIn, numbers_from}
use Rattle.keep_spec.specs.Order.{placement_cmp, count_before, by_weight, device_weight, device_order}
use Rattle.keep_order.proofs.ByWeight.{placement_total, length-numbers}
use Rattle.keep_order.proofs.Distinct.{number-in, number-bounds}
use Rattle.keep_order.proofs.Lists.{find-in}
use Rattle.keep_plan.proofs.Numbers.{at-number}

-- ---- tests that agree on the members
abbrev bit : Bool → ℕ
bit b = cond b 1 0

count-cons : (p : ℕ → Bool) (x : ℕ) (xs : List ℕ) → count_by p (x ∷ xs) ≡ bit (p x) + count_by p xs
count-cons p x xs = sum_by-cons (λ y. cond (p y) 1 0) x xs

count-same : (p q : ℕ → Bool) (xs : List ℕ) → ((x : ℕ) → IsIn x xs → p x ≡ q x) → count_by p xs ≡ count_by q xs
count-same p q [] same = refl
count-same p q (x ∷ xs) same =
    count-cons p x xs ∙ ap (λ b. bit b + count_by p xs) (same x (inl refl)) ∙ ap (λ n. bit (q x) + n) (count-same p q xs (λ y i. same y (inr i))) ∙ sym (count-cons q x xs)

find-same : (p q : ℕ → Bool) (xs : List ℕ) → ((x : ℕ) → IsIn x xs → p x ≡ q x) → find p xs ≡ find q xs
find-same p q [] same = refl
find-same p q (x ∷ xs) same = ap (λ b. cond b (Some x) (find p xs)) (same x (inl refl)) ∙ ap (λ o. cond (q x) (Some x) o) (find-same p q xs (λ y i. same y (inr i)))

pub by_weight-same : (v w : ℕ → List ℕ) (ns : List ℕ) → ((x : ℕ) → IsIn x ns → v x ≡ w x) → by_weight v ns ≡ by_weight w ns
by_weight-same v w ns same =
    let counts : (x : ℕ) → IsIn x ns → count_before v ns x ≡ count_before w ns x =
    λ x i. count-same (λ y. is_lt (placement_cmp v y x)) (λ y. is_lt (placement_cmp w y x)) ns
    (λ y j. ap (λ (u : List ℕ). is_lt (ordering_then (slice_cmp nat_cmp (v x) u) (nat_cmp y x))) (same y j) ∙ ap (λ (u : List ℕ). is_lt (ordering_then (slice_cmp nat_cmp u (w y)) (nat_cmp y x))) (same x i)) in
    let finds : (k : ℕ) → find (λ x. count_before v ns x == k) ns ≡ find (λ x. count_before w ns x == k) ns =
    λ k. find-same (λ x. count_before v ns x == k) (λ x. count_before w ns x == k) ns (λ x i. ap (λ n. n == k) (counts x i)) in
    ap (λ (f : ℕ → Option ℕ). filter_map f (numbers_from 0 (length ns))) (fun_ext finds)

-- the order of weights that were computed is that of the devices
pub order-is : (c : Configuration) (h : List ℕ) (ws : List (List ℕ)) → ws ≡ map (device_weight c h) (numbers_from 0 (length c.devices)) → by_weight (λ n. slice_index_or ws n []) (numbers_from 0 (length ws)) ≡ device_order c h
order-is c h ws are =
    let n = length c.devices in
    let long : length ws ≡ n = ap length are ∙ length-map (numbers_from 0 n) (device_weight c h) ∙ length-numbers 0 n in
    ap (λ m. by_weight (λ k. slice_index_or ws k []) (numbers_from 0 m)) long
    ∙ by_weight-same (λ k. slice_index_or ws k []) (device_weight c h) (numbers_from 0 n)
    (λ x i. (let high = (number-bounds 0 n x i).1 in let z : 0 + x ≡ x = omega arith in
    ap (λ (l : List (List ℕ)). slice_index_or l x []) are ∙ at-number (device_weight c h) 0 n x [] (omega arith) ∙ ap (device_weight c h) z))

-- ---- counts of tests of which one implies the other
cond-le : (b c : Bool) → (b ≡ true → c ≡ true) → bit b ≤ bit c
cond-le true true f = omega arith
cond-le true false f = let e = f refl in cc
cond-le false true f = omega arith
cond-le false false f = omega arith

count-le : (p q : ℕ → Bool) (xs : List ℕ) → ((y : ℕ) → p y ≡ true → q y ≡ true) → count_by p xs ≤ count_by q xs
count-le p q [] f = omega arith
count-le p q (x ∷ xs) f =
    let a = count-cons p x xs in
    let b = count-cons q x xs in
    let here = cond-le (p x) (q x) (f x) in
    let rest = count-le p q xs f in
    omega arith

count-below : (p q : ℕ → Bool) (x : ℕ) (xs : List ℕ) → ((y : ℕ) → p y ≡ true → q y ≡ true) → IsIn x xs → p x ≡ false → q x ≡ true → count_by p xs < count_by q xs
count-below p q x [] f i fails passes = absurd i
count-below p q x (y ∷ ys) f (inl e) fails passes =
    let a = count-cons p y ys in
    let b = count-cons q y ys in
    let none : bit (p y) ≡ 0 = ap (λ v. bit (p v)) (sym e) ∙ ap bit fails in
    let one : bit (q y) ≡ 1 = ap (λ v. bit (q v)) (sym e) ∙ ap bit passes in
    let rest = count-le p q ys f in
    omega arith
count-below p q x (y ∷ ys) f (inr i) fails passes =
    let a = count-cons p y ys in
    let b = count-cons q y ys in
    let here = cond-le (p y) (q y) (f y) in
    let rest = count-below p q x ys f i fails passes in
    omega arith

count-all : (xs : List ℕ) → count_by (λ x. true) xs ≡ length xs
count-all [] = refl
count-all (x ∷ xs) = let a = count-cons (λ y. true) x xs in let rest = count-all xs in omega arith

-- ---- places
less-is : (o : Ordering) → is_lt o ≡ true → o ≡ Less
less-is Less e = refl
less-is Equal e = cc e
less-is Greater e = cc e

then-equal : (o p : Ordering) → ordering_then o p ≡ Equal → p ≡ Equal
then-equal Less p e = cc e
then-equal Equal p e = e
then-equal Greater p e = cc e

number-equal : (x y : ℕ) (o : Ordering) → o ≡ nat_cmp x y → o ≡ Equal → x ≡ y
number-equal x y o e q = subst (λ v. MatchOrdering v (x < y) (x ≡ y) (y < x)) q (ranked x y o e)

module _ (w : ℕ → List ℕ) (ns : List ℕ) where
  before : (x y : ℕ) → IsIn x ns → placement_cmp w x y ≡ Less → count_before w ns x < count_before w ns y
  before x y i e = count-below (λ z. is_lt (placement_cmp w z x)) (λ z. is_lt (placement_cmp w z y)) x ns
      (λ z l. ap is_lt ((placement_total w).trans z x y (less-is (placement_cmp w z x) l) e)) i (ap is_lt (tied_itself (placement_total w) x)) (ap is_lt e)

  same-place : (x y : ℕ) → IsIn x ns → IsIn y ns → count_before w ns x ≡ count_before w ns y → x ≡ y
  same-place x y i j e = by (placement_cmp w x y) refl
    where
      by : (o : Ordering) → placement_cmp w x y ≡ o → x ≡ y
      by Less l = absurd (let b = before x y i l in omega arith)
      by Equal l = number-equal x y (nat_cmp x y) refl (then-equal (slice_cmp nat_cmp (w y) (w x)) (nat_cmp x y) l)
      by Greater l = absurd (let b = before y x j ((placement_total w).antisymm y x ∙ ap ordering_reverse l) in omega arith)

  place-within : (x : ℕ) → IsIn x ns → count_before w ns x < length ns
  place-within x i =
      let all = count-all ns in
      let b = count-below (λ z. is_lt (placement_cmp w z x)) (λ z. true) x ns (λ z l. refl) i (ap is_lt (tied_itself (placement_total w) x)) refl in
      omega arith

found-by : (p : ℕ → Bool) (x z : ℕ) (zs : List ℕ) (b : Bool) → p z ≡ b → p x ≡ true → (x ≡ z) ⊎ IsIn x zs → (IsIn x zs → (y : ℕ) × (find p zs ≡ Some y)) → (y : ℕ) × (cond b (Some z) (find p zs) ≡ Some y)
found-by p x z zs true t e k rest = (z, refl)
found-by p x z zs false t e (inl same) rest = absurd (let f = sym e ∙ ap p same ∙ t in cc f)
found-by p x z zs false t e (inr k) rest = rest k

found : (p : ℕ → Bool) (x : ℕ) (xs : List ℕ) → IsIn x xs → p x ≡ true → (y : ℕ) × (find p xs ≡ Some y)
found p x [] i e = absurd i
found p x (z ∷ zs) i e = found-by p x z zs (p z) refl e i (λ k. found p x zs k e)

given-in : (f : ℕ → Option ℕ) (i y : ℕ) (xs : List ℕ) → IsIn i xs → f i ≡ Some y → IsIn y (filter_map f xs)
given-in f i y [] k e = absurd k
given-in f i y (x ∷ xs) k e = by (f x) refl k (λ j. given-in f i y xs j e)
  where
    by : (o : Option ℕ) → f x ≡ o → (i ≡ x) ⊎ IsIn i xs → (IsIn i xs → IsIn y (filter_map f xs)) → IsIn y (cons_option o (filter_map f xs))
    by None t (inl same) rest = absurd (let z = sym e ∙ ap f same ∙ t in cc z)
    by None t (inr j) rest = rest j
    by (Some v) t (inl same) rest = inl (let z = sym e ∙ ap f same ∙ t in cc z)
    by (Some v) t (inr j) rest = inr (rest j)

pub in-order-of : (w : ℕ → List ℕ) (ns : List ℕ) (x : ℕ) → IsIn x ns → IsIn x (by_weight w ns)
in-order-of w ns x i =
    let k = count_before w ns x in
    let test : ℕ → Bool = λ y. count_before w ns y == k in
    let f = found test x ns i (eq-eqb k k refl) in
    let at = find-in test f.0 ns f.1 in
    let same : f.0 ≡ x = same-place w ns f.0 x at.0 i (eqb-true (count_before w ns f.0) k at.1) in
    let within = place-within w ns x i in
    subst (λ y. IsIn y (by_weight w ns)) same (given-in (λ j. find (λ y. count_before w ns y == j) ns) k f.0 (numbers_from 0 (length ns)) (number-in 0 (length ns) k (omega arith) (omega arith)) f.1)

pub in-device-order : (c : Configuration) (h : List ℕ) (d : ℕ) → d < length c.devices → IsIn d (device_order c h)
in-device-order c h d lt = in-order-of (device_weight c h) (numbers_from 0 (length c.devices)) d (number-in 0 (length c.devices) d (omega arith) (omega arith))
