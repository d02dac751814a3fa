-- A part of a list between two places that binary searches found.
use Rattle.std.proofs.Common.{◌≡◌, ℕ, zero, suc, ◌-◌, ◌<◌, ◌≤◌, List, [], ◌∷◌, length, take, drop, get_or, Bool, true, false, refl, sym, ◌∙◌, ap, arith, cond, subst, take_all, length-drop}
use Rattle.std.specs.declared.cmp.Ordering.{Ordering}
use Rattle.std.specs.declared.cmp.Ordering.TheVariants.{Less, Equal, Greater}
use Rattle.std.specs.Ordering.{ordering_index, is_lt, is_le, is_eq}
use Rattle.std.specs.List.{filter}
use Rattle.std.specs.List.Sorted.{IsPartitionedBy, IsPartitionPoint, IsNonDecreasingBy}

-- the answers rise, so those below come first
pub below-first : {X : Type 0} (o : X → Ordering) (xs : List X) → IsNonDecreasingBy (λ x. ordering_index (o x)) xs → IsPartitionedBy (λ x. is_lt (o x)) xs
below-first o xs rise i j d le lt h = first (o (get_or xs i d)) (o (get_or xs j d)) (rise i j d le lt) h
  where
    first : (a b : Ordering) → ordering_index a ≤ ordering_index b → is_lt b ≡ true → is_lt a ≡ true
    first Less b le h = refl
    first Equal Less le h = absurd (omega arith)
    first Equal Equal le h = h
    first Equal Greater le h = cc h
    first Greater Less le h = absurd (omega arith)
    first Greater Equal le h = cc h
    first Greater Greater le h = h

pub behind-last : {X : Type 0} (o : X → Ordering) (xs : List X) → IsNonDecreasingBy (λ x. ordering_index (o x)) xs → IsPartitionedBy (λ x. is_le (o x)) xs
behind-last o xs rise i j d le lt h = last (o (get_or xs i d)) (o (get_or xs j d)) (rise i j d le lt) h
  where
    last : (a b : Ordering) → ordering_index a ≤ ordering_index b → is_le b ≡ true → is_le a ≡ true
    last Less b le h = refl
    last Equal b le h = refl
    last Greater Less le h = absurd (omega arith)
    last Greater Equal le h = absurd (omega arith)
    last Greater Greater le h = h

-- a list goes on rising behind a place
pub rises-behind : {X : Type 0} (n : X → ℕ) (xs : List X) (i : ℕ) → IsNonDecreasingBy n xs → IsNonDecreasingBy n (drop i xs)
rises-behind n xs zero rise = rise
rises-behind n [] (suc i) rise = rise
rises-behind n (x ∷ xs) (suc i) rise = rises-behind n xs i (λ j k d le lt. rise (suc j) (suc k) d (omega arith) (omega arith))

-- the part between has all that are Equal
step-in : {X : Type 0} (test : X → Bool) (b : Bool) (x : X) (xs ys : List X) → test x ≡ b → b ≡ true → ys ≡ filter test xs → (x ∷ ys) ≡ filter test (x ∷ xs)
step-in test b x xs ys e t h = rw (e ∙ t) (ap (λ v. x ∷ v) h)

step-out : {X : Type 0} (test : X → Bool) (x : X) (xs ys : List X) → test x ≡ false → ys ≡ filter test xs → ys ≡ filter test (x ∷ xs)
step-out test x xs ys e h = rw e h

within-le : (o : Ordering) → is_le o ≡ true → is_lt o ≡ false → is_eq o ≡ true
within-le Less a b = cc b
within-le Equal a b = refl
within-le Greater a b = cc a

behind-le : (o : Ordering) → is_le o ≡ false → is_eq o ≡ false
behind-le Less a = cc a
behind-le Equal a = cc a
behind-le Greater a = refl

below-lt : (o : Ordering) → is_lt o ≡ true → is_eq o ≡ false
below-lt Less a = refl
below-lt Equal a = cc a
below-lt Greater a = cc a

none-left : {X : Type 0} (o : X → Ordering) (xs : List X) → ((k : ℕ) (d : X) → k < length xs → is_le (o (get_or xs k d)) ≡ false) → [] ≡ filter (λ x. is_eq (o x)) xs
none-left o [] h = refl
none-left o (x ∷ xs) h = step-out (λ x. is_eq (o x)) x xs [] (behind-le (o x) (h 0 x (omega arith))) (none-left o xs (λ k d lt. h (suc k) d (omega arith)))

up-to : {X : Type 0} (o : X → Ordering) (xs : List X) (j : ℕ) → j ≤ length xs → ((k : ℕ) (d : X) → k < length xs → is_lt (o (get_or xs k d)) ≡ false) → ((k : ℕ) (d : X) → k < j → is_le (o (get_or xs k d)) ≡ true) → ((k : ℕ) (d : X) → j ≤ k → k < length xs → is_le (o (get_or xs k d)) ≡ false)
    → take j xs ≡ filter (λ x. is_eq (o x)) xs
up-to o xs zero le from before behind = none-left o xs (λ k d lt. behind k d (omega arith) lt)
up-to o [] (suc j) le from before behind = absurd (omega arith)
up-to o (x ∷ xs) (suc j) le from before behind = step-in (λ x. is_eq (o x)) (is_eq (o x)) x xs (take j xs) refl (within-le (o x) (before 0 x (omega arith)) (from 0 x (omega arith)))
    (up-to o xs j (omega arith) (λ k d lt. from (suc k) d (omega arith)) (λ k d lt. before (suc k) d (omega arith)) (λ k d ge lt. behind (suc k) d (omega arith) (omega arith)))

pub part : {X : Type 0} (o : X → Ordering) (xs : List X) (i j : ℕ) → i ≤ length xs → j ≤ length (drop i xs) → IsPartitionPoint (λ x. is_lt (o x) ≡ true) (λ x. is_lt (o x) ≡ false) xs i → IsPartitionPoint (λ x. is_le (o x) ≡ true) (λ x. is_le (o x) ≡ false) (drop i xs) j
    → take j (drop i xs) ≡ filter (λ x. is_eq (o x)) xs
part o xs zero j li lj p q = up-to o xs j lj (λ k d lt. p.1 k d (omega arith) lt) (λ k d lt. q.0 k d (omega arith) lt) (λ k d ge lt. q.1 k d ge lt)
part o [] (suc i) j li lj p q = absurd (omega arith)
part o (x ∷ xs) (suc i) j li lj p q = step-out (λ x. is_eq (o x)) x xs (take j (drop i xs)) (below-lt (o x) (p.0 0 x (omega arith) (omega arith)))
    (part o xs i j (omega arith) lj ((λ k d ge lt. p.0 (suc k) d (omega arith) (omega arith)), (λ k d ge lt. p.1 (suc k) d (omega arith) (omega arith))) q)

pub filter-same : {X : Type 0} (p q : X → Bool) (xs : List X) → ((x : X) → p x ≡ q x) → filter p xs ≡ filter q xs
filter-same p q [] h = refl
filter-same p q (x ∷ xs) h = ap (λ b. cond b (x ∷ filter p xs) (filter p xs)) (h x) ∙ ap (λ v. cond (q x) (x ∷ v) v) (filter-same p q xs h)

-- what two searches find, of which the second looks from the first's place on
pub between : {X : Type 0} (o : X → Ordering) (xs first second : List X) (i j : ℕ) → first ≡ xs → second ≡ xs → IsNonDecreasingBy (λ x. ordering_index (o x)) xs
    → i ≤ length first → j ≤ length (take (length second - i) (drop i second))
    → (IsPartitionedBy (λ x. is_lt (o x)) first → IsPartitionPoint (λ x. is_lt (o x) ≡ true) (λ x. is_lt (o x) ≡ false) first i)
    → (IsPartitionedBy (λ x. is_le (o x)) (take (length second - i) (drop i second)) → IsPartitionPoint (λ x. is_le (o x) ≡ true) (λ x. is_le (o x) ≡ false) (take (length second - i) (drop i second)) j)
    → take j (take (length second - i) (drop i second)) ≡ filter (λ x. is_eq (o x)) xs
between o xs first second i j e f rise li lj p q =
    let whole : take (length second - i) (drop i second) ≡ drop i xs = take_all (length second - i) (drop i second) (omega (arith, length-drop i second)) ∙ ap (drop i) f in
    ap (take j) whole ∙ part o xs i j (subst (λ v. i ≤ length v) e li) (subst (λ v. j ≤ length v) whole lj)
    (subst (λ v. IsPartitionPoint (λ x. is_lt (o x) ≡ true) (λ x. is_lt (o x) ≡ false) v i) e (p (subst (IsPartitionedBy (λ x. is_lt (o x))) (sym e) (below-first o xs rise))))
    (subst (λ v. IsPartitionPoint (λ x. is_le (o x) ≡ true) (λ x. is_le (o x) ≡ false) v j) whole (q (subst (IsPartitionedBy (λ x. is_le (o x))) (sym whole) (behind-last o (drop i xs) (rises-behind (λ x. ordering_index (o x)) xs i rise)))))
