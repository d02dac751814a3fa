-- Lists in which nothing stands twice: mapped and joined ones, and how often a member is counted.
use Rattle.std.proofs.Common.{◌≡◌, ◌+◌, ℕ, zero, suc, List, [], ◌∷◌, ◌++◌, map, drop, count_by, Bool, true, false, refl, sym, ◌∙◌, ap, subst, arith, inl, inr}
use Rattle.std.specs.Prelude.{◌⊎◌}
use Rattle.std.specs.List.{flat_map}
use Rattle.keep_table.proofs.Counts.{bit, count-cons}
use Rattle.keep_spec.specs.Members.{IsIn}
use Rattle.keep_spec.specs.Members.{AreDistinct}
use Rattle.keep_order.proofs.Lists.{in-map, in-either, in-joined}

abbrev pub AreApart : {X : Type 0} → List X → Type 0
AreApart [] = Unit {0}
AreApart (x ∷ xs) = (IsIn x xs → ⊥) × AreApart xs

pub numbers-apart : (xs : List ℕ) → AreDistinct xs → AreApart xs
numbers-apart [] h = tt
numbers-apart (x ∷ xs) h = (h.0, numbers-apart xs h.1)

mapped-none : {X Y : Type 0} (f : X → Y) (x : X) (xs : List X) → ((a b : X) → f a ≡ f b → a ≡ b) → (IsIn x xs → ⊥) → IsIn (f x) (map f xs) → ⊥
mapped-none f x xs same never i = (let c = in-map f (f x) xs i in never (subst (λ v. IsIn v xs) (sym (same x c.from c.is)) c.member))

pub apart-mapped : {X Y : Type 0} (f : X → Y) (xs : List X) → ((a b : X) → f a ≡ f b → a ≡ b) → AreApart xs → AreApart (map f xs)
apart-mapped f [] same h = tt
apart-mapped f (x ∷ xs) same h = (mapped-none f x xs same h.0, apart-mapped f xs same h.1)

either-none : {X : Type 0} (x : X) (xs ys : List X) → (IsIn x xs → ⊥) → (IsIn x ys → ⊥) → IsIn x xs ⊎ IsIn x ys → ⊥
either-none x xs ys f g (inl i) = f i
either-none x xs ys f g (inr i) = g i

pub apart-joined-two : {X : Type 0} (xs ys : List X) → AreApart xs → AreApart ys → ((z : X) → IsIn z xs → IsIn z ys → ⊥) → AreApart (xs ++ ys)
apart-joined-two [] ys h k never = k
apart-joined-two (x ∷ xs) ys h k never =
    (λ i. either-none x xs ys h.0 (never x (inl refl)) (in-either x xs ys i), apart-joined-two xs ys h.1 k (λ z i j. never z (inr i) j))

pub apart-joined : {X Y : Type 0} (f : X → List Y) (xs : List X) → ((x : X) → AreApart (f x)) → ((x y : X) (z : Y) → IsIn z (f x) → IsIn z (f y) → x ≡ y) → AreApart xs → AreApart (flat_map f xs)
apart-joined f [] each same h = tt
apart-joined f (x ∷ xs) each same h =
    apart-joined-two (f x) (flat_map f xs) (each x) (apart-joined f xs each same h.1)
    (λ z i j. (let o = in-joined f z xs j in h.0 (subst (λ v. IsIn v xs) (sym (same x o.from z i o.has)) o.member)))

-- ---- a member that alone passes a test is counted once
module _ {X : Type 0} (p : X → Bool) (x : X) (alone : (y : X) → p y ≡ true → x ≡ y) where
  other : (y : X) → (x ≡ y → ⊥) → p y ≡ false
  other y never = by (p y) refl
    where
      by : (b : Bool) → p y ≡ b → p y ≡ false
      by true e = absurd (never (alone y e))
      by false e = e

  pub none-counted : (ys : List X) → (IsIn x ys → ⊥) → count_by p ys ≡ 0
  none-counted [] never = refl
  none-counted (y ∷ ys) never =
      let rest = none-counted ys (λ i. never (inr i)) in
      count-cons p y ys ∙ ap (λ b. bit b + count_by p ys) (other y (λ e. never (inl e))) ∙ (omega (arith, rest))

  pub once-counted : p x ≡ true → (ys : List X) → AreApart ys → IsIn x ys → count_by p ys ≡ 1
  once-counted passes [] h i = absurd i
  once-counted passes (y ∷ ys) h (inl e) =
      let rest = none-counted ys (λ i. h.0 (subst (λ v. IsIn v ys) e i)) in
      count-cons p y ys ∙ ap (λ b. bit b + count_by p ys) (ap p (sym e) ∙ passes) ∙ (omega (arith, rest))
  once-counted passes (y ∷ ys) h (inr i) =
      let rest = once-counted passes ys h.1 i in
      count-cons p y ys ∙ ap (λ b. bit b + count_by p ys) (other y (λ e. h.0 (subst (λ v. IsIn v ys) e i))) ∙ (omega (arith, rest))

-- ---- what is left of a list
abbrev rest_of : {X : Type 0} → List X → List X
rest_of [] = []
rest_of (x ∷ xs) = xs

pub drop-next : {X : Type 0} (n : ℕ) (xs : List X) (y : X) (ys : List X) → drop n xs ≡ y ∷ ys → drop (suc n) xs ≡ ys
drop-next zero [] y ys e = cc e
drop-next zero (x ∷ xs) y ys e = ap rest_of e
drop-next (suc n) [] y ys e = cc e
drop-next (suc n) (x ∷ xs) y ys e = drop-next n xs y ys e

pub in-rest : {X : Type 0} (n : ℕ) (xs : List X) (y : X) → IsIn y (drop n xs) → IsIn y xs
in-rest zero xs y i = i
in-rest (suc n) [] y i = absurd i
in-rest (suc n) (x ∷ xs) y i = inr (in-rest n xs y i)

pub next-in : {X : Type 0} (n : ℕ) (xs : List X) (y : X) (ys : List X) → drop n xs ≡ y ∷ ys → IsIn y xs
next-in n xs y ys e = in-rest n xs y (subst (λ v. IsIn y v) (sym e) (inl refl))
