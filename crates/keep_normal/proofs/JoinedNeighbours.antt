-- Neighbours that touch, joined: from the left, and one at a time at the end.
-- Laws: `joined-push`, `joined_along`, `after_last`, `after_two`, `joined_more`, `joined-apart`, `apart-joined`,
-- `joined-joined`, `joined-map`, `before_two`, `joined_after_same`.
use Rattle.std.proofs.Common.{◌≡◌, ℕ, Bool, true, false, cond, List, [], ◌∷◌, ◌++◌, refl, ap, sym, ◌∙◌, append-nil, append_assoc, map, take, get_or, length, ◌+◌, ◌<◌}
use Rattle.std.specs.Prelude.{fold}
use Rattle.std.proofs.lemmas.List.{take_more, map-append}
use Rattle.keep_normal.specs.Joined.{joined_before, joined, joined_after}

-- touching looks at the ends alone, and joining doesn't mind in which order
pub record IsJoining {X : Type 0} (touches : X → X → Bool) (both : X → X → X) : Type 0 where
  pub first : (x y z : X) → touches y z ≡ true → touches x (both y z) ≡ touches x y
  pub last : (x y z : X) → touches x y ≡ true → touches (both x y) z ≡ touches y z
  pub order : (x y z : X) → both x (both y z) ≡ both (both x y) z

-- what stands where two neighbours meet
abbrev pub one_or_two : {X : Type 0} → (X → X → X) → Bool → X → X → List X → List X
one_or_two both b x y ys = cond b (both x y ∷ ys) (x ∷ y ∷ ys)

module _ {X : Type 0} (touches : X → X → Bool) (both : X → X → X) (j : IsJoining touches both) where
  -- x before one y and a p after it
  meets : (x y p : X) (a b : Bool) → touches x y ≡ a → touches y p ≡ b
      → joined_before touches both x (one_or_two both b y p []) ≡ joined_after touches both (one_or_two both a x y []) p
  meets x y p true true ha hb = ap (λ t. one_or_two both t x (both y p) []) (j.first x y p hb ∙ ha) ∙ ap (λ z. z ∷ []) (j.order x y p) ∙ sym (ap (λ t. one_or_two both t (both x y) p []) (j.last x y p ha ∙ hb))
  meets x y p true false ha hb = ap (λ t. one_or_two both t x y (p ∷ [])) ha ∙ sym (ap (λ t. one_or_two both t (both x y) p []) (j.last x y p ha ∙ hb))
  meets x y p false true ha hb = ap (λ t. one_or_two both t x (both y p) []) (j.first x y p hb ∙ ha) ∙ sym (ap (λ t. x ∷ one_or_two both t y p []) hb)
  meets x y p false false ha hb = ap (λ t. one_or_two both t x y (p ∷ [])) ha ∙ sym (ap (λ t. x ∷ one_or_two both t y p []) hb)

  -- x before several, and a p after them
  passes : (x y z p : X) (zs : List X) (a : Bool) → touches x y ≡ a
      → joined_before touches both x (y ∷ joined_after touches both (z ∷ zs) p) ≡ joined_after touches both (one_or_two both a x y (z ∷ zs)) p
  passes x y z p zs true ha = ap (λ t. one_or_two both t x y (joined_after touches both (z ∷ zs) p)) ha
  passes x y z p zs false ha = ap (λ t. one_or_two both t x y (joined_after touches both (z ∷ zs) p)) ha

  before_after : (x p : X) (ys : List X) → joined_before touches both x (joined_after touches both ys p) ≡ joined_after touches both (joined_before touches both x ys) p
  before_after x p [] = refl
  before_after x p (y ∷ []) = meets x y p (touches x y) (touches y p) refl refl
  before_after x p (y ∷ z ∷ zs) = passes x y z p zs (touches x y) refl

  pub joined-push : (xs : List X) (p : X) → joined touches both (xs ++ p ∷ []) ≡ joined_after touches both (joined touches both xs) p
  joined-push [] p = refl
  joined-push (x ∷ xs) p = ap (joined_before touches both x) (joined-push xs p) ∙ before_after x p (joined touches both xs)

  -- one at a time after what is joined already
  pub joined_along : (xs ys : List X) → fold (joined_after touches both) (joined touches both xs) ys ≡ joined touches both (xs ++ ys)
  joined_along xs [] = ap (joined touches both) (sym (append-nil xs))
  joined_along xs (y ∷ ys) =
      ap (λ s. fold (joined_after touches both) s ys) (sym (joined-push xs y))
      ∙ joined_along (xs ++ y ∷ []) ys ∙ ap (joined touches both) (append_assoc xs (y ∷ []) ys)

-- after a last one
pub after_last : {X : Type 0} (touches : X → X → Bool) (both : X → X → X) (xs : List X) (last p : X) → joined_after touches both (xs ++ last ∷ []) p ≡ xs ++ one_or_two both (touches last p) last p []
after_last touches both [] last p = refl
after_last touches both (x ∷ []) last p = refl
after_last touches both (x ∷ y ∷ ys) last p = ap (λ t. x ∷ t) (after_last touches both (y ∷ ys) last p)

pub after_two : {X : Type 0} (touches : X → X → Bool) (both : X → X → X) (all xs : List X) (last p : X) (b : Bool) → all ≡ xs ++ last ∷ [] → touches last p ≡ b → joined_after touches both all p ≡ xs ++ one_or_two both b last p []
after_two touches both all xs last p b e t = ap (λ l. joined_after touches both l p) e ∙ after_last touches both xs last p ∙ ap (λ t. xs ++ one_or_two both t last p []) t

-- the list that is joined, with one more that f returns
pub joined_more : {X Y : Type 0} (touches : X → X → Bool) (both : X → X → X) (j : IsJoining touches both) (f : Y → X) (ys : List Y) (i : ℕ) (y : Y) → i < length ys → y ≡ get_or ys i y
    → joined_after touches both (joined touches both (map f (take i ys))) (f y) ≡ joined touches both (map f (take (i + 1) ys))
joined_more touches both j f ys i y inside at =
    sym (joined-push touches both j (map f (take i ys)) (f y))
    ∙ ap (joined touches both) (sym (ap (map f) (take_more ys i y inside ∙ ap (λ z. take i ys ++ z ∷ []) (sym at)) ∙ map-append f (take i ys) (y ∷ [])))

-- Lists of which no two neighbours touch.

abbrev pub IsApart : {X : Type 0} → (X → X → Bool) → List X → Type 0
IsApart touches [] = Unit {0}
IsApart touches (x ∷ []) = Unit {0}
IsApart touches (x ∷ y ∷ ys) = (touches x y ≡ false) × IsApart touches (y ∷ ys)

pub joined-apart : {X : Type 0} (touches : X → X → Bool) (both : X → X → X) (xs : List X) → IsApart touches xs → joined touches both xs ≡ xs
joined-apart touches both [] h = refl
joined-apart touches both (x ∷ []) h = refl
joined-apart touches both (x ∷ y ∷ ys) h = ap (joined_before touches both x) (joined-apart touches both (y ∷ ys) h.1) ∙ ap (λ b. one_or_two both b x y ys) h.0

before_apart : {X : Type 0} (touches : X → X → Bool) (both : X → X → X) → IsJoining touches both → (x : X) (ys : List X) → IsApart touches ys → IsApart touches (joined_before touches both x ys)
before_apart touches both j x [] h = tt
before_apart {X} touches both j x (y ∷ ys) h = by_touch (touches x y) refl ys h
  where
    by_touch : (b : Bool) → touches x y ≡ b → (zs : List X) → IsApart touches (y ∷ zs) → IsApart touches (one_or_two both b x y zs)
    by_touch true t [] h = tt
    by_touch true t (z ∷ zs) h = (j.last x y z t ∙ h.0, h.1)
    by_touch false t zs h = (t, h)

pub apart-joined : {X : Type 0} (touches : X → X → Bool) (both : X → X → X) → IsJoining touches both → (xs : List X) → IsApart touches (joined touches both xs)
apart-joined touches both j [] = tt
apart-joined touches both j (x ∷ xs) = before_apart touches both j x (joined touches both xs) (apart-joined touches both j xs)

pub joined-joined : {X : Type 0} (touches : X → X → Bool) (both : X → X → X) → IsJoining touches both → (xs : List X) → joined touches both (joined touches both xs) ≡ joined touches both xs
joined-joined touches both j xs = joined-apart touches both (joined touches both xs) (apart-joined touches both j xs)

-- what f makes of neighbours touches as they do
pub joined-map : {X : Type 0} (touches : X → X → Bool) (both : X → X → X) (f : X → X) → ((x y : X) → touches (f x) (f y) ≡ touches x y) → ((x y : X) → both (f x) (f y) ≡ f (both x y))
    → (xs : List X) → joined touches both (map f xs) ≡ map f (joined touches both xs)
joined-map touches both f t b [] = refl
joined-map {X} touches both f t b (x ∷ xs) = ap (joined_before touches both (f x)) (joined-map touches both f t b xs) ∙ first (joined touches both xs)
  where
    by_touch : (y : X) (ys : List X) (c : Bool) → one_or_two both c (f x) (f y) (map f ys) ≡ map f (one_or_two both c x y ys)
    by_touch y ys true = ap (λ z. z ∷ map f ys) (b x y)
    by_touch y ys false = refl

    first : (ys : List X) → joined_before touches both (f x) (map f ys) ≡ map f (joined_before touches both x ys)
    first [] = refl
    first (y ∷ ys) = ap (λ c. one_or_two both c (f x) (f y) (map f ys)) (t x y) ∙ by_touch y ys (touches x y)

-- two that touch, before others
pub before_two : {X : Type 0} (touches : X → X → Bool) (both : X → X → X) → IsJoining touches both → (x y : X) (ys : List X) → touches x y ≡ true
    → joined_before touches both x (joined_before touches both y ys) ≡ joined_before touches both (both x y) ys
before_two touches both j x y [] t = ap (λ b. one_or_two both b x y []) t
before_two {X} touches both j x y (z ∷ zs) t = by_touch (touches y z) refl
  where
    by_touch : (b : Bool) → touches y z ≡ b → joined_before touches both x (one_or_two both (touches y z) y z zs) ≡ one_or_two both (touches (both x y) z) (both x y) z zs
    by_touch true h =
        ap (λ b. joined_before touches both x (one_or_two both b y z zs)) h
        ∙ ap (λ b. one_or_two both b x (both y z) zs) (j.first x y z h ∙ t)
        ∙ ap (λ w. w ∷ zs) (j.order x y z)
        ∙ sym (ap (λ b. one_or_two both b (both x y) z zs) (j.last x y z t ∙ h))
    by_touch false h =
        ap (λ b. joined_before touches both x (one_or_two both b y z zs)) h
        ∙ ap (λ b. one_or_two both b x y (z ∷ zs)) t
        ∙ sym (ap (λ b. one_or_two both b (both x y) z zs) (j.last x y z t ∙ h))

-- what stands before doesn't mind how the rest came
pub joined_after_same : {X : Type 0} (touches : X → X → Bool) (both : X → X → X) (xs ys zs : List X) → joined touches both ys ≡ joined touches both zs → joined touches both (xs ++ ys) ≡ joined touches both (xs ++ zs)
joined_after_same touches both [] ys zs same = same
joined_after_same touches both (x ∷ xs) ys zs same = ap (joined_before touches both x) (joined_after_same touches both xs ys zs same)
