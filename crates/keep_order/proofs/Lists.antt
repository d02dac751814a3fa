-- Members of mapped, filtered and joined lists.
use Rattle.std.proofs.Common.{◌≡◌, List, [], ◌∷◌, ◌++◌, map, filter, Bool, true, false, cond, refl, sym, ◌∙◌, ap, subst, Option, None, Some, inl, inr}
use Rattle.std.specs.Prelude.{◌⊎◌, filter_map}
use Rattle.std.specs.List.{last_or, find, cons_option, flat_map, AllByRecursion}
use Rattle.keep_spec.specs.Members.{IsIn}

-- a member of a list that f gave, and what it came from
pub record Came {X Y : Type 0} (f : X → Y) (y : Y) (xs : List X) : Type 0 where
  pub from : X
  pub member : IsIn from xs
  pub is : y ≡ f from

pub in-map : {X Y : Type 0} (f : X → Y) (y : Y) (xs : List X) → IsIn y (map f xs) → Came f y xs
in-map f y [] i = absurd i
in-map f y (x ∷ xs) (inl e) = record { from = x; member = inl refl; is = e }
in-map f y (x ∷ xs) (inr i) = let c = in-map f y xs i in record { from = c.from; member = inr c.member; is = c.is }

pub map-in : {X Y : Type 0} (f : X → Y) (x : X) (xs : List X) → IsIn x xs → IsIn (f x) (map f xs)
map-in f x [] i = absurd i
map-in f x (y ∷ ys) (inl e) = inl (ap f e)
map-in f x (y ∷ ys) (inr i) = inr (map-in f x ys i)

in-kept : {X : Type 0} (p : X → Bool) (x y : X) (ys zs : List X) (b : Bool) → p y ≡ b → (IsIn x zs → IsIn x ys × (p x ≡ true)) → IsIn x (cond b (y ∷ zs) zs) → IsIn x (y ∷ ys) × (p x ≡ true)
in-kept p x y ys zs true e rest (inl same) = (inl same, ap p same ∙ e)
in-kept p x y ys zs true e rest (inr i) = let r = rest i in (inr r.0, r.1)
in-kept p x y ys zs false e rest i = let r = rest i in (inr r.0, r.1)

pub in-filter : {X : Type 0} (p : X → Bool) (x : X) (xs : List X) → IsIn x (filter p xs) → IsIn x xs × (p x ≡ true)
in-filter p x [] i = absurd i
in-filter p x (y ∷ ys) i = in-kept p x y ys (filter p ys) (p y) refl (in-filter p x ys) i

kept-in : {X : Type 0} (x y : X) (zs : List X) (b : Bool) → (x ≡ y → b ≡ true) → (x ≡ y) ⊎ IsIn x zs → IsIn x (cond b (y ∷ zs) zs)
kept-in x y zs true t i = i
kept-in x y zs false t (inl e) = cc (t e)
kept-in x y zs false t (inr i) = i

pub filter-in : {X : Type 0} (p : X → Bool) (x : X) (xs : List X) → IsIn x xs → p x ≡ true → IsIn x (filter p xs)
filter-in p x [] i e = absurd i
filter-in p x (y ∷ ys) (inl same) e = kept-in x y (filter p ys) (p y) (λ s. ap p (sym s) ∙ e) (inl same)
filter-in p x (y ∷ ys) (inr i) e = kept-in x y (filter p ys) (p y) (λ s. ap p (sym s) ∙ e) (inr (filter-in p x ys i e))

pub in-left : {X : Type 0} (x : X) (xs ys : List X) → IsIn x xs → IsIn x (xs ++ ys)
in-left x [] ys i = absurd i
in-left x (y ∷ xs) ys (inl e) = inl e
in-left x (y ∷ xs) ys (inr i) = inr (in-left x xs ys i)

pub in-right : {X : Type 0} (x : X) (xs ys : List X) → IsIn x ys → IsIn x (xs ++ ys)
in-right x [] ys i = i
in-right x (y ∷ xs) ys i = inr (in-right x xs ys i)

pub in-either : {X : Type 0} (x : X) (xs ys : List X) → IsIn x (xs ++ ys) → IsIn x xs ⊎ IsIn x ys
in-either x [] ys i = inr i
in-either x (y ∷ xs) ys (inl e) = inl (inl e)
in-either x (y ∷ xs) ys (inr i) = later (in-either x xs ys i)
  where
    later : IsIn x xs ⊎ IsIn x ys → IsIn x (y ∷ xs) ⊎ IsIn x ys
    later (inl i) = inl (inr i)
    later (inr i) = inr i

-- a member of joined lists, and which of them has it
pub record Joins {X Y : Type 0} (f : X → List Y) (y : Y) (xs : List X) : Type 0 where
  pub from : X
  pub member : IsIn from xs
  pub has : IsIn y (f from)

joins-by : {X Y : Type 0} (f : X → List Y) (y : Y) (x : X) (xs : List X) → IsIn y (f x) ⊎ IsIn y (flat_map f xs) → (IsIn y (flat_map f xs) → Joins f y xs) → Joins f y (x ∷ xs)
joins-by f y x xs (inl i) rest = record { from = x; member = inl refl; has = i }
joins-by f y x xs (inr i) rest = let j = rest i in record { from = j.from; member = inr j.member; has = j.has }

pub in-joined : {X Y : Type 0} (f : X → List Y) (y : Y) (xs : List X) → IsIn y (flat_map f xs) → Joins f y xs
in-joined f y [] i = absurd i
in-joined f y (x ∷ xs) i = joins-by f y x xs (in-either y (f x) (flat_map f xs) i) (in-joined f y xs)

pub joined-in : {X Y : Type 0} (f : X → List Y) (x : X) (y : Y) (xs : List X) → IsIn x xs → IsIn y (f x) → IsIn y (flat_map f xs)
joined-in f x y [] i j = absurd i
joined-in f x y (z ∷ zs) (inl e) j = in-left y (f z) (flat_map f zs) (subst (λ v. IsIn y (f v)) e j)
joined-in f x y (z ∷ zs) (inr i) j = in-right y (f z) (flat_map f zs) (joined-in f x y zs i j)

-- a member of what h gave of the items
pub record Gave {X Y : Type 0} (h : X → Option Y) (y : Y) (xs : List X) : Type 0 where
  pub from : X
  pub member : IsIn from xs
  pub gave : h from ≡ Some y

gives-by : {X Y : Type 0} (h : X → Option Y) (y : Y) (x : X) (xs : List X) (o : Option Y) → h x ≡ o → IsIn y (cons_option o (filter_map h xs)) → (IsIn y (filter_map h xs) → Gave h y xs) → Gave h y (x ∷ xs)
gives-by h y x xs None e i rest = let g = rest i in record { from = g.from; member = inr g.member; gave = g.gave }
gives-by h y x xs (Some z) e (inl same) rest = record { from = x; member = inl refl; gave = e ∙ ap Some (sym same) }
gives-by h y x xs (Some z) e (inr i) rest = let g = rest i in record { from = g.from; member = inr g.member; gave = g.gave }

pub in-given : {X Y : Type 0} (h : X → Option Y) (y : Y) (xs : List X) → IsIn y (filter_map h xs) → Gave h y xs
in-given h y [] i = absurd i
in-given h y (x ∷ xs) i = gives-by h y x xs (h x) refl i (in-given h y xs)

-- the last that passes, and the first
last-of : {X : Type 0} (o : Option X) (x : X) (xs : List X) → last_or o xs ≡ Some x → (o ≡ Some x) ⊎ IsIn x xs
last-of o x [] e = inl e
last-of o x (y ∷ ys) e = by (last-of (Some y) x ys e)
  where
    by : (Some y ≡ Some x) ⊎ IsIn x ys → (o ≡ Some x) ⊎ IsIn x (y ∷ ys)
    by (inl same) = inr (inl (cc same))
    by (inr i) = inr (inr i)

pub last-in : {X : Type 0} (x : X) (xs : List X) → last_or None xs ≡ Some x → IsIn x xs
last-in x xs e = by (last-of None x xs e)
  where
    by : (None ≡ Some x) ⊎ IsIn x xs → IsIn x xs
    by (inl f) = cc f
    by (inr i) = i

find-by : {X : Type 0} (p : X → Bool) (x y : X) (ys : List X) (b : Bool) → p y ≡ b → cond b (Some y) (find p ys) ≡ Some x → (find p ys ≡ Some x → IsIn x ys × (p x ≡ true)) → IsIn x (y ∷ ys) × (p x ≡ true)
find-by p x y ys true q e rest = let same : x ≡ y = cc e in (inl same, ap p same ∙ q)
find-by p x y ys false q e rest = let r = rest e in (inr r.0, r.1)

pub find-in : {X : Type 0} (p : X → Bool) (x : X) (xs : List X) → find p xs ≡ Some x → IsIn x xs × (p x ≡ true)
find-in p x [] e = cc e
find-in p x (y ∷ ys) e = find-by p x y ys (p y) refl e (find-in p x ys)

pub all-at : {X : Type 0} (P : X → Type 0) (x : X) (xs : List X) → AllByRecursion P xs → IsIn x xs → P x
all-at P x [] h i = absurd i
all-at P x (y ∷ ys) h (inl e) = subst P (sym e) h.0
all-at P x (y ∷ ys) h (inr i) = all-at P x ys h.1 i

pub all-of : {X : Type 0} (P : X → Type 0) (xs : List X) → ((x : X) → IsIn x xs → P x) → AllByRecursion P xs
all-of P [] f = tt
all-of P (x ∷ xs) f = (f x (inl refl), all-of P xs (λ y i. f y (inr i)))
