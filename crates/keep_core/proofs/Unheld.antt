-- A past is safe exactly where no protected digest is unheld, and the one that is found is the least: `none-safe`, `safe-none`, `some-least`.
use Rattle.std.proofs.Common.{◌≡◌, ℕ, List, [], ◌∷◌, length, Bool, true, false, not, ◌||◌, cond, refl, sym, ◌∙◌, ap, subst, Option, None, Some, arith, inl, inr, Less, Equal, Greater, Ordering}
use Rattle.std.specs.Prelude.{◌⊎◌}
use Rattle.std.specs.List.{find, list_any, AllByRecursion}
use Rattle.std.specs.Ordering.{nat_cmp, match_ordering, ordering_reverse}
use Rattle.std.specs.Cmp.Lexicographic.{slice_cmp, nat_list_cmp_total}
use Rattle.keep_spec.specs.Config.{Configuration}
use Rattle.keep_event.specs.Requests.{ascending, inserted}
use Rattle.keep_safety.specs.Holds.{holds}
use Rattle.keep_spec.specs.Members.{IsIn, numbers_from}
use Rattle.keep_safety.specs.Past.{Past}
use Rattle.keep_safety.specs.Safe.{protected, IsSafe, IsReadable}
use Rattle.keep_core.specs.Unheld.{is_held, protected_digests, unheld, IsLeastUnheld}
use Rattle.keep_safety.proofs.Accepted.{in-ascending}
use Rattle.keep_order.proofs.Distinct.{number-bounds, number-in}
use Rattle.keep_order.proofs.Lists.{find-in, all-at}
use Rattle.keep_safety.proofs.Names.{texts-equal}
use Rattle.keep_safety.proofs.Theorem.{held-readable}

abbrev Text : Type 0
Text = List ℕ

abbrev order : Text → Text → Ordering
order x y = slice_cmp nat_cmp x y

-- ---- the ascending list has the same members, in their order
inserted-in-by : (h x y : Text) (ys : List Text) (o : Ordering) → order x y ≡ o → (h ≡ x) ⊎ ((h ≡ y) ⊎ IsIn h ys) → ((h ≡ x) ⊎ IsIn h ys → IsIn h (inserted x ys)) → IsIn h (match_ordering o (x ∷ y ∷ ys) (y ∷ ys) (y ∷ inserted x ys))
inserted-in-by h x y ys Less e i rest = i
inserted-in-by h x y ys Equal e (inl same) rest = inl (same ∙ texts-equal x y e)
inserted-in-by h x y ys Equal e (inr i) rest = i
inserted-in-by h x y ys Greater e (inl same) rest = inr (rest (inl same))
inserted-in-by h x y ys Greater e (inr (inl same)) rest = inl same
inserted-in-by h x y ys Greater e (inr (inr i)) rest = inr (rest (inr i))

inserted-in : (h x : Text) (ys : List Text) → (h ≡ x) ⊎ IsIn h ys → IsIn h (inserted x ys)
inserted-in h x [] i = i
inserted-in h x (y ∷ ys) i = inserted-in-by h x y ys (order x y) refl i (inserted-in h x ys)

either : (h x : Text) (P Q : Type 0) → (P → Q) → (h ≡ x) ⊎ P → (h ≡ x) ⊎ Q
either h x P Q f (inl e) = inl e
either h x P Q f (inr p) = inr (f p)

pub ascending-in : (h : Text) (xs : List Text) → IsIn h xs → IsIn h (ascending xs)
ascending-in h [] i = i
ascending-in h (x ∷ xs) i = inserted-in h x (ascending xs) (either h x (IsIn h xs) (IsIn h (ascending xs)) (ascending-in h xs) i)

abbrev Ascends : List Text → Type 0
Ascends [] = Unit {0}
Ascends (x ∷ xs) = AllByRecursion (λ y. order x y ≡ Less) xs × Ascends xs

above-all : (x y : Text) (ys : List Text) → order x y ≡ Less → AllByRecursion (λ z. order y z ≡ Less) ys → AllByRecursion (λ z. order x z ≡ Less) ys
above-all x y [] lt h = tt
above-all x y (z ∷ zs) lt h = (nat_list_cmp_total.trans x y z lt h.0, above-all x y zs lt h.1)

all-inserted-by : (P : Text → Type 0) (x y : Text) (ys : List Text) (o : Ordering) → P x → P y × AllByRecursion P ys → AllByRecursion P (inserted x ys) → AllByRecursion P (match_ordering o (x ∷ y ∷ ys) (y ∷ ys) (y ∷ inserted x ys))
all-inserted-by P x y ys Less p h rest = (p, h)
all-inserted-by P x y ys Equal p h rest = h
all-inserted-by P x y ys Greater p h rest = (h.0, rest)

all-inserted : (P : Text → Type 0) (x : Text) (ys : List Text) → P x → AllByRecursion P ys → AllByRecursion P (inserted x ys)
all-inserted P x [] p h = (p, tt)
all-inserted P x (y ∷ ys) p h = all-inserted-by P x y ys (order x y) p h (all-inserted P x ys p h.1)

flipped : (x y : Text) (o : Ordering) → order x y ≡ o → order y x ≡ ordering_reverse o
flipped x y o e = nat_list_cmp_total.antisymm y x ∙ ap ordering_reverse e

inserted-ascends-by : (x y : Text) (ys : List Text) (o : Ordering) → order x y ≡ o → Ascends (y ∷ ys) → Ascends (inserted x ys) → Ascends (match_ordering o (x ∷ y ∷ ys) (y ∷ ys) (y ∷ inserted x ys))
inserted-ascends-by x y ys Less e h rest = ((e, above-all x y ys e h.0), h)
inserted-ascends-by x y ys Equal e h rest = h
inserted-ascends-by x y ys Greater e h rest = (all-inserted (λ z. order y z ≡ Less) x ys (flipped x y Greater e) h.0, rest)

inserted-ascends : (x : Text) (ys : List Text) → Ascends ys → Ascends (inserted x ys)
inserted-ascends x [] h = (tt, tt)
inserted-ascends x (y ∷ ys) h = inserted-ascends-by x y ys (order x y) refl h (inserted-ascends x ys h.1)

ascends : (xs : List Text) → Ascends (ascending xs)
ascends [] = tt
ascends (x ∷ xs) = inserted-ascends x (ascending xs) (ascends xs)

-- ---- what is found first
none-found-by : (p : Text → Bool) (x y : Text) (ys : List Text) (b : Bool) → p y ≡ b → cond b (Some y) (find p ys) ≡ None → (x ≡ y) ⊎ IsIn x ys → (find p ys ≡ None → IsIn x ys → p x ≡ false) → p x ≡ false
none-found-by p x y ys true e is i rest = cc is
none-found-by p x y ys false e is (inl same) rest = ap p same ∙ e
none-found-by p x y ys false e is (inr i) rest = rest is i

none-found : (p : Text → Bool) (x : Text) (xs : List Text) → find p xs ≡ None → IsIn x xs → p x ≡ false
none-found p x [] is i = absurd i
none-found p x (y ∷ ys) is i = none-found-by p x y ys (p y) refl is i (none-found p x ys)

first-least-by : (p : Text → Bool) (x g y : Text) (ys : List Text) (b : Bool) → p y ≡ b → cond b (Some y) (find p ys) ≡ Some x → (g ≡ y) ⊎ IsIn g ys → p g ≡ true → AllByRecursion (λ z. order y z ≡ Less) ys →
    (find p ys ≡ Some x → IsIn g ys → (g ≡ x) ⊎ (order x g ≡ Less)) → (g ≡ x) ⊎ (order x g ≡ Less)
first-least-by p x g y ys true e is (inl same) t h rest = inl (cc (same ∙ some-text y x is))
  where
    some-text : (y x : Text) → Some y ≡ Some x → y ≡ x
    some-text y x e = cc e
first-least-by p x g y ys true e is (inr i) t h rest = inr (subst (λ v. order v g ≡ Less) (some-text y x is) (all-at (λ z. order y z ≡ Less) g ys h i))
  where
    some-text : (y x : Text) → Some y ≡ Some x → y ≡ x
    some-text y x e = cc e
first-least-by p x g y ys false e is (inl same) t h rest = cc (sym t ∙ ap p same ∙ e)
first-least-by p x g y ys false e is (inr i) t h rest = rest is i

first-least : (p : Text → Bool) (x g : Text) (xs : List Text) → Ascends xs → find p xs ≡ Some x → IsIn g xs → p g ≡ true → (g ≡ x) ⊎ (order x g ≡ Less)
first-least p x g [] a is i t = absurd i
first-least p x g (y ∷ ys) a is i t = first-least-by p x g y ys (p y) refl is i t a.0 (λ found j. first-least p x g ys a.1 found j t)

-- ---- a digest that is held
held-by : (p : ℕ → Bool) (x : ℕ) (xs : List ℕ) (b : Bool) → p x ≡ b → (b || list_any p xs) ≡ true → (list_any p xs ≡ true → (d : ℕ) × IsIn d xs × (p d ≡ true)) → (d : ℕ) × IsIn d (x ∷ xs) × (p d ≡ true)
held-by p x xs true e h rest = (x, inl refl, e)
held-by p x xs false e h rest = let r = rest h in (r.0, inr r.1, r.2)

any-held : (p : ℕ → Bool) (xs : List ℕ) → list_any p xs ≡ true → (d : ℕ) × IsIn d xs × (p d ≡ true)
any-held p [] h = cc h
any-held p (x ∷ xs) h = held-by p x xs (p x) refl h (any-held p xs)

held-any : (p : ℕ → Bool) (d : ℕ) (xs : List ℕ) → IsIn d xs → p d ≡ true → list_any p xs ≡ true
held-any p d [] i h = absurd i
held-any p d (x ∷ xs) (inl e) h = ap (λ b. b || list_any p xs) (ap p (sym e) ∙ h)
held-any p d (x ∷ xs) (inr i) h = ap (λ b. p x || b) (held-any p d xs i h) ∙ or-true (p x)
  where
    or-true : (b : Bool) → (b || true) ≡ true
    or-true true = refl
    or-true false = refl

not-false : (b : Bool) → not b ≡ false → b ≡ true
not-false true e = refl
not-false false e = cc e

module _ (c : Configuration) (past : Past) where
  readable-if : (h : Text) → is_held c past h ≡ true → IsReadable c past h
  readable-if h e =
      let k = any-held (λ d. holds d h past) (numbers_from 0 (length c.devices)) e in
      let b = number-bounds 0 (length c.devices) k.0 k.1 in
      held-readable c past h k.0 (omega (arith, b.1)) k.2

  held-if : (h : Text) → IsReadable c past h → is_held c past h ≡ true
  held-if h r = let lt = r.configured in held-any (λ d. holds d h past) r.device (numbers_from 0 (length c.devices)) (number-in 0 (length c.devices) r.device (omega arith) (omega arith)) r.held

  -- safe exactly where nothing is found
  pub none-safe : unheld c past ≡ None → IsSafe c past
  none-safe none h i = readable-if h (not-false (is_held c past h) (none-found (λ h. not (is_held c past h)) h (protected_digests c past) none (ascending-in h (protected c past) i)))

  pub safe-none : IsSafe c past → unheld c past ≡ None
  safe-none safe = by (unheld c past) refl
    where
      by : (o : Option Text) → unheld c past ≡ o → o ≡ None
      by None e = refl
      by (Some h) e =
          let at = find-in (λ h. not (is_held c past h)) h (protected_digests c past) e in
          cc (sym (ap not (held-if h (safe h (in-ascending h (protected c past) at.0)))) ∙ at.1)

  pub some-least : (h : Text) → unheld c past ≡ Some h → IsLeastUnheld c past h
  some-least h e =
      let at = find-in (λ h. not (is_held c past h)) h (protected_digests c past) e in
      record {
        is_protected = in-ascending h (protected c past) at.0;
        nowhere = not-true (is_held c past h) at.1;
        least = λ g i none. first-least (λ h. not (is_held c past h)) h g (protected_digests c past) (ascends (protected c past)) e (ascending-in g (protected c past) i) (ap not none);
      }
    where
      not-true : (b : Bool) → not b ≡ true → b ≡ false
      not-true true e = cc e
      not-true false e = refl
