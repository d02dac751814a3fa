-- Distinct numbers of a list that pass a test are no more than the members that pass it: `no-more`.
use Rattle.std.proofs.Common.{◌≡◌, ◌≤◌, ◌+◌, ℕ, suc, List, [], ◌∷◌, length, filter, count_by, Bool, true, false, cond, not, refl, sym, ◌∙◌, ap, subst, arith, inl, inr, nat_eq}
use Rattle.std.specs.Prelude.{◌⊎◌}
use Rattle.std.proofs.lemmas.Bool.{eqb-true, eqb-false}
use Rattle.keep_spec.specs.Members.{IsIn, AreDistinct}
use Rattle.keep_order.proofs.Distinct.{distinct-filter}
use Rattle.keep_order.proofs.Lists.{in-filter}
use Rattle.keep_table.proofs.Counts.{bit, count-cons}

-- ---- distinct members of a list that pass a test are no more than those that pass
all-others-by : (n x : ℕ) (xs : List ℕ) (b : Bool) → nat_eq x n ≡ b → (n ≡ x → ⊥) → length xs ≡ length (filter (λ x. not (nat_eq x n)) xs) → length (x ∷ xs) ≡ length (cond (not b) (x ∷ filter (λ x. not (nat_eq x n)) xs) (filter (λ x. not (nat_eq x n)) xs))
all-others-by n x xs true e never h = absurd (never (sym (eqb-true x n e)))
all-others-by n x xs false e never h = ap suc h

-- none is left out where it isn't there
all-others : (n : ℕ) (xs : List ℕ) → (IsIn n xs → ⊥) → length xs ≡ length (filter (λ x. not (nat_eq x n)) xs)
all-others n [] never = refl
all-others n (x ∷ xs) never = all-others-by n x xs (nat_eq x n) refl (λ e. never (inl e)) (all-others n xs (λ i. never (inr i)))

one-less-by : (n x : ℕ) (xs : List ℕ) (b : Bool) → nat_eq x n ≡ b → (IsIn x xs → ⊥) → length xs ≤ length (filter (λ x. not (nat_eq x n)) xs) + 1 → ((IsIn n xs → ⊥) → length xs ≡ length (filter (λ x. not (nat_eq x n)) xs)) →
    length (x ∷ xs) ≤ length (cond (not b) (x ∷ filter (λ x. not (nat_eq x n)) xs) (filter (λ x. not (nat_eq x n)) xs)) + 1
one-less-by n x xs true e never h all = let same = all (λ i. never (subst (λ v. IsIn v xs) (sym (eqb-true x n e)) i)) in omega arith
one-less-by n x xs false e never h all = omega arith

one-less : (n : ℕ) (xs : List ℕ) → AreDistinct xs → length xs ≤ length (filter (λ x. not (nat_eq x n)) xs) + 1
one-less n [] h = omega arith
one-less n (x ∷ xs) h = one-less-by n x xs (nat_eq x n) refl h.0 (one-less n xs h.1) (all-others n xs)

abbrev Passes : (ℕ → Bool) → List ℕ → List ℕ → Type 0
Passes p ns ks = (k : ℕ) → IsIn k ks → IsIn k ns × (p k ≡ true)

fewer-by : (p : ℕ → Bool) (n : ℕ) (ns ks : List ℕ) (b : Bool) → p n ≡ b → AreDistinct ks → Passes p (n ∷ ns) ks → length (filter (λ x. not (nat_eq x n)) ks) ≤ count_by p ns → length ks ≤ bit b + count_by p ns
fewer-by p n ns ks true e h f rest = let l = one-less n ks h in omega arith
fewer-by p n ns ks false e h f rest = let same = all-others n ks (λ i. none (f n i).1) in omega arith
  where
    none : p n ≡ true → ⊥
    none t = cc (sym t ∙ e)

passes-others : (p : ℕ → Bool) (n : ℕ) (ns ks : List ℕ) → Passes p (n ∷ ns) ks → Passes p ns (filter (λ x. not (nat_eq x n)) ks)
passes-others p n ns ks f k i =
    let at = in-filter (λ x. not (nat_eq x n)) k ks i in
    let r = f k at.0 in
    (by r.0 at.1, r.1)
  where
    different : (b : Bool) → not b ≡ true → b ≡ false
    different true e = cc e
    different false e = refl

    by : (k ≡ n) ⊎ IsIn k ns → not (nat_eq k n) ≡ true → IsIn k ns
    by (inl e) ne = absurd (eqb-false k n (different (nat_eq k n) ne) e)
    by (inr i) ne = i

pub no-more : (p : ℕ → Bool) (ns ks : List ℕ) → AreDistinct ks → Passes p ns ks → length ks ≤ count_by p ns
no-more p [] [] h f = omega arith
no-more p [] (k ∷ ks) h f = absurd ((f k (inl refl)).0)
no-more p (n ∷ ns) ks h f = rw (count-cons p n ns) (fewer-by p n ns ks (p n) refl h f (no-more p ns (filter (λ x. not (nat_eq x n)) ks) (distinct-filter (λ x. not (nat_eq x n)) ks h) (passes-others p n ns ks f)))
