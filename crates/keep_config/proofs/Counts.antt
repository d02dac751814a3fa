-- So many names as different ones: they are all distinct.
use Rattle.std.proofs.Common.{◌≡◌, ◌==◌, ◌&&◌, ℕ, suc, List, [], ◌∷◌, length, map, Bool, true, false, cond, not, refl, sym, ◌∙◌, ap, arith, inl, inr, Bor, bytes_eq}
use Rattle.std.specs.List.{list_any}
use Rattle.std.specs.Set.{is_member, unique_keys, distinct_count}
use Rattle.std.proofs.lemmas.Bool.{cases_Bool, eq-eqb, ne_eqb, eqb-true, eqb-false}
use Rattle.std.proofs.lemmas.Map.Made.{distinct_count-le}
use Rattle.keep_spec.specs.Config.{all_distinct}

suc-eqb : (a b : ℕ) → (suc a == suc b) ≡ (a == b)
suc-eqb a b = elim (cases_Bool (a == b)) as (λ _. (suc a == suc b) ≡ (a == b)) [ inl e ↦ eq-eqb (suc a) (suc b) (ap suc (eqb-true a b e)) ∙ sym e | inr e ↦ ne_eqb (suc a) (suc b) (λ k. eqb-false a b e (omega arith)) ∙ sym e ]

-- a test of references that looks at what they point to
module _ (eq : Bor (List ℕ) → Bor (List ℕ) → Bool) (same : (a b : Bor (List ℕ)) → eq a b ≡ bytes_eq a.now b.now) where
  is_member-now : (x : Bor (List ℕ)) (xs : List (Bor (List ℕ))) → is_member eq xs x ≡ list_any (bytes_eq x.now) (map (λ t. t.now) xs)
  is_member-now x [] = refl
  is_member-now x (y ∷ ys) = rw (same x y, is_member-now x ys) refl

  count-cond : (b : Bool) (x : Bor (List ℕ)) (xs : List (Bor (List ℕ))) (rest : Bool) → (distinct_count eq xs == length xs) ≡ rest → (length (cond b (unique_keys eq xs) (x ∷ unique_keys eq xs)) == length (x ∷ xs)) ≡ (not b && rest)
  count-cond true x xs rest h = ne_eqb _ _ (λ e. let le = distinct_count-le eq xs in absurd (omega arith))
  count-cond false x xs rest h = suc-eqb _ _ ∙ h

  pub distinct_count-all_distinct : (xs : List (Bor (List ℕ))) → (distinct_count eq xs == length xs) ≡ all_distinct (map (λ t. t.now) xs)
  distinct_count-all_distinct [] = refl
  distinct_count-all_distinct (x ∷ xs) = count-cond (is_member eq xs x) x xs (all_distinct (map (λ t. t.now) xs)) (distinct_count-all_distinct xs) ∙ ap (λ b. not b && all_distinct (map (λ t. t.now) xs)) (is_member-now x xs)
