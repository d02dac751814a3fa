-- A text cut at a byte.
-- Laws: `cut_at_found`, `cut_at_none`, `split_found`, `split_none`, `length_found`.
use Rattle.std.proofs.Common.{◌≡◌, ◌≢◌, ℕ, zero, suc, ◌+◌, ◌<◌, eqb, Bool, true, false, cond, List, [], ◌∷◌, length, take, drop, get_or, Option, Some, None, option_map, refl, ap, sym, ◌∙◌, arith, eq-eqb}
use Rattle.std.proofs.lemmas.Bool.{ne_eqb}
use Rattle.std.proofs.lemmas.Option.{same_Some, none-some}
use Rattle.std.specs.List.{slice_split, onto_first}
use Rattle.keep_spec.specs.Manifest.{cut_at}

pub cut_at_found : (c : ℕ) (xs : List ℕ) (i : ℕ) → i < length xs → ((k : ℕ) → k < i → get_or xs k 0 ≢ c) → get_or xs i 0 ≡ c → cut_at c xs ≡ Some (take i xs, drop (suc i) xs)
unfolding cut_at
cut_at_found c [] i h before here = absurd (omega arith)
cut_at_found c (x ∷ xs) zero h before here = rw (eq-eqb x c here)
cut_at_found c (x ∷ xs) (suc i) h before here =
    let other : eqb x c ≡ false = ne_eqb x c (before 0 (omega arith)) in
    rw (other, cut_at_found c xs i (omega arith) (λ k l. before (suc k) (omega arith)) here)

pub cut_at_none : (c : ℕ) (xs : List ℕ) → ((k : ℕ) → k < length xs → get_or xs k 0 ≢ c) → cut_at c xs ≡ None
unfolding cut_at
cut_at_none c [] all = refl
cut_at_none c (x ∷ xs) all =
    let other : eqb x c ≡ false = ne_eqb x c (all 0 (omega arith)) in
    rw (other, cut_at_none c xs (λ k l. all (suc k) (omega arith)))

abbrev pub parts : ℕ → List ℕ → List (List ℕ)
parts c xs = slice_split (λ b. eqb b c) xs

split_step : (b : Bool) (c x : ℕ) (xs : List ℕ) (o : Option (List ℕ × List ℕ)) (p : List ℕ × List ℕ) → cond {A = Option (List ℕ × List ℕ)} b (Some ([], xs)) (option_map (λ q. (x ∷ q.0, q.1)) o) ≡ Some p → ((q : List ℕ × List ℕ) → o ≡ Some q → parts c xs ≡ q.0 ∷ parts c q.1) → cond b ([] ∷ parts c xs) (onto_first x (parts c xs)) ≡ p.0 ∷ parts c p.1
split_step true c x xs o p e h = ap (λ q. q.0 ∷ parts c q.1) (same_Some _ _ e)
split_step false c x xs None p e h = absurd (none-some p e)
split_step false c x xs (Some q) p e h = ap (onto_first x) (h q refl) ∙ ap (λ q. q.0 ∷ parts c q.1) (same_Some _ _ e)

-- the first part, and the parts of what stands after
pub split_found : (c : ℕ) (xs : List ℕ) (p : List ℕ × List ℕ) → cut_at c xs ≡ Some p → parts c xs ≡ p.0 ∷ parts c p.1
unfolding cut_at
split_found c [] p e = absurd (none-some p e)
split_found c (x ∷ xs) p e = split_step (eqb x c) c x xs (cut_at c xs) p e (split_found c xs)

split_none_step : (b : Bool) (c x : ℕ) (xs : List ℕ) (o : Option (List ℕ × List ℕ)) → cond {A = Option (List ℕ × List ℕ)} b (Some ([], xs)) (option_map (λ q. (x ∷ q.0, q.1)) o) ≡ None → (o ≡ None → parts c xs ≡ xs ∷ []) → cond b ([] ∷ parts c xs) (onto_first x (parts c xs)) ≡ (x ∷ xs) ∷ []
split_none_step true c x xs o e h = absurd (none-some _ (sym e))
split_none_step false c x xs None e h = ap (onto_first x) (h refl)
split_none_step false c x xs (Some q) e h = absurd (none-some _ (sym e))

pub split_none : (c : ℕ) (xs : List ℕ) → cut_at c xs ≡ None → parts c xs ≡ xs ∷ []
unfolding cut_at
split_none c [] e = refl
split_none c (x ∷ xs) e = split_none_step (eqb x c) c x xs (cut_at c xs) e (split_none c xs)

length_step : (b : Bool) (x : ℕ) (xs : List ℕ) (o : Option (List ℕ × List ℕ)) (p : List ℕ × List ℕ) → cond {A = Option (List ℕ × List ℕ)} b (Some ([], xs)) (option_map (λ q. (x ∷ q.0, q.1)) o) ≡ Some p → ((q : List ℕ × List ℕ) → o ≡ Some q → length q.0 + 1 + length q.1 ≡ length xs) → length p.0 + 1 + length p.1 ≡ suc (length xs)
length_step true x xs o p e h = ap (λ q. length q.0 + 1 + length q.1) (sym (same_Some _ _ e)) ∙ omega arith
length_step false x xs None p e h = absurd (none-some p e)
length_step false x xs (Some q) p e h = ap (λ q. length q.0 + 1 + length q.1) (sym (same_Some _ _ e)) ∙ (let i = h q refl in omega arith)

pub length_found : (c : ℕ) (xs : List ℕ) (p : List ℕ × List ℕ) → cut_at c xs ≡ Some p → length p.0 + 1 + length p.1 ≡ length xs
unfolding cut_at
length_found c [] p e = absurd (none-some p e)
length_found c (x ∷ xs) p e = length_step (eqb x c) x xs (cut_at c xs) p e (length_found c xs)
