-- Sorted candidates: their numbers are in the order by weight.
use Rattle.std.proofs.Common.{◌≡◌, ◌<◌, ◌+◌, ℕ, List, [], ◌∷◌, length, map, false, refl, sym, ◌∙◌, ap, subst, arith, get_or, Ordering}
use Rattle.std.specs.Prelude.{IsPermutation, IsSorted, All, slice_index_or}
use Rattle.std.specs.List.{enumerate_from}
use Rattle.std.specs.Ordering.{nat_cmp, is_lt, ordering_then}
use Rattle.std.specs.Cmp.Lexicographic.{slice_cmp}
use Rattle.std.proofs.lemmas.List.{get_or-map, length-map}
use Rattle.std.proofs.lemmas.List.FromFn.{get_or-enumerate_from, length-enumerate_from}
use Rattle.std.proofs.lemmas.List.Sorted.{IsPermutation-map, All-permutation}
use Rattle.keep_spec.specs.Members.{numbers_from}
use Rattle.keep_spec.specs.Order.{placement_cmp, by_weight, IsByWeight}
use Rattle.keep_order.specs.Candidates.{candidate}
use Rattle.keep_order.specs.declared.places.Candidate.{Candidate}
use Rattle.keep_order.proofs.ByWeight.{only}

abbrev candidate_cmp : Candidate → Candidate → Ordering
candidate_cmp x y = ordering_then (slice_cmp nat_cmp y.weight.0 x.weight.0) (nat_cmp x.number y.number)

numbers-of : (k : ℕ) (ws : List (List ℕ)) → map (λ (c : Candidate). c.number) (map candidate (enumerate_from k ws)) ≡ numbers_from k (length ws)
numbers-of k [] = refl
numbers-of k (w ∷ ws) = ap (λ l. k ∷ l) (numbers-of (k + 1) ws)

weights-of : (ws : List (List ℕ)) → All (λ (c : Candidate). c.weight.0 ≡ slice_index_or ws c.number []) (map candidate (enumerate_from 0 ws))
weights-of ws k d lt =
    let inside : k < length ws = omega (arith, length-map (enumerate_from 0 ws) candidate, length-enumerate_from 0 ws) in
    let at = get_or-map candidate (enumerate_from 0 ws) k (0, []) d (omega (arith, length-enumerate_from 0 ws)) in
    let pair = get_or-enumerate_from 0 ws k (0, []) inside in
    let is : get_or (map candidate (enumerate_from 0 ws)) k d ≡ candidate (0 + k, get_or ws k []) = at ∙ ap candidate pair in
    let place : k ≡ 0 + k = omega arith in
    ap (λ (c : Candidate). c.weight.0) is ∙ ap (λ v. get_or ws v []) place ∙ sym (ap (λ (c : Candidate). get_or ws c.number []) is)

module _ (ws : List (List ℕ)) (cs : List Candidate) (moved : IsPermutation (map candidate (enumerate_from 0 ws)) cs) (sorted : IsSorted candidate_cmp cs) where
  abbrev w : ℕ → List ℕ
  w n = slice_index_or ws n []

  weigh : All (λ (c : Candidate). c.weight.0 ≡ slice_index_or ws c.number []) cs
  weigh = All-permutation (λ (c : Candidate). c.weight.0 ≡ slice_index_or ws c.number []) (map candidate (enumerate_from 0 ws)) cs moved (weights-of ws)

  falls : (k d : ℕ) → k + 1 < length cs → is_lt (placement_cmp w (get_or (map (λ (c : Candidate). c.number) cs) (k + 1) d) (get_or (map (λ (c : Candidate). c.number) cs) k d)) ≡ false
  falls k d lt =
      let none = candidate (0, []) in
      let x = get_or cs k none in
      let y = get_or cs (k + 1) none in
      let is_x : get_or (map (λ (c : Candidate). c.number) cs) k d ≡ x.number = get_or-map (λ (c : Candidate). c.number) cs k none d (omega arith) in
      let is_y : get_or (map (λ (c : Candidate). c.number) cs) (k + 1) d ≡ y.number = get_or-map (λ (c : Candidate). c.number) cs (k + 1) none d lt in
      ap (λ v. is_lt (placement_cmp w v (get_or (map (λ (c : Candidate). c.number) cs) k d))) is_y
      ∙ ap (λ v. is_lt (placement_cmp w y.number v)) is_x
      ∙ ap (λ v. is_lt (ordering_then (slice_cmp nat_cmp v (w y.number)) (nat_cmp y.number x.number))) (sym (weigh k none (omega arith)))
      ∙ ap (λ v. is_lt (ordering_then (slice_cmp nat_cmp x.weight.0 v) (nat_cmp y.number x.number))) (sym (weigh (k + 1) none lt))
      ∙ sorted k none (omega arith) lt

  pub in-order : IsByWeight (λ n. slice_index_or ws n []) (length ws) (map (λ (c : Candidate). c.number) cs)
  in-order = record {
    all = subst (λ ns. IsPermutation ns (map (λ (c : Candidate). c.number) cs)) (numbers-of 0 ws) (IsPermutation-map (λ (c : Candidate). c.number) (map candidate (enumerate_from 0 ws)) cs moved);
    sorted = λ k d low lt. falls k d (omega (arith, length-map cs (λ (c : Candidate). c.number)));
  }

  pub the-list : map (λ (c : Candidate). c.number) cs ≡ by_weight (λ n. slice_index_or ws n []) (numbers_from 0 (length ws))
  the-list = only (λ n. slice_index_or ws n []) (length ws) (map (λ (c : Candidate). c.number) cs) in-order.all in-order.sorted
