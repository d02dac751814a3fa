-- What values put together by key are: the keys ascend, each is that of some pair, and the values at it are those of the pairs with it, in
-- their order: `grouped-entries`, `grouped-keys`.
use Rattle.std.proofs.Common.{◌≡◌, ℕ, zero, suc, ◌<◌, ltb, Bool, true, false, cond, List, [], ◌∷◌, ◌++◌, length, get_or, Some, map, refl, ap, sym, ◌∙◌, arith}
use Rattle.std.specs.Prelude.{◌↔◌, All, Contains, filter, unwrap_or}
use Rattle.std.specs.List.{list_all, AllByRecursion}
use Rattle.std.specs.Map.{keys_of}
use Rattle.std.specs.Ordering.{is_eq, ordering_reverse}
use Rattle.std.specs.Str.{bytes_eq}
use Rattle.std.specs.declared.cmp.Ordering.TheVariants.{Less}
use Rattle.std.proofs.lemmas.Bool.{and_parts, lt-ltb, false≢true}
use Rattle.std.proofs.lemmas.Cmp.{nat_list_cmp_total}
use Rattle.std.proofs.lemmas.List.Elements.{All-from_recursion, All-contains, Contains-append_right}
use Rattle.std.proofs.lemmas.Map.Keys.{sorted_head, sorted_tail}
use Rattle.std.proofs.lemmas.Map.Text.{is_eq-slice_cmp}
use Rattle.keep_normal.specs.Grouped.{byte_order, values_at, values_of, keys_in, grouped}
use Rattle.keep_normal.proofs.Grouping.{grouped-ascending, has_key, found, found_first, is_filled, key-same, selected, grouped-values, grouped-filled}
use Rattle.keep_normal.proofs.OrderedEntries.{IsAscending, at-same}

-- The values beside a key are those of its pairs.

selected-is : {X : Type 0} (k : List ℕ) (pairs : List (List ℕ × X)) → selected k pairs ≡ values_of k pairs
selected-is k [] = refl
selected-is {X} k (e ∷ es) = ap (λ b. cond b (e.1 ∷ []) [] ++ selected k es) (is_eq-slice_cmp k e.0) ∙ by_key (bytes_eq k e.0) (selected-is k es)
  where
    by_key : (b : Bool) → selected k es ≡ values_of k es → cond b (e.1 ∷ []) [] ++ selected k es ≡ map (λ (p : List ℕ × X). p.1) (cond b (e ∷ filter (λ p. bytes_eq k p.0) es) (filter (λ p. bytes_eq k p.0) es))
    by_key true rest = ap (λ vs. e.1 ∷ vs) rest
    by_key false rest = rest

others_at : {X : Type 0} (h : List ℕ × List X) (m gs : List (List ℕ × List X)) → AllByRecursion (λ y. byte_order h.0 y ≡ Less) (keys_of gs)
    → AllByRecursion (λ g. values_at m g.0 ≡ g.1) gs → AllByRecursion (λ g. values_at (h ∷ m) g.0 ≡ g.1) gs
others_at h m [] above are = tt
others_at h m (g ∷ gs) above are =
    let other : has_key g.0 h.0 ≡ false = ap is_eq (nat_list_cmp_total.antisymm g.0 h.0 ∙ ap ordering_reverse above.0) in
    (ap (λ b. unwrap_or (cond b (Some h.1) (found m g.0)) []) other ∙ are.0, others_at h m gs above.1 are.1)

entries_at : {X : Type 0} (m : List (List ℕ × List X)) → IsAscending m → AllByRecursion (λ g. values_at m g.0 ≡ g.1) m
entries_at [] s = tt
entries_at (h ∷ m) s =
    (ap (λ o. unwrap_or o []) (found_first h m), others_at h m m (sorted_head byte_order h.0 (keys_of m) s) (entries_at m (sorted_tail byte_order h.0 (keys_of m) s)))

each_are : {X : Type 0} (pairs : List (List ℕ × X)) (gs : List (List ℕ × List X)) → AllByRecursion (λ g. values_at (grouped pairs) g.0 ≡ g.1) gs → AllByRecursion (λ g. g.1 ≡ values_of g.0 pairs) gs
each_are pairs [] h = tt
each_are pairs (g ∷ gs) h = (sym h.0 ∙ grouped-values pairs g.0 ∙ selected-is g.0 pairs, each_are pairs gs h.1)

pub grouped-entries : {X : Type 0} (pairs : List (List ℕ × X)) → AllByRecursion (λ g. g.1 ≡ values_of g.0 pairs) (grouped pairs)
grouped-entries pairs = each_are pairs (grouped pairs) (entries_at (grouped pairs) (grouped-ascending pairs))

-- The keys are those of the pairs.

selected_some : {X : Type 0} (k : List ℕ) (pairs : List (List ℕ × X)) → ltb 0 (length (selected k pairs)) ≡ true → Contains (keys_in pairs) k
selected_some k [] h = absurd (false≢true h)
selected_some {X} k (e ∷ es) h = by_key (has_key k e.0) refl h (selected_some k es)
  where
    by_key : (b : Bool) → has_key k e.0 ≡ b → ltb 0 (length (cond b (e.1 ∷ []) [] ++ selected k es)) ≡ true → (ltb 0 (length (selected k es)) ≡ true → Contains (keys_in es) k) → Contains (keys_in (e ∷ es)) k
    by_key true same h rest = (0, omega arith, sym (at-same k e.0 same))
    by_key false same h rest = Contains-append_right (e.0 ∷ []) (keys_in es) k (rest h)

selected_at : {X : Type 0} (k : List ℕ) (pairs : List (List ℕ × X)) (i : ℕ) → i < length (keys_in pairs) → get_or (keys_in pairs) i k ≡ k → 0 < length (selected k pairs)
selected_at k [] i within e = omega arith
selected_at {X} k (p ∷ ps) i within e = by_key (has_key k p.0) refl i within e (selected_at k ps)
  where
    by_key : (b : Bool) → has_key k p.0 ≡ b → (i : ℕ) → i < length (keys_in (p ∷ ps)) → get_or (keys_in (p ∷ ps)) i k ≡ k
        → ((j : ℕ) → j < length (keys_in ps) → get_or (keys_in ps) j k ≡ k → 0 < length (selected k ps)) → 0 < length (cond b (p.1 ∷ []) [] ++ selected k ps)
    by_key true same i within e rest = omega arith
    by_key false same zero within e rest = absurd (false≢true (sym same ∙ is_eq-slice_cmp k p.0 ∙ ap (bytes_eq k) e ∙ sym (is_eq-slice_cmp k k) ∙ key-same k))
    by_key false same (suc i) within e rest = rest i (omega arith) e

found_key : {X : Type 0} (m : List (List ℕ × List X)) (k : List ℕ) → ltb 0 (length (values_at m k)) ≡ true → Contains (keys_of m) k
found_key [] k h = absurd (false≢true h)
found_key {X} (g ∷ m) k h = by_key (has_key k g.0) refl h (found_key m k)
  where
    by_key : (b : Bool) → has_key k g.0 ≡ b → ltb 0 (length (unwrap_or (cond b (Some g.1) (found m k)) [])) ≡ true → (ltb 0 (length (values_at m k)) ≡ true → Contains (keys_of m) k) → Contains (keys_of (g ∷ m)) k
    by_key true same h rest = (0, omega arith, sym (at-same k g.0 same))
    by_key false same h rest = Contains-append_right (g.0 ∷ []) (keys_of m) k (rest h)

keys_filled : {X : Type 0} (all m : List (List ℕ × List X)) → AllByRecursion (λ g. values_at all g.0 ≡ g.1) m → list_all is_filled m ≡ true → AllByRecursion (λ k. ltb 0 (length (values_at all k)) ≡ true) (keys_of m)
keys_filled all [] are filled = tt
keys_filled all (g ∷ m) are filled =
    let parts = and_parts (is_filled g) (list_all is_filled m) filled in
    (ap (λ vs. ltb 0 (length vs)) are.0 ∙ parts.0, keys_filled all m are.1 parts.1)

pub grouped-keys : {X : Type 0} (pairs : List (List ℕ × X)) (k : List ℕ) → Contains (keys_of (grouped pairs)) k ↔ Contains (keys_in pairs) k
grouped-keys {X} pairs k = (there, back)
  where
    m : List (List ℕ × List X)
    m = grouped pairs

    filled : All (λ k. ltb 0 (length (values_at m k)) ≡ true) (keys_of m)
    filled = All-from_recursion (λ k. ltb 0 (length (values_at m k)) ≡ true) (keys_of m) (keys_filled m m (entries_at m (grouped-ascending pairs)) (grouped-filled pairs))

    there : Contains (keys_of m) k → Contains (keys_in pairs) k
    there c = selected_some k pairs (ap (λ vs. ltb 0 (length vs)) (sym (grouped-values pairs k)) ∙ All-contains (λ k. ltb 0 (length (values_at m k)) ≡ true) (keys_of m) k filled c)

    back : Contains (keys_in pairs) k → Contains (keys_of m) k
    back c = found_key m k (ap (λ vs. ltb 0 (length vs)) (grouped-values pairs k) ∙ lt-ltb 0 (length (selected k pairs)) (selected_at k pairs c.0 c.1 c.2))
