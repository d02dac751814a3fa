-- Ordered maps: what each key has, and that look-ups tell them apart.
-- Laws: `key-same`, `found_first`, `same_found`, `same_maps`, `grouped-values`, `values_are`, `all_true`, `grouped-filled`,
-- `grouped-each`, `grouped-all`, `grouped-ascending`, `put_after`, `one_given`.
use Rattle.std.proofs.Common.{◌≡◌, ℕ, ltb, Bool, true, false, cond, List, [], ◌∷◌, ◌++◌, length, Option, Some, None, refl, ap, sym, subst, ◌∙◌, arith, append-nil, append_assoc, length-append}
use Rattle.std.specs.Prelude.{fold, unwrap_or}
use Rattle.std.specs.Ordering.{match_ordering, is_eq, ordering_reverse}
use Rattle.std.specs.declared.cmp.Ordering.{Ordering}
use Rattle.std.specs.declared.cmp.Ordering.TheVariants.{Less, Equal, Greater}
use Rattle.std.specs.List.{list_all, flat_map, AllByRecursion}
use Rattle.std.specs.List.Sorted.{IsStrictlySortedBy}
use Rattle.std.specs.Map.{lookup, keys_of, remove_entry}
use Rattle.std.specs.BTreeMap.{insert_entry, is_at}
use Rattle.std.proofs.lemmas.Bool.{and_parts, and_from, lt-ltb, false≢true}
use Rattle.std.proofs.lemmas.Cmp.{nat_list_cmp_total}
use Rattle.std.proofs.lemmas.List.Folds.{list_all-append}
use Rattle.std.proofs.lemmas.Map.{lookup-none}
use Rattle.std.proofs.lemmas.Map.Entries.{none_below_head}
use Rattle.std.proofs.lemmas.Map.Keys.{sorted_head, sorted_tail}
use Rattle.std.proofs.lemmas.Map.Lookups.{exact_bytes}
use Rattle.std.proofs.lemmas.Option.{none-some, same_Some}
use Rattle.keep_normal.specs.Grouped.{byte_order, values_at, put, grouped}
use Rattle.keep_normal.proofs.OrderedEntries.{IsAscending, order-same, at-same, lookup-insert, ascending-insert, insert_removed}

abbrev pub has_key : List ℕ → List ℕ → Bool
has_key k q = is_at (byte_order k) q

abbrev pub found : {X : Type 0} → List (List ℕ × X) → List ℕ → Option X
found m k = lookup (has_key k) m

pub key-same : (k : List ℕ) → has_key k k ≡ true
key-same k = ap is_eq (order-same k)

-- a key below all others has nothing
above_none : {X : Type 0} (k : List ℕ) (m : List (List ℕ × X)) → AllByRecursion (λ y. byte_order k y ≡ Less) (keys_of m) → found m k ≡ None
above_none k [] h = refl
above_none k (g ∷ m) h = ap (λ o. cond (is_eq o) (Some g.1) (found m k)) h.0 ∙ above_none k m h.1

pub found_first : {X : Type 0} (g : List ℕ × X) (m : List (List ℕ × X)) → found (g ∷ m) g.0 ≡ Some g.1
found_first g m = ap (λ b. cond b (Some g.1) (found m g.0)) (key-same g.0)

found_below : {X : Type 0} (k : List ℕ) (h : List ℕ × X) (n : List (List ℕ × X)) → IsAscending (h ∷ n) → byte_order k h.0 ≡ Less → found (h ∷ n) k ≡ None
found_below k h n s less = lookup-none (has_key k) (h ∷ n) (none_below_head nat_list_cmp_total k h n s less)

paired : {X : Type 0} (g h : List ℕ × X) → g.0 ≡ h.0 → g.1 ≡ h.1 → g ≡ h
paired g h e f = ap (λ k. (k, g.1)) e ∙ ap (λ v. (h.0, v)) f

-- the rests of two maps that begin with one key
rest_by : {X : Type 0} (g h : List ℕ × X) (m n : List (List ℕ × X)) → IsAscending (g ∷ m) → IsAscending (h ∷ n) → g.0 ≡ h.0 → (k : List ℕ) (b : Bool) → has_key k g.0 ≡ b
    → found (g ∷ m) k ≡ found (h ∷ n) k → found m k ≡ found n k
rest_by g h m n sg sh e k true t same =
    let here : k ≡ g.0 = at-same k g.0 t in
    let P : List ℕ → List (List ℕ) → Type 0 = λ q ks. AllByRecursion (λ y. byte_order q y ≡ Less) ks in
    above_none k m (subst (λ q. P q (keys_of m)) (sym here) (sorted_head byte_order g.0 (keys_of m) sg))
    ∙ sym (above_none k n (subst (λ q. P q (keys_of n)) (sym (here ∙ e)) (sorted_head byte_order h.0 (keys_of n) sh)))
rest_by g h m n sg sh e k false t same =
    sym (ap (λ b. cond b (Some g.1) (found m k)) t) ∙ same ∙ ap (λ b. cond b (Some h.1) (found n k)) (sym (ap (has_key k) e) ∙ t)

same_by : {X : Type 0} (g h : List ℕ × X) (m n : List (List ℕ × X)) (o : Ordering) → byte_order g.0 h.0 ≡ o → IsAscending (g ∷ m) → IsAscending (h ∷ n)
    → ((k : List ℕ) → found (g ∷ m) k ≡ found (h ∷ n) k) → (((k : List ℕ) → found m k ≡ found n k) → m ≡ n) → g ∷ m ≡ h ∷ n
same_by g h m n Less e sg sh same ih = absurd (none-some g.1 (sym (found_below g.0 h n sh e) ∙ sym (same g.0) ∙ found_first g m))
same_by g h m n Greater e sg sh same ih =
    let less : byte_order h.0 g.0 ≡ Less = nat_list_cmp_total.antisymm h.0 g.0 ∙ ap ordering_reverse e in
    absurd (none-some h.1 (sym (found_below h.0 g m sg less) ∙ same h.0 ∙ found_first h n))
same_by g h m n Equal e sg sh same ih =
    let key : g.0 ≡ h.0 = exact_bytes g.0 h.0 e in
    let value : g.1 ≡ h.1 = same_Some g.1 h.1 (sym (found_first g m) ∙ same g.0 ∙ ap (found (h ∷ n)) key ∙ found_first h n) in
    let rest = ih (λ k. rest_by g h m n sg sh key k (has_key k g.0) refl (same k)) in
    ap (λ x. x ∷ m) (paired g h key value) ∙ ap (λ xs. h ∷ xs) rest

-- two maps with the same look-ups are one
pub same_found : {X : Type 0} (m n : List (List ℕ × X)) → IsAscending m → IsAscending n → ((k : List ℕ) → found m k ≡ found n k) → m ≡ n
same_found [] [] sm sn same = refl
same_found [] (h ∷ n) sm sn same = absurd (none-some h.1 (same h.0 ∙ found_first h n))
same_found (g ∷ m) [] sm sn same = absurd (none-some g.1 (sym (same g.0) ∙ found_first g m))
same_found (g ∷ m) (h ∷ n) sm sn same =
    same_by g h m n (byte_order g.0 h.0) refl sm sn same
    (same_found m n (sorted_tail byte_order g.0 (keys_of m) sm) (sorted_tail byte_order h.0 (keys_of n) sn))

-- Maps from keys to values of which each key has some.

abbrev pub is_filled : {X : Type 0} → List ℕ × List X → Bool
is_filled g = ltb 0 (length g.1)

filled_found : {X : Type 0} (k : List ℕ) (m : List (List ℕ × List X)) (v : List X) → list_all is_filled m ≡ true → found m k ≡ Some v → ltb 0 (length v) ≡ true
filled_found k [] v h e = absurd (none-some v e)
filled_found {X} k (g ∷ m) v h e =
    let parts = and_parts (is_filled g) (list_all is_filled m) h in
    by_key (has_key k g.0) e parts.0 (filled_found k m v parts.1)
  where
    by_key : (b : Bool) → cond b (Some g.1) (found m k) ≡ Some v → is_filled g ≡ true → (found m k ≡ Some v → ltb 0 (length v) ≡ true) → ltb 0 (length v) ≡ true
    by_key true e here rest = ap (λ (w : List X). ltb 0 (length w)) (sym (same_Some g.1 v e)) ∙ here
    by_key false e here rest = rest e

found_by_values : {X : Type 0} (o p : Option (List X)) → ((v : List X) → o ≡ Some v → ltb 0 (length v) ≡ true) → ((v : List X) → p ≡ Some v → ltb 0 (length v) ≡ true) → unwrap_or o [] ≡ unwrap_or p [] → o ≡ p
found_by_values None None fo fp e = refl
found_by_values None (Some w) fo fp e = absurd (false≢true (ap (λ v. ltb 0 (length v)) e ∙ fp w refl))
found_by_values (Some v) None fo fp e = absurd (false≢true (ap (λ w. ltb 0 (length w)) (sym e) ∙ fo v refl))
found_by_values (Some v) (Some w) fo fp e = ap (λ x. Some x) e

pub same_maps : {X : Type 0} (m n : List (List ℕ × List X)) → IsAscending m → IsAscending n → list_all is_filled m ≡ true → list_all is_filled n ≡ true → ((k : List ℕ) → values_at m k ≡ values_at n k) → m ≡ n
same_maps m n sm sn fm fn same = same_found m n sm sn (λ k. found_by_values (found m k) (found n k) (λ v. filled_found k m v fm) (λ v. filled_found k n v fn) (same k))

-- The values beside a key.

-- of pairs, in their order
abbrev pub selected : {X : Type 0} → List ℕ → List (List ℕ × X) → List X
selected k pairs = flat_map (λ e. cond (has_key k e.0) (e.1 ∷ []) []) pairs

values-put : {X : Type 0} (m : List (List ℕ × List X)) (e : List ℕ × X) (k : List ℕ) → values_at (put m e) k ≡ values_at m k ++ cond (has_key k e.0) (e.1 ∷ []) []
unfolding put
values-put {X} m e k = ap (λ o. unwrap_or o []) (lookup-insert k e.0 (values_at m e.0 ++ e.1 ∷ []) m) ∙ by_key (has_key k e.0) refl
  where
    by_key : (b : Bool) → has_key k e.0 ≡ b → unwrap_or (cond b (Some (values_at m e.0 ++ e.1 ∷ [])) (found m k)) [] ≡ values_at m k ++ cond b (e.1 ∷ []) []
    by_key true h = ap (λ q. values_at m q ++ e.1 ∷ []) (sym (at-same k e.0 h))
    by_key false h = sym (append-nil (values_at m k))

along-values : {X : Type 0} (m : List (List ℕ × List X)) (pairs : List (List ℕ × X)) (k : List ℕ) → values_at (fold put m pairs) k ≡ values_at m k ++ selected k pairs
along-values m [] k = sym (append-nil (values_at m k))
along-values m (e ∷ es) k =
    along-values (put m e) es k ∙ ap (λ vs. vs ++ selected k es) (values-put m e k)
    ∙ append_assoc (values_at m k) (cond (has_key k e.0) (e.1 ∷ []) []) (selected k es)

pub grouped-values : {X : Type 0} (pairs : List (List ℕ × X)) (k : List ℕ) → values_at (grouped pairs) k ≡ selected k pairs
unfolding grouped
grouped-values pairs k = along-values [] pairs k

-- of a map
others_none : {X Y : Type 0} (k : List ℕ) (f : List ℕ × X → List Y) (m : List (List ℕ × X)) → AllByRecursion (λ y. byte_order k y ≡ Less) (keys_of m) → flat_map (λ g. cond (has_key k g.0) (f g) []) m ≡ []
others_none k f [] h = refl
others_none k f (g ∷ m) h = ap (λ o. cond (is_eq o) (f g) [] ++ flat_map (λ g. cond (has_key k g.0) (f g) []) m) h.0 ∙ others_none k f m h.1

pub values_are : {X : Type 0} (m : List (List ℕ × List X)) (k : List ℕ) → IsAscending m → values_at m k ≡ flat_map (λ g. cond (has_key k g.0) g.1 []) m
values_are [] k s = refl
values_are {X} (g ∷ m) k s = by_key (has_key k g.0) refl (values_are m k (sorted_tail byte_order g.0 (keys_of m) s))
  where
    rest : List X
    rest = flat_map (λ g. cond (has_key k g.0) g.1 []) m

    by_key : (b : Bool) → has_key k g.0 ≡ b → values_at m k ≡ rest → unwrap_or (cond b (Some g.1) (found m k)) [] ≡ cond b g.1 [] ++ rest
    by_key true h ih =
        let P : List ℕ → Type 0 = λ q. AllByRecursion (λ y. byte_order q y ≡ Less) (keys_of m) in
        sym (append-nil g.1) ∙ ap (λ t. g.1 ++ t) (sym (others_none k (λ g. g.1) m (subst P (sym (at-same k g.0 h)) (sorted_head byte_order g.0 (keys_of m) s))))
    by_key false h ih = ih

-- What holds of each group.

inserted_each : {X : Type 0} (q : List ℕ × List X → Bool) (k : List ℕ) (v : List X) (m : List (List ℕ × List X)) → q (k, v) ≡ true → list_all q m ≡ true → list_all q (insert_entry byte_order m k v) ≡ true
inserted_each q k v [] hv h = and_from (q (k, v)) true hv refl
inserted_each {X} q k v (g ∷ gs) hv h =
    let parts = and_parts (q g) (list_all q gs) h in
    by_order (byte_order k g.0) refl parts.0 parts.1 (inserted_each q k v gs hv parts.1)
  where
    by_order : (o : Ordering) → byte_order k g.0 ≡ o → q g ≡ true → list_all q gs ≡ true → list_all q (insert_entry byte_order gs k v) ≡ true
        → list_all q (match_ordering o ((k, v) ∷ g ∷ gs) ((g.0, v) ∷ gs) (g ∷ insert_entry byte_order gs k v)) ≡ true
    by_order Less e here rest more = and_from (q (k, v)) (list_all q (g ∷ gs)) hv h
    by_order Equal e here rest more = and_from (q (g.0, v)) (list_all q gs) (ap (λ x. q (x, v)) (sym (exact_bytes k g.0 e)) ∙ hv) rest
    by_order Greater e here rest more = and_from (q g) (list_all q (insert_entry byte_order gs k v)) here more

along_each : {X : Type 0} (q : List ℕ × List X → Bool) (r : List ℕ × X → Bool)
    → ((m : List (List ℕ × List X)) (e : List ℕ × X) → list_all q m ≡ true → r e ≡ true → q (e.0, values_at m e.0 ++ e.1 ∷ []) ≡ true)
    → (m : List (List ℕ × List X)) (pairs : List (List ℕ × X)) → list_all q m ≡ true → list_all r pairs ≡ true → list_all q (fold put m pairs) ≡ true
unfolding put
along_each q r step m [] hm h = hm
along_each q r step m (e ∷ es) hm h =
    let parts = and_parts (r e) (list_all r es) h in
    along_each q r step (put m e) es (inserted_each q e.0 (values_at m e.0 ++ e.1 ∷ []) m (step m e hm parts.0) hm) parts.1

pub all_true : {X : Type 0} (xs : List X) → list_all (λ x. true) xs ≡ true
all_true [] = refl
all_true (x ∷ xs) = all_true xs

pub grouped-filled : {X : Type 0} (pairs : List (List ℕ × X)) → list_all is_filled (grouped pairs) ≡ true
unfolding grouped
grouped-filled pairs =
    along_each is_filled (λ e. true) (λ m e h _. lt-ltb 0 (length (values_at m e.0 ++ e.1 ∷ [])) (omega (arith, length-append (values_at m e.0) (e.1 ∷ [])))) [] pairs refl (all_true pairs)

-- each value passes beside its key
abbrev pub each_at : {X : Type 0} → (List ℕ → X → Bool) → List ℕ × List X → Bool
each_at p g = list_all (p g.0) g.1

values_each : {X : Type 0} (p : List ℕ → X → Bool) (k : List ℕ) (m : List (List ℕ × List X)) → list_all (each_at p) m ≡ true → list_all (p k) (values_at m k) ≡ true
values_each p k [] h = refl
values_each {X} p k (g ∷ m) h =
    let parts = and_parts (each_at p g) (list_all (each_at p) m) h in
    by_key (has_key k g.0) refl parts.0 (values_each p k m parts.1)
  where
    by_key : (b : Bool) → has_key k g.0 ≡ b → each_at p g ≡ true → list_all (p k) (values_at m k) ≡ true → list_all (p k) (unwrap_or (cond b (Some g.1) (found m k)) []) ≡ true
    by_key true e here rest = ap (λ q. list_all (p q) g.1) (at-same k g.0 e) ∙ here
    by_key false e here rest = rest

pub grouped-each : {X : Type 0} (p : List ℕ → X → Bool) (pairs : List (List ℕ × X)) → list_all (λ e. p e.0 e.1) pairs ≡ true → list_all (each_at p) (grouped pairs) ≡ true
unfolding grouped
grouped-each p pairs h =
    along_each (each_at p) (λ e. p e.0 e.1)
    (λ m e hm he. list_all-append (p e.0) (values_at m e.0) (e.1 ∷ []) ∙ and_from (list_all (p e.0) (values_at m e.0)) (list_all (p e.0) (e.1 ∷ [])) (values_each p e.0 m hm) (and_from (p e.0 e.1) true he refl))
    [] pairs refl h

-- Each value passes, whatever its key.

abbrev pub all_values : {X : Type 0} → (X → Bool) → List (List ℕ × List X) → Bool
all_values p m = list_all (λ g. list_all p g.1) m

abbrev pub all_pairs : {X : Type 0} → (X → Bool) → List (List ℕ × X) → Bool
all_pairs p pairs = list_all (λ e. p e.1) pairs

pub grouped-all : {X : Type 0} (p : X → Bool) (pairs : List (List ℕ × X)) → all_pairs p pairs ≡ true → all_values p (grouped pairs) ≡ true
grouped-all p pairs all = grouped-each (λ _. p) pairs all

-- The keys ascend.

along-ascending : {X : Type 0} (m : List (List ℕ × List X)) (pairs : List (List ℕ × X)) → IsAscending m → IsAscending (fold put m pairs)
unfolding put
along-ascending m [] h = h
along-ascending m (e ∷ es) h = along-ascending (put m e) es (ascending-insert e.0 (values_at m e.0 ++ e.1 ∷ []) m h)

pub grouped-ascending : {X : Type 0} (pairs : List (List ℕ × X)) → IsAscending (grouped pairs)
unfolding grouped IsStrictlySortedBy
grouped-ascending pairs = along-ascending [] pairs tt

-- the values of a key, removed and put back with one more
pub put_after : {X : Type 0} (m removed n : List (List ℕ × List X)) (k : List ℕ) (x : X) (v : List X) → IsAscending m
    → removed ≡ remove_entry (is_at (byte_order k)) m → v ≡ values_at m k ++ x ∷ [] → n ≡ insert_entry byte_order removed k v → n ≡ put m (k, x)
unfolding put
put_after m removed n k x v s e₁ e₂ e₃ =
    e₃ ∙ ap (λ es. insert_entry byte_order es k v) e₁ ∙ insert_removed k v m s ∙ ap (insert_entry byte_order m k) e₂

-- Where one group alone has any results.

none_given : {X Y : Type 0} (H : List ℕ × List X → List Y) (t : List ℕ × List X → Bool) (d : List ℕ) → ((g : List ℕ × List X) → t g ≡ true → has_key d g.0 ≡ false → H g ≡ [])
    → (m : List (List ℕ × List X)) → AllByRecursion (λ y. byte_order d y ≡ Less) (keys_of m) → list_all t m ≡ true → flat_map H m ≡ []
none_given H t d none [] above h = refl
none_given H t d none (g ∷ m) above h =
    let parts = and_parts (t g) (list_all t m) h in
    ap (λ ys. ys ++ flat_map H m) (none g parts.0 (ap is_eq above.0)) ∙ none_given H t d none m above.1 parts.1

pub one_given : {X Y : Type 0} (H : List ℕ × List X → List Y) (t : List ℕ × List X → Bool) (d : List ℕ) → ((g : List ℕ × List X) → t g ≡ true → has_key d g.0 ≡ false → H g ≡ []) → H (d, []) ≡ []
    → (m : List (List ℕ × List X)) → IsAscending m → list_all t m ≡ true → flat_map H m ≡ H (d, values_at m d)
one_given H t d none empty [] s h = sym empty
one_given {X} {Y} H t d none empty (g ∷ m) s h =
    let parts = and_parts (t g) (list_all t m) h in
    by_key (has_key d g.0) refl parts.0 parts.1 (one_given H t d none empty m (sorted_tail byte_order g.0 (keys_of m) s) parts.1)
  where
    by_key : (b : Bool) → has_key d g.0 ≡ b → t g ≡ true → list_all t m ≡ true → flat_map H m ≡ H (d, values_at m d) → H g ++ flat_map H m ≡ H (d, unwrap_or (cond b (Some g.1) (found m d)) [])
    by_key true e here rest ih =
        let P : List ℕ → Type 0 = λ q. AllByRecursion (λ y. byte_order q y ≡ Less) (keys_of m) in
        ap (λ ys. H g ++ ys) (none_given H t d none m (subst P (sym (at-same d g.0 e)) (sorted_head byte_order g.0 (keys_of m) s)) rest)
        ∙ append-nil (H g) ∙ ap (λ k. H (k, g.1)) (sym (at-same d g.0 e))
    by_key false e here rest ih = ap (λ ys. ys ++ flat_map H m) (none g here e) ∙ ih
