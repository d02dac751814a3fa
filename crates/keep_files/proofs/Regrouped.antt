-- Values grouped by key, under a function of the values; and groups taken apart and grouped again by another key.
-- Laws: `insert-mapped`, `grouped-mapped`, `map-flat_map`, `regrouped`.
use Rattle.std.proofs.Common.{◌≡◌, ℕ, Bool, true, false, cond, List, [], ◌∷◌, ◌++◌, Option, Some, None, map, refl, ap, sym, subst, ◌∙◌, append-nil}
use Rattle.std.specs.Prelude.{fold, unwrap_or}
use Rattle.std.specs.Option.{option_map}
use Rattle.std.specs.Ordering.{match_ordering}
use Rattle.std.specs.declared.cmp.Ordering.{Ordering}
use Rattle.std.specs.declared.cmp.Ordering.TheVariants.{Less, Equal, Greater}
use Rattle.std.specs.List.{list_all, flat_map}
use Rattle.std.specs.List.Sorted.{IsStrictlySortedBy}
use Rattle.std.specs.Map.{lookup, keys_of}
use Rattle.std.specs.BTreeMap.{insert_entry}
use Rattle.std.specs.Str.{bytes_eq}
use Rattle.std.proofs.lemmas.Bool.{and_from, false≢true}
use Rattle.std.proofs.lemmas.List.{map-append}
use Rattle.std.proofs.lemmas.List.Folds.{list_all-map, flat_map-map}
use Rattle.std.proofs.lemmas.Map.Made.{lookup-map_values}
use lib.Pointwise.{bytes_decides}
use Rattle.keep_normal.specs.Grouped.{byte_order, values_at, put, grouped}
use Rattle.keep_normal.proofs.Grouping.{has_key, key-same, grouped-values, values_are, is_filled, grouped-filled, grouped-each, each_at, grouped-ascending, same_maps, one_given}
use Rattle.keep_normal.proofs.NormalFiles.{flat_map-flat_map, flat_map_same_all, flat_map_none}
use Rattle.keep_normal.proofs.OrderedEntries.{at-same}

-- an entry with a function of its value
abbrev pub under : {X Y : Type 0} → (X → Y) → List ℕ × X → List ℕ × Y
under h e = (e.0, h e.1)

pub insert-mapped : {X Y : Type 0} (h : X → Y) (k : List ℕ) (v : X) (es : List (List ℕ × X)) → map (under h) (insert_entry byte_order es k v) ≡ insert_entry byte_order (map (under h) es) k (h v)
insert-mapped h k v [] = refl
insert-mapped {X} {Y} h k v (e ∷ es) = by_order (byte_order k e.0) (insert-mapped h k v es)
  where
    by_order : (o : Ordering) → map (under h) (insert_entry byte_order es k v) ≡ insert_entry byte_order (map (under h) es) k (h v)
        → map (under h) (match_ordering o ((k, v) ∷ e ∷ es) ((e.0, v) ∷ es) (e ∷ insert_entry byte_order es k v))
        ≡ match_ordering o ((k, h v) ∷ under h e ∷ map (under h) es) ((e.0, h v) ∷ map (under h) es) (under h e ∷ insert_entry byte_order (map (under h) es) k (h v))
    by_order Less rest = refl
    by_order Equal rest = refl
    by_order Greater rest = ap (λ t. under h e ∷ t) rest

unwrapped : {X Y : Type 0} (h : X → Y) (o : Option (List X)) → unwrap_or (option_map (map h) o) [] ≡ map h (unwrap_or o [])
unwrapped h None = refl
unwrapped h (Some v) = refl

values-mapped : {X Y : Type 0} (h : X → Y) (m : List (List ℕ × List X)) (k : List ℕ) → values_at (map (under (map h)) m) k ≡ map h (values_at m k)
values-mapped h m k = ap (λ o. unwrap_or o []) (lookup-map_values (map h) (has_key k) m) ∙ unwrapped h (lookup (has_key k) m)

put-mapped : {X Y : Type 0} (h : X → Y) (m : List (List ℕ × List X)) (e : List ℕ × X) → map (under (map h)) (put m e) ≡ put (map (under (map h)) m) (under h e)
unfolding put
put-mapped h m e =
    insert-mapped (map h) e.0 (values_at m e.0 ++ e.1 ∷ []) m
    ∙ ap (insert_entry byte_order (map (under (map h)) m) e.0) (map-append h (values_at m e.0) (e.1 ∷ []) ∙ ap (λ vs. vs ++ h e.1 ∷ []) (sym (values-mapped h m e.0)))

along-mapped : {X Y : Type 0} (h : X → Y) (m : List (List ℕ × List X)) (es : List (List ℕ × X)) → map (under (map h)) (fold put m es) ≡ fold put (map (under (map h)) m) (map (under h) es)
along-mapped h m [] = refl
along-mapped h m (e ∷ es) = along-mapped h (put m e) es ∙ ap (λ n. fold put n (map (under h) es)) (put-mapped h m e)

pub grouped-mapped : {X Y : Type 0} (h : X → Y) (es : List (List ℕ × X)) → map (under (map h)) (grouped es) ≡ grouped (map (under h) es)
unfolding grouped
grouped-mapped h es = along-mapped h [] es

pub map-flat_map : {X Y Z : Type 0} (h : Y → Z) (f : X → List Y) (xs : List X) → map h (flat_map f xs) ≡ flat_map (λ x. map h (f x)) xs
map-flat_map h f [] = refl
map-flat_map h f (x ∷ xs) = map-append h (f x) (flat_map f xs) ∙ ap (λ zs. map h (f x) ++ zs) (map-flat_map h f xs)

-- Values with a key each, of which another key is a function.

-- the values, grouped by the outer key and taken apart again
abbrev pub taken_apart : {X : Type 0} → (X → List ℕ) → List X → List X
taken_apart outer xs = flat_map (λ g. g.1) (grouped (map (λ x. (outer x, x)) xs))

-- each key with its value
abbrev pub table_of : {X Y : Type 0} → (X → List ℕ) → (X → Y) → List X → List (List ℕ × List Y)
table_of key value xs = map (λ x. (key x, value x ∷ [])) xs

table_keys : {X Y : Type 0} (key : X → List ℕ) (value : X → Y) (xs : List X) → keys_of (table_of key value xs) ≡ map key xs
table_keys key value [] = refl
table_keys key value (x ∷ xs) = ap (λ ks. key x ∷ ks) (table_keys key value xs)

table_filled : {X Y : Type 0} (key : X → List ℕ) (value : X → Y) (xs : List X) → list_all is_filled (table_of key value xs) ≡ true
table_filled key value [] = refl
table_filled key value (x ∷ xs) = table_filled key value xs

-- the value of one whose key this is
abbrev at_key : {X Y : Type 0} → (X → List ℕ) → (X → Y) → List ℕ → X → List Y
at_key key value k x = cond (has_key k (key x)) (value x ∷ []) []

-- whether a value lies under its outer key
abbrev owns : {X : Type 0} → (X → List ℕ) → List ℕ → X → Bool
owns outer d x = bytes_eq (outer x) d

other_key : {X Y : Type 0} (key outer : X → List ℕ) (of : List ℕ → List ℕ) → ((x : X) → outer x ≡ of (key x)) → (value : X → Y) (k : List ℕ) (g : List ℕ × List X) → each_at (owns outer) g ≡ true
    → has_key (of k) g.0 ≡ false → flat_map (at_key key value k) g.1 ≡ []
other_key {X} {Y} key outer of by value k g own other = flat_map_none (owns outer g.0) (at_key key value k) (λ x o. by_key x o (has_key k (key x)) refl) g.1 own
  where
    by_key : (x : X) → owns outer g.0 x ≡ true → (b : Bool) → has_key k (key x) ≡ b → cond b (value x ∷ []) [] ≡ []
    by_key x o true e =
        let here : outer x ≡ g.0 = (bytes_decides (outer x) g.0).0 o in
        let same : of k ≡ g.0 = ap of (at-same k (key x) e) ∙ sym (by x) ∙ here in
        absurd (false≢true (sym other ∙ ap (has_key (of k)) (sym same) ∙ key-same (of k)))
    by_key x o false e = refl

own_key : {X Y : Type 0} (key outer : X → List ℕ) (of : List ℕ → List ℕ) → ((x : X) → outer x ≡ of (key x)) → (value : X → Y) (k : List ℕ) (x : X) (b : Bool) → has_key k (key x) ≡ b
    → flat_map (at_key key value k) (cond (has_key (of k) (outer x)) (x ∷ []) []) ≡ at_key key value k x
own_key key outer of by value k x true e =
    let same : of k ≡ outer x = ap of (at-same k (key x) e) ∙ sym (by x) in
    ap (λ c. flat_map (at_key key value k) (cond c (x ∷ []) [])) (ap (has_key (of k)) (sym same) ∙ key-same (of k)) ∙ append-nil (at_key key value k x)
own_key {X} {Y} key outer of by value k x false e = by_outer (has_key (of k) (outer x)) ∙ sym (ap (λ c. cond c (value x ∷ []) []) e)
  where
    by_outer : (c : Bool) → flat_map (at_key key value k) (cond c (x ∷ []) []) ≡ []
    by_outer true = append-nil (at_key key value k x) ∙ ap (λ c. cond c (value x ∷ []) []) e
    by_outer false = refl

owned : {X : Type 0} (outer : X → List ℕ) (xs : List X) → list_all (λ x. owns outer (outer x) x) xs ≡ true
owned outer [] = refl
owned outer (x ∷ xs) = and_from (owns outer (outer x) x) (list_all (λ x. owns outer (outer x) x) xs) ((bytes_decides (outer x) (outer x)).1 refl) (owned outer xs)

selected_apart : {X Y : Type 0} (key outer : X → List ℕ) (of : List ℕ → List ℕ) → ((x : X) → outer x ≡ of (key x)) → (value : X → Y) (k : List ℕ) (xs : List X)
    → flat_map (at_key key value k) (taken_apart outer xs) ≡ flat_map (at_key key value k) xs
selected_apart {X} {Y} key outer of by value k xs =
    let pairs : List (List ℕ × X) = map (λ x. (outer x, x)) xs in
    let Q : X → List Y = at_key key value k in
    let d = of k in
    let own = grouped-each (owns outer) pairs (list_all-map (λ (e : List ℕ × X). owns outer e.0 e.1) (λ x. (outer x, x)) xs ∙ owned outer xs) in
    flat_map-flat_map Q (λ (g : List ℕ × List X). g.1) (grouped pairs)
    ∙ one_given (λ (g : List ℕ × List X). flat_map Q g.1) (each_at (owns outer)) d (other_key key outer of by value k) refl (grouped pairs) (grouped-ascending pairs) own
    ∙ ap (flat_map Q) (grouped-values pairs d ∙ flat_map-map (λ (e : List ℕ × X). cond (has_key d e.0) (e.1 ∷ []) []) (λ x. (outer x, x)) xs)
    ∙ flat_map-flat_map Q (λ x. cond (has_key d (outer x)) (x ∷ []) []) xs
    ∙ flat_map_same_all (λ x. flat_map Q (cond (has_key d (outer x)) (x ∷ []) [])) Q (λ x. own_key key outer of by value k x (has_key k (key x)) refl) xs

-- where the keys ascend, each value stands alone beside its key again
pub regrouped : {X Y : Type 0} (key outer : X → List ℕ) (of : List ℕ → List ℕ) → ((x : X) → outer x ≡ of (key x)) → (value : X → Y) (xs : List X) → IsStrictlySortedBy byte_order (map key xs)
    → grouped (map (λ x. (key x, value x)) (taken_apart outer xs)) ≡ table_of key value xs
regrouped {X} {Y} key outer of by value xs ascending =
    let pairs : List (List ℕ × Y) = map (λ x. (key x, value x)) (taken_apart outer xs) in
    let table = table_of key value xs in
    let sorted = subst (λ ks. IsStrictlySortedBy byte_order ks) (sym (table_keys key value xs)) ascending in
    same_maps (grouped pairs) table (grouped-ascending pairs) sorted (grouped-filled pairs) (table_filled key value xs)
    (λ k. grouped-values pairs k
    ∙ flat_map-map (λ (e : List ℕ × Y). cond (has_key k e.0) (e.1 ∷ []) []) (λ x. (key x, value x)) (taken_apart outer xs)
    ∙ selected_apart key outer of by value k xs
    ∙ sym (values_are table k sorted ∙ flat_map-map (λ (g : List ℕ × List Y). cond (has_key k g.0) g.1 []) (λ x. (key x, value x ∷ [])) xs))
