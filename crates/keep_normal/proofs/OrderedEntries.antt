-- Ordered maps as lists of entries: what an insertion leaves, and that two maps with the same look-ups are one.
-- Laws: `order-same`, `insert_removed`, `at-same`, `lookup-insert`, `ascending-insert`.
use Rattle.std.proofs.Common.{◌≡◌, ℕ, Bool, true, false, cond, List, [], ◌∷◌, Option, Some, refl, ap, sym, subst, ◌∙◌}
use Rattle.std.specs.Ordering.{match_ordering, is_eq, ordering_reverse}
use Rattle.std.specs.declared.cmp.Ordering.{Ordering}
use Rattle.std.specs.declared.cmp.Ordering.TheVariants.{Less, Equal, Greater}
use Rattle.std.specs.List.{AllByRecursion}
use Rattle.std.specs.List.Sorted.{IsStrictlySortedBy}
use Rattle.std.specs.Map.{lookup, keys_of, remove_entry}
use Rattle.std.specs.BTreeMap.{insert_entry, is_at}
use Rattle.std.proofs.lemmas.Cmp.{nat_list_cmp_total, tied_itself}
use Rattle.std.proofs.lemmas.List.Elements.{All-from_recursion, recursion_from_All}
use Rattle.std.proofs.lemmas.Map.{NonePasses}
use Rattle.std.proofs.lemmas.Map.Entries.{none_below_head}
use Rattle.std.proofs.lemmas.Map.Keys.{sorted_head, sorted_tail}
use Rattle.std.proofs.lemmas.Map.Lookups.{exact_bytes}
use Rattle.std.proofs.lemmas.Map.Views.{All-keys-insert_entry}
use Rattle.keep_normal.specs.Grouped.{byte_order}

pub order-same : (k : List ℕ) → byte_order k k ≡ Equal
order-same k = tied_itself nat_list_cmp_total k

-- the keys ascend
abbrev pub IsAscending : {X : Type 0} → List (List ℕ × X) → Type 0
IsAscending es = IsStrictlySortedBy byte_order (keys_of es)

-- what inserting does, by how the key stands to the first one
abbrev inserted_by : {X : Type 0} → List ℕ → X → List ℕ × X → List (List ℕ × X) → Ordering → List (List ℕ × X)
inserted_by k v e es o = match_ordering o ((k, v) ∷ e ∷ es) ((e.0, v) ∷ es) (e ∷ insert_entry byte_order es k v)

-- a key below all others comes first
inserted_front : {X : Type 0} → (k : List ℕ) (v : X) (es : List (List ℕ × X)) → AllByRecursion (λ y. byte_order k y ≡ Less) (keys_of es) → insert_entry byte_order es k v ≡ (k, v) ∷ es
inserted_front k v [] h = refl
inserted_front k v (e ∷ es) h = ap (inserted_by k v e es) h.0

remove_none : {X : Type 0} → (test : List ℕ → Bool) (es : List (List ℕ × X)) → NonePasses test es → remove_entry test es ≡ es
remove_none test [] h = refl
remove_none test (e ∷ es) h = ap (λ b. cond b es (e ∷ remove_entry test es)) h.0 ∙ ap (λ r. e ∷ r) (remove_none test es h.1)

inserted_anew : {X : Type 0} → (k : List ℕ) (v : X) (e : List ℕ × X) (es : List (List ℕ × X)) (o : Ordering) → byte_order k e.0 ≡ o → IsAscending (e ∷ es)
    → insert_entry byte_order (remove_entry (is_at (byte_order k)) es) k v ≡ insert_entry byte_order es k v
    → insert_entry byte_order (remove_entry (is_at (byte_order k)) (e ∷ es)) k v ≡ insert_entry byte_order (e ∷ es) k v
inserted_anew k v e es Less h s ih = ap (λ r. insert_entry byte_order r k v) (remove_none (is_at (byte_order k)) (e ∷ es) (none_below_head nat_list_cmp_total k e es s h))
inserted_anew k v e es Equal h s ih =
    let same : k ≡ e.0 = exact_bytes k e.0 h in
    let r = remove_entry (is_at (byte_order k)) es in
    ap (λ o. insert_entry byte_order (cond (is_eq o) es (e ∷ r)) k v) h
    ∙ inserted_front k v es (subst (λ x. AllByRecursion (λ y. byte_order x y ≡ Less) (keys_of es)) (sym same) (sorted_head byte_order e.0 (keys_of es) s))
    ∙ ap (λ x. (x, v) ∷ es) same ∙ sym (ap (inserted_by k v e es) h)
inserted_anew k v e es Greater h s ih =
    let r = remove_entry (is_at (byte_order k)) es in
    ap (λ o. insert_entry byte_order (cond (is_eq o) es (e ∷ r)) k v) h
    ∙ ap (inserted_by k v e r) h ∙ ap (λ t. e ∷ t) ih ∙ sym (ap (inserted_by k v e es) h)

-- taking a key's entry out first changes nothing
pub insert_removed : {X : Type 0} → (k : List ℕ) (v : X) (es : List (List ℕ × X)) → IsAscending es → insert_entry byte_order (remove_entry (is_at (byte_order k)) es) k v ≡ insert_entry byte_order es k v
insert_removed k v [] s = refl
insert_removed k v (e ∷ es) s = inserted_anew k v e es (byte_order k e.0) refl s (insert_removed k v es (sorted_tail byte_order e.0 (keys_of es) s))

-- a look-up after an insertion
abbrev found_after : {X : Type 0} → List ℕ → List ℕ → X → List (List ℕ × X) → Option X
found_after q k v es = cond (is_at (byte_order q) k) (Some v) (lookup (is_at (byte_order q)) es)

twice : {Y : Type 0} (b : Bool) (x y z : Y) → cond b x z ≡ cond b x (cond b y z)
twice true x y z = refl
twice false x y z = refl

swapped : {Y : Type 0} (a b : Bool) (x y z : Y) → (a ≡ true → b ≡ true → ⊥) → cond a x (cond b y z) ≡ cond b y (cond a x z)
swapped true true x y z apart = absurd (apart refl refl)
swapped true false x y z apart = refl
swapped false true x y z apart = refl
swapped false false x y z apart = refl

pub at-same : (q k : List ℕ) → is_at (byte_order q) k ≡ true → q ≡ k
at-same q k h = by_cases (byte_order q k) refl h
  where
    by_cases : (o : Ordering) → byte_order q k ≡ o → is_eq o ≡ true → q ≡ k
    by_cases Less e h = cc
    by_cases Equal e h = exact_bytes q k e
    by_cases Greater e h = cc

found_by : {X : Type 0} → (q k : List ℕ) (v : X) (e : List ℕ × X) (es : List (List ℕ × X)) (o : Ordering) → byte_order k e.0 ≡ o
    → lookup (is_at (byte_order q)) (insert_entry byte_order es k v) ≡ found_after q k v es
    → lookup (is_at (byte_order q)) (insert_entry byte_order (e ∷ es) k v) ≡ found_after q k v (e ∷ es)
found_by q k v e es Less h ih = ap (λ o. lookup (is_at (byte_order q)) (inserted_by k v e es o)) h
found_by q k v e es Equal h ih =
    let rest = lookup (is_at (byte_order q)) es in
    let same : k ≡ e.0 = exact_bytes k e.0 h in
    ap (λ o. lookup (is_at (byte_order q)) (inserted_by k v e es o)) h
    ∙ twice (is_at (byte_order q) e.0) (Some v) (Some e.1) rest
    ∙ ap (λ x. cond (is_at (byte_order q) x) (Some v) (cond (is_at (byte_order q) e.0) (Some e.1) rest)) (sym same)
found_by q k v e es Greater h ih =
    let rest = lookup (is_at (byte_order q)) es in
    ap (λ o. lookup (is_at (byte_order q)) (inserted_by k v e es o)) h
    ∙ ap (λ t. cond (is_at (byte_order q) e.0) (Some e.1) t) ih
    ∙ swapped (is_at (byte_order q) e.0) (is_at (byte_order q) k) (Some e.1) (Some v) rest (λ a b.
    let equal : byte_order k e.0 ≡ Equal = ap (byte_order k) (sym (at-same q e.0 a) ∙ at-same q k b) ∙ order-same k in
    cc)

pub lookup-insert : {X : Type 0} → (q k : List ℕ) (v : X) (es : List (List ℕ × X)) → lookup (is_at (byte_order q)) (insert_entry byte_order es k v) ≡ found_after q k v es
lookup-insert q k v [] = refl
lookup-insert q k v (e ∷ es) = found_by q k v e es (byte_order k e.0) refl (lookup-insert q k v es)

above_all : (k y : List ℕ) (ks : List (List ℕ)) → byte_order k y ≡ Less → AllByRecursion (λ z. byte_order y z ≡ Less) ks → AllByRecursion (λ z. byte_order k z ≡ Less) ks
above_all k y [] h all = tt
above_all k y (z ∷ ks) h all = (nat_list_cmp_total.trans k y z h all.0, above_all k y ks h all.1)

ascending_by : {X : Type 0} → (k : List ℕ) (v : X) (e : List ℕ × X) (es : List (List ℕ × X)) (o : Ordering) → byte_order k e.0 ≡ o → IsAscending (e ∷ es) → IsAscending (insert_entry byte_order es k v) → IsAscending (inserted_by k v e es o)
unfolding IsStrictlySortedBy
ascending_by k v e es Less h s ih = ((h, above_all k e.0 (keys_of es) h s.0), s)
ascending_by k v e es Equal h s ih = s
ascending_by k v e es Greater h s ih =
    let less : byte_order e.0 k ≡ Less = nat_list_cmp_total.antisymm e.0 k ∙ ap ordering_reverse h in
    let P : List ℕ → Type 0 = λ y. byte_order e.0 y ≡ Less in
    (recursion_from_All P (keys_of (insert_entry byte_order es k v)) (All-keys-insert_entry byte_order k v P es (All-from_recursion P (keys_of es) s.0) less), ih)

pub ascending-insert : {X : Type 0} → (k : List ℕ) (v : X) (es : List (List ℕ × X)) → IsAscending es → IsAscending (insert_entry byte_order es k v)
unfolding IsStrictlySortedBy
ascending-insert k v [] s = (tt, tt)
ascending-insert k v (e ∷ es) s = ascending_by k v e es (byte_order k e.0) refl s (ascending-insert k v es s.1)
