-- What a name finds in a list after a put, a removal or a move: `find-put-same`, `find-put-other`, `find-without-same`, `find-without-other`.
use Rattle.std.proofs.Common.{◌≡◌, List, [], ◌∷◌, ◌++◌, map, refl, sym, ◌∙◌, ap, Option, None, Some, option_map, subst, inl, inr}
use Rattle.std.specs.List.{AllByRecursion}
use Rattle.std.specs.declared.cmp.Ordering.{Ordering}
use Rattle.std.specs.declared.cmp.Ordering.TheVariants.{Less, Equal, Greater}
use Rattle.std.specs.Ordering.{match_ordering, ordering_reverse}
use Rattle.keep_event.specs.Store.{Cut, cut, onto, name_cmp, find, put, without, IsAscending}
use Rattle.keep_event.specs.declared.names.Name.{Name}
use Rattle.keep_spec.specs.Members.{IsIn}
use Rattle.keep_store.proofs.Order.{order, flip, head-below, tail-ascends}
use Rattle.keep_store.proofs.Cuts.{step}

itself : (o : Ordering) → o ≡ ordering_reverse o → o ≡ Equal
itself Less e = cc e
itself Equal e = refl
itself Greater e = cc e

pub same-name : (n : Name) → name_cmp n n ≡ Equal
same-name n = itself (name_cmp n n) (order.antisymm n n)

abbrev found : {X : Type 0} → Ordering → Option X → Option X → Option X
found o here later = match_ordering o None here later

by_order : {X : Type 0} (o : Ordering) (e : Name × X) (es : List (Name × X)) (c : Cut X) →
    option_map (λ (e : Name × X). e.1) (match_ordering o (record { front = []; at = None; back = e ∷ es }) (record { front = []; at = Some e; back = es }) (onto (e ∷ []) c)).at
    ≡ found o (Some e.1) (option_map (λ (e : Name × X). e.1) c.at)
by_order Less e es c = refl
by_order Equal e es c = refl
by_order Greater e es c = refl

pub find-cons : {X : Type 0} (n : Name) (e : Name × X) (es : List (Name × X)) → find n (e ∷ es) ≡ found (name_cmp n e.0) (Some e.1) (find n es)
find-cons n e es = by_order (name_cmp n e.0) e es (cut n es)

find-at : {X : Type 0} (n : Name) (e : Name × X) (es : List (Name × X)) (o : Ordering) → name_cmp n e.0 ≡ o → find n (e ∷ es) ≡ found o (Some e.1) (find n es)
find-at n e es o h = find-cons n e es ∙ ap (λ x. found x (Some e.1) (find n es)) h

put-at : {X : Type 0} (n : Name) (x : X) (e : Name × X) (es : List (Name × X)) (o : Ordering) → name_cmp n e.0 ≡ o →
    put n x (e ∷ es) ≡ match_ordering o ((n, x) ∷ e ∷ es) ((n, x) ∷ es) (e ∷ put n x es)
put-at {X = X} n x e es o h = ap (λ (c : Cut X). c.front ++ (n, x) ∷ c.back) (step n e es o h) ∙ by o
  where
    by : (o : Ordering) → (let d : Cut X = match_ordering o (record { front = []; at = None; back = e ∷ es }) (record { front = []; at = Some e; back = es }) (onto (e ∷ []) (cut n es)) in d.front ++ (n, x) ∷ d.back) ≡ match_ordering o ((n, x) ∷ e ∷ es) ((n, x) ∷ es) (e ∷ put n x es)
    by Less = refl
    by Equal = refl
    by Greater = refl

without-at : {X : Type 0} (n : Name) (e : Name × X) (es : List (Name × X)) (o : Ordering) → name_cmp n e.0 ≡ o →
    without n (e ∷ es) ≡ match_ordering o (e ∷ es) es (e ∷ without n es)
without-at {X = X} n e es o h = ap (λ (c : Cut X). c.front ++ c.back) (step n e es o h) ∙ by o
  where
    by : (o : Ordering) → (let d : Cut X = match_ordering o (record { front = []; at = None; back = e ∷ es }) (record { front = []; at = Some e; back = es }) (onto (e ∷ []) (cut n es)) in d.front ++ d.back) ≡ match_ordering o (e ∷ es) es (e ∷ without n es)
    by Less = refl
    by Equal = refl
    by Greater = refl

-- ---- a put
put-same-by : {X : Type 0} (n : Name) (x : X) (e : Name × X) (es : List (Name × X)) (o : Ordering) → name_cmp n e.0 ≡ o → find n (put n x es) ≡ Some x → find n (put n x (e ∷ es)) ≡ Some x
put-same-by n x e es Less h rest = ap (find n) (put-at n x e es Less h) ∙ find-at n (n, x) (e ∷ es) Equal (same-name n)
put-same-by n x e es Equal h rest = ap (find n) (put-at n x e es Equal h) ∙ find-at n (n, x) es Equal (same-name n)
put-same-by n x e es Greater h rest = ap (find n) (put-at n x e es Greater h) ∙ find-at n e (put n x es) Greater h ∙ rest

pub find-put-same : {X : Type 0} (n : Name) (x : X) (es : List (Name × X)) → find n (put n x es) ≡ Some x
find-put-same n x [] = find-at n (n, x) [] Equal (same-name n)
find-put-same n x (e ∷ es) = put-same-by n x e es (name_cmp n e.0) refl (find-put-same n x es)

-- another name in front of all, and one that is passed
before-first : {X : Type 0} (m n : Name) (x : X) (es : List (Name × X)) (o : Ordering) → name_cmp m n ≡ o → (o ≡ Equal → ⊥) → (name_cmp m n ≡ Less → find m es ≡ None) → find m ((n, x) ∷ es) ≡ find m es
before-first m n x es Less h ne low = find-at m (n, x) es Less h ∙ sym (low h)
before-first m n x es Equal h ne low = absurd (ne refl)
before-first m n x es Greater h ne low = find-at m (n, x) es Greater h

none-below : {X : Type 0} (m : Name) (e : Name × X) (es : List (Name × X)) → name_cmp m e.0 ≡ Less → find m (e ∷ es) ≡ None
none-below m e es h = find-at m e es Less h

in-the-place : {X : Type 0} (m n : Name) (x : X) (e : Name × X) (es : List (Name × X)) (o : Ordering) → name_cmp n e.0 ≡ Equal → name_cmp m n ≡ o → (o ≡ Equal → ⊥) → find m ((n, x) ∷ es) ≡ find m (e ∷ es)
in-the-place m n x e es Less same h ne = find-at m (n, x) es Less h ∙ sym (find-at m e es Less (below))
  where
    below : name_cmp m e.0 ≡ Less
    below = flip e.0 m Greater (order.congr e.0 n m (flip n e.0 Equal same) ∙ flip m n Less h)
in-the-place m n x e es Equal same h ne = absurd (ne refl)
in-the-place m n x e es Greater same h ne = find-at m (n, x) es Greater h ∙ sym (find-at m e es Greater (flip e.0 m Less (order.congr e.0 n m (flip n e.0 Equal same) ∙ flip m n Greater h)))

put-other-by : {X : Type 0} (m n : Name) (x : X) (e : Name × X) (es : List (Name × X)) (o : Ordering) → name_cmp n e.0 ≡ o → (name_cmp m n ≡ Equal → ⊥) → find m (put n x es) ≡ find m es → find m (put n x (e ∷ es)) ≡ find m (e ∷ es)
put-other-by m n x e es Less h ne rest =
    ap (find m) (put-at n x e es Less h) ∙ before-first m n x (e ∷ es) (name_cmp m n) refl ne (λ low. none-below m e es (order.trans m n e.0 low h))
put-other-by m n x e es Equal h ne rest = ap (find m) (put-at n x e es Equal h) ∙ in-the-place m n x e es (name_cmp m n) h refl ne
put-other-by m n x e es Greater h ne rest =
    ap (find m) (put-at n x e es Greater h) ∙ find-cons m e (put n x es) ∙ ap (found (name_cmp m e.0) (Some e.1)) rest ∙ sym (find-cons m e es)

pub find-put-other : {X : Type 0} (m n : Name) (x : X) (es : List (Name × X)) → (name_cmp m n ≡ Equal → ⊥) → find m (put n x es) ≡ find m es
find-put-other m n x [] ne = before-first m n x [] (name_cmp m n) refl ne (λ low. refl)
find-put-other m n x (e ∷ es) ne = put-other-by m n x e es (name_cmp n e.0) refl ne (find-put-other m n x es ne)

-- ---- a removal
none-under : {X : Type 0} (m n : Name) (es : List (Name × X)) → name_cmp m n ≡ Less → AllByRecursion (λ k. name_cmp n k ≡ Less) (map (λ e. e.0) es) → find m es ≡ None
none-under m n [] low above = refl
none-under m n (e ∷ es) low above = none-below m e es (order.trans m n e.0 low above.0)

without-same-by : {X : Type 0} (n : Name) (e : Name × X) (es : List (Name × X)) (o : Ordering) → name_cmp n e.0 ≡ o → IsAscending (e ∷ es) → find n (without n es) ≡ None → find n (without n (e ∷ es)) ≡ None
without-same-by n e es Less h a rest = ap (find n) (without-at n e es Less h) ∙ none-below n e es h
without-same-by {X = X} n e es Equal h a rest = ap (find n) (without-at n e es Equal h) ∙ none-above es (head-below e es a)
  where
    none-above : (zs : List (Name × X)) → AllByRecursion (λ k. name_cmp e.0 k ≡ Less) (map (λ e. e.0) zs) → find n zs ≡ None
    none-above [] above = refl
    none-above (z ∷ zs) above = none-below n z zs (order.congr n e.0 z.0 h ∙ above.0)
without-same-by n e es Greater h a rest = ap (find n) (without-at n e es Greater h) ∙ find-at n e (without n es) Greater h ∙ rest

pub find-without-same : {X : Type 0} (n : Name) (es : List (Name × X)) → IsAscending es → find n (without n es) ≡ None
find-without-same n [] a = refl
find-without-same n (e ∷ es) a = without-same-by n e es (name_cmp n e.0) refl a (find-without-same n es (tail-ascends e es a))

passed : {X : Type 0} (m : Name) (e : Name × X) (es : List (Name × X)) (o : Ordering) → name_cmp m e.0 ≡ o → (o ≡ Equal → ⊥) → IsAscending (e ∷ es) → find m es ≡ find m (e ∷ es)
passed m e es Less h ne a = none-under m e.0 es h (head-below e es a) ∙ sym (find-at m e es Less h)
passed m e es Equal h ne a = absurd (ne refl)
passed m e es Greater h ne a = sym (find-at m e es Greater h)

without-other-by : {X : Type 0} (m n : Name) (e : Name × X) (es : List (Name × X)) (o : Ordering) → name_cmp n e.0 ≡ o → (name_cmp m n ≡ Equal → ⊥) → IsAscending (e ∷ es) → find m (without n es) ≡ find m es → find m (without n (e ∷ es)) ≡ find m (e ∷ es)
without-other-by m n e es Less h ne a rest = ap (find m) (without-at n e es Less h)
without-other-by m n e es Equal h ne a rest =
    ap (find m) (without-at n e es Equal h) ∙ passed m e es (name_cmp m e.0) refl (λ same. ne (flip n m Equal (order.congr n e.0 m h ∙ flip m e.0 Equal same))) a
without-other-by m n e es Greater h ne a rest =
    ap (find m) (without-at n e es Greater h) ∙ find-cons m e (without n es) ∙ ap (found (name_cmp m e.0) (Some e.1)) rest ∙ sym (find-cons m e es)

pub find-without-other : {X : Type 0} (m n : Name) (es : List (Name × X)) → (name_cmp m n ≡ Equal → ⊥) → IsAscending es → find m (without n es) ≡ find m es
find-without-other m n [] ne a = refl
find-without-other m n (e ∷ es) ne a = without-other-by m n e es (name_cmp n e.0) refl ne a (find-without-other m n es ne (tail-ascends e es a))

-- ---- a member is found
above-all : {X : Type 0} (P : Name → Type 0) (e : Name × X) (es : List (Name × X)) → IsIn e es → AllByRecursion P (map (λ e. e.0) es) → P e.0
above-all P e [] i h = absurd i
above-all {X = X} P e (x ∷ xs) (inl same) h = subst (λ (y : Name × X). P y.0) (sym same) h.0
above-all P e (x ∷ xs) (inr later) h = above-all P e xs later h.1

pub find-member : {X : Type 0} (e : Name × X) (es : List (Name × X)) → IsIn e es → IsAscending es → find e.0 es ≡ Some e.1
find-member e [] i a = absurd i
find-member {X = X} e (x ∷ xs) (inl same) a =
    subst (λ (y : Name × X). find e.0 (y ∷ xs) ≡ Some e.1) same (find-at e.0 e xs Equal (same-name e.0))
find-member e (x ∷ xs) (inr later) a =
    find-at e.0 x xs Greater (flip x.0 e.0 Less (above-all (λ k. name_cmp x.0 k ≡ Less) e xs later (head-below x xs a))) ∙ find-member e xs later (tail-ascends x xs a)
