-- The order of names, and lists that ascend by it.
use Rattle.std.proofs.Common.{◌≡◌, ℕ, zero, suc, ◌<◌, ◌≤◌, List, [], ◌∷◌, ◌++◌, length, map, get_or, None, Some, refl, ◌∙◌, ap, arith, inl, inr}
use Rattle.std.specs.declared.cmp.Ordering.{Ordering}
use Rattle.std.specs.declared.cmp.Ordering.TheVariants.{Less, Equal, Greater}
use Rattle.std.specs.Ordering.{match_ordering, ordering_reverse, ordering_index}
use Rattle.std.specs.Cmp.{IsTotalOrder, on_total}
use Rattle.std.specs.Cmp.Lexicographic.{options_total}
use Rattle.std.proofs.lemmas.Cmp.{nat_list_cmp_total, nat_cmp_total, then_total}
use Rattle.std.specs.List.{AllByRecursion}
use Rattle.std.specs.List.Sorted.{IsStrictlySortedBy, IsNonDecreasingBy}
use Rattle.std.proofs.lemmas.Bool.{cases_lt}
use Rattle.keep_event.specs.Store.{Cut, cut, onto, name_cmp, put, without, IsAscending}
use Rattle.keep_event.specs.declared.names.Name.{Name}

pub order : IsTotalOrder name_cmp
order = then_total (on_total (λ (n : Name). n.digest) nat_list_cmp_total) (on_total (λ (n : Name). n.deadline) (options_total nat_cmp_total))

-- a name that is above another has it below
pub flip : (a b : Name) (o : Ordering) → name_cmp a b ≡ o → name_cmp b a ≡ ordering_reverse o
flip a b o h = order.antisymm b a ∙ ap ordering_reverse h

-- what isn't below the greater of two is above the smaller
pub past-equal : (n x y : Name) → name_cmp x y ≡ Less → name_cmp n y ≡ Equal → name_cmp n x ≡ Greater
past-equal n x y h k = order.congr n y x k ∙ flip x y Less h

pub past-greater : (n x y : Name) → name_cmp x y ≡ Less → name_cmp n y ≡ Greater → name_cmp n x ≡ Greater
past-greater n x y h k = flip x n Less (order.trans x y n h (flip n y Greater k))

pub all-map : (P Q : Name → Type 0) (ns : List Name) → ((m : Name) → P m → Q m) → AllByRecursion P ns → AllByRecursion Q ns
all-map P Q [] f h = tt
all-map P Q (m ∷ ns) f h = (f m h.0, all-map P Q ns f h.1)

pub all-append : {X : Type 0} (P : Name → Type 0) (xs ys : List (Name × X)) → AllByRecursion P (map (λ e. e.0) xs) → AllByRecursion P (map (λ e. e.0) ys) → AllByRecursion P (map (λ e. e.0) (xs ++ ys))
all-append P [] ys h k = k
all-append P (x ∷ xs) ys h k = (h.0, all-append P xs ys h.1 k)

all-at : {X : Type 0} (P : Name → Type 0) (es : List (Name × X)) (i : ℕ) (d : Name × X) → i < length es → AllByRecursion P (map (λ e. e.0) es) → P (get_or es i d).0
all-at P [] i d lt h = absurd (omega arith)
all-at P (e ∷ es) zero d lt h = h.0
all-at P (e ∷ es) (suc i) d lt h = all-at P es i d (omega arith) h.1

pub nothing-ascends : {X : Type 0} (es : List (Name × X)) → es ≡ [] → IsAscending es
unfolding IsStrictlySortedBy
nothing-ascends [] e = tt
nothing-ascends (x ∷ es) e = cc e

pub tail-ascends : {X : Type 0} (e : Name × X) (es : List (Name × X)) → IsAscending (e ∷ es) → IsAscending es
unfolding IsStrictlySortedBy
tail-ascends e es h = h.1

pub head-below : {X : Type 0} (e : Name × X) (es : List (Name × X)) → IsAscending (e ∷ es) → AllByRecursion (λ m. name_cmp e.0 m ≡ Less) (map (λ e. e.0) es)
unfolding IsStrictlySortedBy
head-below e es h = h.0

pub cons-ascends : {X : Type 0} (e : Name × X) (es : List (Name × X)) → AllByRecursion (λ m. name_cmp e.0 m ≡ Less) (map (λ e. e.0) es) → IsAscending es → IsAscending (e ∷ es)
unfolding IsStrictlySortedBy
cons-ascends e es h k = (h, k)

pub ascending-at : {X : Type 0} (es : List (Name × X)) (i j : ℕ) (d : Name × X) → i < j → j < length es → IsAscending es → name_cmp (get_or es i d).0 (get_or es j d).0 ≡ Less
ascending-at [] i j d lt in_range h = absurd (omega arith)
ascending-at (e ∷ es) zero zero d lt in_range h = absurd (omega arith)
ascending-at (e ∷ es) zero (suc j) d lt in_range h = all-at (λ m. name_cmp e.0 m ≡ Less) es j d (omega arith) (head-below e es h)
ascending-at (e ∷ es) (suc i) zero d lt in_range h = absurd (omega arith)
ascending-at (e ∷ es) (suc i) (suc j) d lt in_range h = ascending-at es i j d (omega arith) (omega arith) (tail-ascends e es h)

-- along an ascending list the comparisons with a name rise
index-le : (o : Ordering) → ordering_index o ≤ 2
index-le Less = omega arith
index-le Equal = omega arith
index-le Greater = omega arith

rises-to : (n x y : Name) (o : Ordering) → name_cmp x y ≡ Less → name_cmp y n ≡ o → ordering_index (name_cmp x n) ≤ ordering_index o
rises-to n x y Less h k = let e : ordering_index (name_cmp x n) ≡ 0 = ap ordering_index (order.trans x y n h k) in omega (arith, e)
rises-to n x y Equal h k = let e : ordering_index (name_cmp x n) ≡ 0 = ap ordering_index (flip n x Greater (past-equal n x y h (flip y n Equal k))) in omega (arith, e)
rises-to n x y Greater h k = index-le (name_cmp x n)

pub comparisons-rise : {X : Type 0} (n : Name) (es : List (Name × X)) → IsAscending es → IsNonDecreasingBy (λ e. ordering_index (name_cmp e.0 n)) es
comparisons-rise n es h i j d le in_range = elim (cases_lt i j) [
  | inl lt ↦ rises-to n (get_or es i d).0 (get_or es j d).0 _ (ascending-at es i j d lt in_range h) refl
  | inr ge ↦ let same : i ≡ j = omega arith in omega (arith, ap (λ k. ordering_index (name_cmp (get_or es k d).0 n)) same)
]

-- ---- a put, a removal and a move keep the order
all-put-step : {X : Type 0} (P : Name → Type 0) (n : Name) (x : X) (o : Ordering) (e : Name × X) (es : List (Name × X)) (c : Cut X) → P n → P e.0 → AllByRecursion P (map (λ e. e.0) es)
    → AllByRecursion P (map (λ e. e.0) (c.front ++ (n, x) ∷ c.back))
    → (let d : Cut X = match_ordering o (record { front = []; at = None; back = e ∷ es }) (record { front = []; at = Some e; back = es }) (onto (e ∷ []) c) in AllByRecursion P (map (λ e. e.0) (d.front ++ (n, x) ∷ d.back)))
all-put-step P n x Less e es c pn pe pes h = (pn, (pe, pes))
all-put-step P n x Equal e es c pn pe pes h = (pn, pes)
all-put-step P n x Greater e es c pn pe pes h = (pe, h)

pub all-put : {X : Type 0} (P : Name → Type 0) (n : Name) (x : X) (es : List (Name × X)) → P n → AllByRecursion P (map (λ e. e.0) es) → AllByRecursion P (map (λ e. e.0) (put n x es))
all-put P n x [] pn h = (pn, tt)
all-put P n x (e ∷ es) pn h = all-put-step P n x (name_cmp n e.0) e es (cut n es) pn h.0 h.1 (all-put P n x es pn h.1)

ascending-put-step : {X : Type 0} (n : Name) (x : X) (o : Ordering) (e : Name × X) (es : List (Name × X)) → name_cmp n e.0 ≡ o → IsAscending (e ∷ es) → IsAscending (put n x es)
    → (let d : Cut X = match_ordering o (record { front = []; at = None; back = e ∷ es }) (record { front = []; at = Some e; back = es }) (onto (e ∷ []) (cut n es)) in IsAscending (d.front ++ (n, x) ∷ d.back))
ascending-put-step n x Less e es h s t = cons-ascends (n, x) (e ∷ es) (h, all-map (λ m. name_cmp e.0 m ≡ Less) (λ m. name_cmp n m ≡ Less) (map (λ e. e.0) es) (λ m k. order.trans n e.0 m h k) (head-below e es s)) s
ascending-put-step n x Equal e es h s t = cons-ascends (n, x) es (all-map (λ m. name_cmp e.0 m ≡ Less) (λ m. name_cmp n m ≡ Less) (map (λ e. e.0) es) (λ m k. order.congr n e.0 m h ∙ k) (head-below e es s)) (tail-ascends e es s)
ascending-put-step n x Greater e es h s t = cons-ascends e (put n x es) (all-put (λ m. name_cmp e.0 m ≡ Less) n x es (flip n e.0 Greater h) (head-below e es s)) t

pub ascending-put : {X : Type 0} (n : Name) (x : X) (es : List (Name × X)) → IsAscending es → IsAscending (put n x es)
ascending-put n x [] s = cons-ascends (n, x) [] tt s
ascending-put n x (e ∷ es) s = ascending-put-step n x (name_cmp n e.0) e es refl s (ascending-put n x es (tail-ascends e es s))

all-without-step : {X : Type 0} (P : Name → Type 0) (o : Ordering) (e : Name × X) (es : List (Name × X)) (c : Cut X) → P e.0 → AllByRecursion P (map (λ e. e.0) es) → AllByRecursion P (map (λ e. e.0) (c.front ++ c.back))
    → (let d : Cut X = match_ordering o (record { front = []; at = None; back = e ∷ es }) (record { front = []; at = Some e; back = es }) (onto (e ∷ []) c) in AllByRecursion P (map (λ e. e.0) (d.front ++ d.back)))
all-without-step P Less e es c pe pes h = (pe, pes)
all-without-step P Equal e es c pe pes h = pes
all-without-step P Greater e es c pe pes h = (pe, h)

pub all-without : {X : Type 0} (P : Name → Type 0) (n : Name) (es : List (Name × X)) → AllByRecursion P (map (λ e. e.0) es) → AllByRecursion P (map (λ e. e.0) (without n es))
all-without P n [] h = tt
all-without P n (e ∷ es) h = all-without-step P (name_cmp n e.0) e es (cut n es) h.0 h.1 (all-without P n es h.1)

ascending-without-step : {X : Type 0} (n : Name) (o : Ordering) (e : Name × X) (es : List (Name × X)) → IsAscending (e ∷ es) → IsAscending (without n es)
    → (let d : Cut X = match_ordering o (record { front = []; at = None; back = e ∷ es }) (record { front = []; at = Some e; back = es }) (onto (e ∷ []) (cut n es)) in IsAscending (d.front ++ d.back))
ascending-without-step n Less e es s t = s
ascending-without-step n Equal e es s t = tail-ascends e es s
ascending-without-step n Greater e es s t = cons-ascends e (without n es) (all-without (λ m. name_cmp e.0 m ≡ Less) n es (head-below e es s)) t

pub ascending-without : {X : Type 0} (n : Name) (es : List (Name × X)) → IsAscending es → IsAscending (without n es)
ascending-without n [] s = s
ascending-without n (e ∷ es) s = ascending-without-step n (name_cmp n e.0) e es s (ascending-without n es (tail-ascends e es s))
