-- The set of each record's collection, version and revision: its order, a record more or less or marked, and the records at the places that a range of it has.
use Rattle.std.proofs.Common.{◌≡◌, ◌<◌, ◌≤◌, ◌++◌, ◌&&◌, ◌||◌, ℕ, List, [], ◌∷◌, Bool, true, false, cond, not, map, filter, nat_eq, Some, None, refl, ap, sym, subst, ◌∙◌, arith, ⊎_elim}
use Rattle.std.specs.Prelude.{◌-◌, ◌^◌}
use Rattle.std.specs.List.{find, list_any, AllByRecursion}
use Rattle.std.specs.BTreeMap.{is_at}
use Rattle.std.specs.Ordering.{nat_cmp, is_eq, is_gt, is_lt, ordering_then}
use Rattle.std.specs.declared.cmp.Ordering.{Ordering}
use Rattle.std.specs.declared.cmp.Ordering.TheVariants.{Less, Equal, Greater}
use Rattle.std.proofs.lemmas.Bool.{eq-eqb, eqb-true, and_parts, and_from, and_left, or_cases, or_left, or_right, or_parts, false_from_ne_true, both_ways}
use Rattle.std.proofs.lemmas.Bool.Decides.{nat_tests}
use Rattle.std.proofs.lemmas.List.Folds.{list_any-append}
use Rattle.keep_event.specs.Table.{is_current, is_current_of, is_of}
use Rattle.keep_event.specs.declared.table.Standing.{Standing}
use Rattle.keep_event.specs.declared.table.Record.{Record}
use Rattle.keep_table.specs.Contents.{AreSuperseded, RisesAbove}
use Rattle.keep_table.specs.Maps.{is_place, is_placed_at, is_at_version, triple_cmp, marked, standing_as, revisions_of, AreAfter, AreVersioned, AreSmall}
use Rattle.keep_table.proofs.Keyed.{at-eq, without-none}

-- ---- the order of the set

pub eq-then : (a b : Ordering) → is_eq (ordering_then a b) ≡ (is_eq a && is_eq b)
eq-then Less b = refl
eq-then Equal b = refl
eq-then Greater b = refl

and-turned : (a b c d e f : ℕ) → ((nat_eq a b && nat_eq c d) && nat_eq e f) ≡ (nat_eq b a && nat_eq d c && nat_eq f e)
and-turned a b c d e f = grind (arith, nat_tests)

pub at-place : (c u w n t v : ℕ) → is_at (triple_cmp (c, u, w)) (n, t, v) ≡ is_place c u w n t v
at-place c u w n t v =
    rw (eq-then (ordering_then (nat_cmp c n) (nat_cmp u t)) (nat_cmp w v), eq-then (nat_cmp c n) (nat_cmp u t), at-eq c n, at-eq u t, at-eq w v) (and-turned n c t u v w)

-- the triples of a collection, and those of one of its versions
pub place-from : (n t v : ℕ) → is_gt (triple_cmp (n, 0, 0) (n, t, v)) ≡ false
place-from n t v = grind (arith, nat_tests)

pub place-upto : (n t v m w : ℕ) → t ≤ m → v ≤ w → is_gt (triple_cmp (n, t, v) (n, m, w)) ≡ false
place-upto n t v m w le le' = grind (arith, nat_tests)

pub version-from : (n t v : ℕ) → is_gt (triple_cmp (n, t, 0) (n, t, v)) ≡ false
version-from n t v = grind (arith, nat_tests)

pub number-from : (n a t v : ℕ) → is_gt (triple_cmp (n, 0, 0) (a, t, v)) ≡ false → n ≤ a
number-from n a t v e = grind (arith, nat_tests)

pub number-upto : (n a t v : ℕ) → is_gt (triple_cmp (a, t, v) (n, 2 ^ 64 - 1, 2 ^ 64 - 1)) ≡ false → a ≤ n
number-upto n a t v e = grind (arith, nat_tests)

pub not-less : (n a t v u w : ℕ) → a ≡ n → is_lt (triple_cmp (a, t, v) (n, u, w)) ≡ false → u ≤ t
not-less n a t v u w same e = grind (arith, nat_tests)

-- ---- one record more or less

placed-revision : (c u w n t v : ℕ) → is_place c u w n t v ≡ true → w ≡ v
placed-revision c u w n t v e = eqb-true w v (and_parts (nat_eq c n && nat_eq u t) (nat_eq w v) e).1

-- a place of records whose revisions rise has one above the bound
any-above : (n u v low : ℕ) (rs : List Record) → RisesAbove low (revisions_of rs) → list_any (is_placed_at n u v) rs ≡ true → low < v
any-above n u v low [] h e = absurd (cc)
any-above n u v low (r ∷ rs) h e =
    ⊎_elim (λ here. let same = placed-revision r.collection r.version r.revision n u v here in omega (arith, h.0))
    (λ there. let more = any-above n u v r.revision rs h.1 there in omega (arith, h.0)) (or_cases (is_placed_at n u v r) (list_any (is_placed_at n u v) rs) e)

or-none : (b is : Bool) → (b || (is || false)) ≡ (b || is)
or-none true is = refl
or-none false true = refl
or-none false false = refl

pub place-pushed : (n u v : ℕ) (rs : List Record) (row : Record) → list_any (is_placed_at n u v) (rs ++ row ∷ []) ≡ (list_any (is_placed_at n u v) rs || is_place row.collection row.version row.revision n u v)
place-pushed n u v rs row = rw (list_any-append (is_placed_at n u v) rs (row ∷ [])) (or-none (list_any (is_placed_at n u v) rs) (is_placed_at n u v row))

none-below : (n u v : ℕ) (rs : List Record) → AllByRecursion (λ r. r.revision < v) rs → list_any (is_placed_at n u v) rs ≡ false
none-below n u v [] h = refl
none-below n u v (r ∷ rs) h =
    let other : is_placed_at n u v r ≡ false = false_from_ne_true (is_placed_at n u v r) (λ at. let same = placed-revision r.collection r.version r.revision n u v at in omega (arith, h.0)) in
    rw other (none-below n u v rs h.1)

undone-cond : (now mid old ok is was : Bool) → now ≡ (mid && not is) → mid ≡ (old || (ok && is)) → old ≡ was → (is ≡ true → was ≡ false) → now ≡ was
undone-cond now mid old ok true was e m h new = e ∙ and-false mid ∙ sym (new refl)
  where
    and-false : (b : Bool) → (b && false) ≡ false
    and-false true = refl
    and-false false = refl
undone-cond now mid old ok false was e m h new = e ∙ and-true mid ∙ m ∙ or-off old ok ∙ h
  where
    and-true : (b : Bool) → (b && true) ≡ b
    and-true true = refl
    and-true false = refl

    or-off : (b ok : Bool) → (b || (ok && false)) ≡ b
    or-off true ok = refl
    or-off false true = refl
    or-off false false = refl

-- a new place is taken out again
pub place-undone : (n u v c version revision : ℕ) (now mid old ok : Bool) (rs : List Record) → AllByRecursion (λ r. r.revision < revision) rs → mid ≡ (old || (ok && is_place c version revision n u v)) → now ≡ (mid && not (is_place c version revision n u v)) →
    old ≡ list_any (is_placed_at n u v) rs → now ≡ list_any (is_placed_at n u v) rs
place-undone n u v c version revision now mid old ok rs h m e was =
    undone-cond now mid old ok (is_place c version revision n u v) (list_any (is_placed_at n u v) rs) e m was (λ at.
    let same : revision ≡ v = placed-revision c version revision n u v at in
    none-below n u v rs (subst (λ (w : ℕ). AllByRecursion (λ (r : Record). r.revision < w) rs) same h))

first-out : (here rest : Bool) → (here ≡ true → rest ≡ false) → rest ≡ ((here || rest) && not here)
first-out true rest h = h refl
first-out false true h = refl
first-out false false h = refl

later-out : (here rest out : Bool) → (out ≡ true → here ≡ false) → (here || (rest && not out)) ≡ ((here || rest) && not out)
later-out true rest true h = absurd (both_ways true (h refl) refl)
later-out true rest false h = refl
later-out false rest out h = refl

without-cond : (n u v k : ℕ) (b : Bool) (r row : Record) (rs : List Record) → nat_eq r.revision k ≡ b → RisesAbove r.revision (revisions_of rs) →
    (find (λ r. nat_eq r.revision k) rs ≡ Some row → list_any (is_placed_at n u v) (filter (λ r. not (nat_eq r.revision k)) rs) ≡ (list_any (is_placed_at n u v) rs && not (is_place row.collection row.version k n u v))) →
    cond b (Some r) (find (λ r. nat_eq r.revision k) rs) ≡ Some row →
    list_any (is_placed_at n u v) (cond (not b) (r ∷ filter (λ r. not (nat_eq r.revision k)) rs) (filter (λ r. not (nat_eq r.revision k)) rs)) ≡ (list_any (is_placed_at n u v) (r ∷ rs) && not (is_place row.collection row.version k n u v))
without-cond n u v k true r row rs is h rest e =
    let same : row ≡ r = cc in
    let at : r.revision ≡ k = eqb-true r.revision k is in
    rw (same, ← at, without-none (λ r. r.revision) r.revision r.revision rs (omega arith) h) (first-out (is_placed_at n u v r) (list_any (is_placed_at n u v) rs) (λ here.
    false_from_ne_true (list_any (is_placed_at n u v) rs) (λ later. let more = any-above n u v r.revision rs h later in let one = placed-revision r.collection r.version r.revision n u v here in omega arith)))
without-cond n u v k false r row rs is h rest e =
    rw (rest e) (later-out (is_placed_at n u v r) (list_any (is_placed_at n u v) rs) (is_place row.collection row.version k n u v) (λ out. apart out))
  where
    apart : is_place row.collection row.version k n u v ≡ true → is_placed_at n u v r ≡ false
    apart out = false_from_ne_true (is_placed_at n u v r) (λ here.
        let one = placed-revision row.collection row.version k n u v out in
        let other = placed-revision r.collection r.version r.revision n u v here in
        both_ways (nat_eq r.revision k) is (eq-eqb r.revision k (other ∙ sym one)))

-- a record that goes takes its place with it
pub place-without : (n u v k low : ℕ) (rs : List Record) (row : Record) → RisesAbove low (revisions_of rs) → find (λ r. nat_eq r.revision k) rs ≡ Some row →
    list_any (is_placed_at n u v) (filter (λ r. not (nat_eq r.revision k)) rs) ≡ (list_any (is_placed_at n u v) rs && not (is_place row.collection row.version k n u v))
place-without n u v k low [] row h e = absurd (cc)
place-without n u v k low (r ∷ rs) row h e = without-cond n u v k (nat_eq r.revision k) r row rs refl h.1 (λ e. place-without n u v k r.revision rs row h.1 e) e

-- ---- another standing

place-standing : (n u v : ℕ) (standing : Standing) (b : Bool) (r : Record) → is_placed_at n u v (cond b (standing_as standing r) r) ≡ is_placed_at n u v r
place-standing n u v standing true r = refl
place-standing n u v standing false r = refl

pub place-marked : (n u v k : ℕ) (standing : Standing) (rs : List Record) → list_any (is_placed_at n u v) (map (marked k standing) rs) ≡ list_any (is_placed_at n u v) rs
place-marked n u v k standing [] = refl
place-marked n u v k standing (r ∷ rs) = rw (place-standing n u v standing (nat_eq r.revision k) r, place-marked n u v k standing rs) refl

-- ---- numbers below a bound

small-standing : (standing : Standing) (b : Bool) (r : Record) → (r.version < 2 ^ 64) × (r.revision < 2 ^ 64) → ((cond b (standing_as standing r) r).version < 2 ^ 64) × ((cond b (standing_as standing r) r).revision < 2 ^ 64)
small-standing standing true r h = h
small-standing standing false r h = h

pub small-marked : (k : ℕ) (standing : Standing) (rs : List Record) → AreSmall rs → AreSmall (map (marked k standing) rs)
small-marked k standing [] h = tt
small-marked k standing (r ∷ rs) h = (small-standing standing (nat_eq r.revision k) r h.0, small-marked k standing rs h.1)

small-placed : (n u v : ℕ) (rs : List Record) → AreSmall rs → list_any (is_placed_at n u v) rs ≡ true → (u < 2 ^ 64) × (v < 2 ^ 64)
small-placed n u v [] h e = absurd (cc)
small-placed n u v (r ∷ rs) h e =
    ⊎_elim (λ here.
    let parts = and_parts (nat_eq r.collection n && nat_eq r.version u) (nat_eq r.revision v) here in
    let version : r.version ≡ u = eqb-true r.version u (and_parts (nat_eq r.collection n) (nat_eq r.version u) parts.0).1 in
    let revision : r.revision ≡ v = eqb-true r.revision v parts.1 in
    (omega (arith, h.0.0), omega (arith, h.0.1)))
    (λ there. small-placed n u v rs h.1 there) (or_cases (is_placed_at n u v r) (list_any (is_placed_at n u v) rs) e)

-- ---- the record of a version

own-place : (n u : ℕ) (r : Record) → is_at_version n u r ≡ true → is_placed_at n u r.revision r ≡ true
own-place n u r e = and_from (nat_eq r.collection n && nat_eq r.version u) (nat_eq r.revision r.revision) e (eq-eqb r.revision r.revision refl)

-- a place of records after a version has a greater one
after-placed : (n w u v : ℕ) (rs : List Record) → AreAfter n w rs → list_any (is_placed_at n u v) rs ≡ true → w < u
after-placed n w u v [] h e = absurd (cc)
after-placed n w u v (r ∷ rs) h e =
    ⊎_elim (λ here.
    let at = (and_parts (nat_eq r.collection n && nat_eq r.version u) (nat_eq r.revision v) here).0 in
    let parts = and_parts (nat_eq r.collection n) (nat_eq r.version u) at in
    let more = h.0 parts.0 in
    let same : r.version ≡ u = eqb-true r.version u parts.1 in
    omega arith)
    (λ there. after-placed n w u v rs h.1 there) (or_cases (is_placed_at n u v r) (list_any (is_placed_at n u v) rs) e)

version-cond : (n u v : ℕ) (b : Bool) (r : Record) (rs : List Record) → nat_eq r.revision v ≡ b → RisesAbove r.revision (revisions_of rs) → AreAfter r.collection r.version rs → list_any (is_placed_at n u v) (r ∷ rs) ≡ true →
    (list_any (is_placed_at n u v) rs ≡ true → find (λ r. nat_eq r.revision v) rs ≡ find (is_at_version n u) rs) →
    cond b (Some r) (find (λ r. nat_eq r.revision v) rs) ≡ cond (is_at_version n u r) (Some r) (find (is_at_version n u) rs)
version-cond n u v true r rs is h after there rest =
    let same : r.revision ≡ v = eqb-true r.revision v is in
    let at : is_at_version n u r ≡ true =
    ⊎_elim (λ here. (and_parts (is_at_version n u r) (nat_eq r.revision v) here).0)
    (λ later. absurd (let more = any-above n u v r.revision rs h later in omega arith)) (or_cases (is_placed_at n u v r) (list_any (is_placed_at n u v) rs) there) in
    rw at refl
version-cond n u v false r rs is h after there rest =
    let later : list_any (is_placed_at n u v) rs ≡ true =
    ⊎_elim (λ here. absurd (both_ways (nat_eq r.revision v) is (and_parts (is_at_version n u r) (nat_eq r.revision v) here).1))
    (λ later. later) (or_cases (is_placed_at n u v r) (list_any (is_placed_at n u v) rs) there) in
    let other : is_at_version n u r ≡ false = false_from_ne_true (is_at_version n u r) (λ at.
    let parts = and_parts (is_of n r) (nat_eq r.version u) at in
    let more = after-placed n r.version u v rs (subst (λ (k : ℕ). AreAfter k r.version rs) (eqb-true r.collection n parts.0) after) later in
    let same : r.version ≡ u = eqb-true r.version u parts.1 in
    omega arith) in
    rw other (rest later)

-- the record at the place of a version is the one that has its number
pub version-at : (n u v low : ℕ) (rs : List Record) → RisesAbove low (revisions_of rs) → AreVersioned rs → list_any (is_placed_at n u v) rs ≡ true → find (λ r. nat_eq r.revision v) rs ≡ find (is_at_version n u) rs
version-at n u v low [] h s there = absurd (cc)
version-at n u v low (r ∷ rs) h s there = version-cond n u v (nat_eq r.revision v) r rs refl h.1 s.0 there (λ later. version-at n u v r.revision rs h.1 s.1 later)

pub no-version : (n u : ℕ) (rs : List Record) → AreSmall rs → ((v : ℕ) → v < 2 ^ 64 → list_any (is_placed_at n u v) rs ≡ false) → find (is_at_version n u) rs ≡ None
no-version n u [] h none = refl
no-version n u (r ∷ rs) h none =
    let other : is_at_version n u r ≡ false = false_from_ne_true (is_at_version n u r) (λ at.
    both_ways (is_placed_at n u r.revision r) (or_parts (is_placed_at n u r.revision r) (list_any (is_placed_at n u r.revision) rs) (none r.revision h.0.1)).0 (own-place n u r at)) in
    rw other (no-version n u rs h.1 (λ v lt. (or_parts (is_placed_at n u v r) (list_any (is_placed_at n u v) rs) (none v lt)).1))

-- ---- the newest record of a collection

any-place : (n u v : ℕ) (rs : List Record) → list_any (is_placed_at n u v) rs ≡ true → list_any (is_of n) rs ≡ true
any-place n u v [] e = absurd (cc)
any-place n u v (r ∷ rs) e =
    ⊎_elim (λ here. or_left (is_of n r) (list_any (is_of n) rs) (and_parts (is_of n r) (nat_eq r.version u) (and_parts (is_at_version n u r) (nat_eq r.revision v) here).0).0)
    (λ there. or_right (is_of n r) (list_any (is_of n) rs) (any-place n u v rs there)) (or_cases (is_placed_at n u v r) (list_any (is_placed_at n u v) rs) e)

-- no place of the collection has a version above this one
abbrev IsMost : ℕ → ℕ → List Record → Type 0
IsMost n u rs = (t w : ℕ) → list_any (is_placed_at n t w) rs ≡ true → t ≤ u

most-later : (n u : ℕ) (r : Record) (rs : List Record) → IsMost n u (r ∷ rs) → IsMost n u rs
most-later n u r rs most = λ t w at. most t w (or_right (is_placed_at n t w r) (list_any (is_placed_at n t w) rs) at)

-- after the greatest version there is none
none-after : (n u : ℕ) (rs : List Record) → AreAfter n u rs → IsMost n u rs → list_any (is_of n) rs ≡ false
none-after n u [] after most = refl
none-after n u (r ∷ rs) after most =
    let other : is_of n r ≡ false = false_from_ne_true (is_of n r) (λ of.
    let own : is_placed_at n r.version r.revision r ≡ true = own-place n r.version r (and_from (is_of n r) (nat_eq r.version r.version) of (eq-eqb r.version r.version refl)) in
    let at = most r.version r.revision (or_left (is_placed_at n r.version r.revision r) (list_any (is_placed_at n r.version r.revision) rs) own) in
    let more = after.0 of in
    omega arith) in
    rw other (none-after n u rs after.1 (most-later n u r rs most))

newest-cond : (n u v : ℕ) (b : Bool) (r : Record) (rs : List Record) → nat_eq r.revision v ≡ b → RisesAbove r.revision (revisions_of rs) → AreAfter r.collection r.version rs → is_current r.standing ≡ not (list_any (is_of r.collection) rs) →
    list_any (is_placed_at n u v) (r ∷ rs) ≡ true → IsMost n u (r ∷ rs) →
    (list_any (is_placed_at n u v) rs ≡ true → find (λ r. nat_eq r.revision v) rs ≡ find (is_current_of n) rs) →
    cond b (Some r) (find (λ r. nat_eq r.revision v) rs) ≡ cond (is_current_of n r) (Some r) (find (is_current_of n) rs)
newest-cond n u v true r rs is h after here there most rest =
    let same : r.revision ≡ v = eqb-true r.revision v is in
    let at : is_at_version n u r ≡ true =
    ⊎_elim (λ here. (and_parts (is_at_version n u r) (nat_eq r.revision v) here).0)
    (λ later. absurd (let more = any-above n u v r.revision rs h later in omega arith)) (or_cases (is_placed_at n u v r) (list_any (is_placed_at n u v) rs) there) in
    let parts = and_parts (is_of n r) (nat_eq r.version u) at in
    let number : r.collection ≡ n = eqb-true r.collection n parts.0 in
    let none : list_any (is_of n) rs ≡ false = none-after n u rs (subst (λ (k : ℕ). AreAfter n k rs) (eqb-true r.version u parts.1) (subst (λ (k : ℕ). AreAfter k r.version rs) number after)) (most-later n u r rs most) in
    let current : is_current r.standing ≡ true = here ∙ ap (λ k. not (list_any (is_of k) rs)) number ∙ ap not none in
    rw (parts.0, current) refl
newest-cond n u v false r rs is h after here there most rest =
    let later : list_any (is_placed_at n u v) rs ≡ true =
    ⊎_elim (λ first. absurd (both_ways (nat_eq r.revision v) is (and_parts (is_at_version n u r) (nat_eq r.revision v) first).1))
    (λ later. later) (or_cases (is_placed_at n u v r) (list_any (is_placed_at n u v) rs) there) in
    let other : is_current_of n r ≡ false = false_from_ne_true (is_current_of n r) (λ both.
    let parts = and_parts (is_of n r) (is_current r.standing) both in
    let number : r.collection ≡ n = eqb-true r.collection n parts.0 in
    both_ways (is_current r.standing) (here ∙ ap (λ k. not (list_any (is_of k) rs)) number ∙ ap not (any-place n u v rs later)) parts.1) in
    rw other (rest later)

-- the record at a collection's last place is its current one
newest-is-current : (n u v low : ℕ) (rs : List Record) → RisesAbove low (revisions_of rs) → AreVersioned rs → AreSuperseded rs → list_any (is_placed_at n u v) rs ≡ true → IsMost n u rs → find (λ r. nat_eq r.revision v) rs ≡ find (is_current_of n) rs
newest-is-current n u v low [] h versioned s there most = absurd (cc)
newest-is-current n u v low (r ∷ rs) h versioned s there most =
    newest-cond n u v (nat_eq r.revision v) r rs refl h.1 versioned.0 s.0 there most (λ later. newest-is-current n u v r.revision rs h.1 versioned.1 s.1 later (most-later n u r rs most))

-- the same, where the places are known below a bound
pub last-place : (n u v : ℕ) (rs : List Record) → RisesAbove 0 (revisions_of rs) → AreSmall rs → AreVersioned rs → AreSuperseded rs → list_any (is_placed_at n u v) rs ≡ true →
    ((t w : ℕ) → t < 2 ^ 64 → w < 2 ^ 64 → list_any (is_placed_at n t w) rs ≡ true → t ≤ u) → find (λ r. nat_eq r.revision v) rs ≡ find (is_current_of n) rs
last-place n u v rs h small versioned s there most =
    newest-is-current n u v 0 rs h versioned s there (λ t w at. let below = small-placed n t w rs small at in most t w below.0 below.1 at)

pub no-place : (n : ℕ) (rs : List Record) → AreSmall rs → ((u v : ℕ) → u < 2 ^ 64 → v < 2 ^ 64 → list_any (is_placed_at n u v) rs ≡ false) → find (is_current_of n) rs ≡ None
no-place n [] h none = refl
no-place n (r ∷ rs) h none =
    let other : is_of n r ≡ false = false_from_ne_true (is_of n r) (λ of.
    both_ways (is_placed_at n r.version r.revision r) (or_parts (is_placed_at n r.version r.revision r) (list_any (is_placed_at n r.version r.revision) rs) (none r.version r.revision h.0.0 h.0.1)).0
    (own-place n r.version r (and_from (is_of n r) (nat_eq r.version r.version) of (eq-eqb r.version r.version refl)))) in
    rw (and_left (is_of n r) (is_current r.standing) other) (no-place n rs h.1 (λ u v lt lt'. (or_parts (is_placed_at n u v r) (list_any (is_placed_at n u v) rs) (none u v lt lt')).1))
