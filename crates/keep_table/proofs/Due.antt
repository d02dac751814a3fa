-- The set of versions that are kept for a time: its order, a record more or less or marked, and the first that is due.
use Rattle.std.proofs.Common.{◌≡◌, ◌<◌, ◌++◌, ◌&&◌, ◌||◌, ◌⊎◌, ℕ, List, [], ◌∷◌, Bool, true, false, cond, not, map, filter, length, nat_eq, Some, refl, ap, sym, ◌∙◌, arith, ⊎_elim}
use Rattle.std.specs.List.{find, list_any}
use Rattle.std.specs.BTreeMap.{is_at}
use Rattle.std.specs.Ordering.{nat_cmp, is_gt, ordering_then}
use Rattle.std.specs.declared.cmp.Ordering.TheVariants.{Less}
use Rattle.std.proofs.lemmas.Bool.{eq-eqb, eqb-true, lt-ltb, ltb-true, and_parts, and_from, and_right, or_cases, or_left, or_right, or_parts, false_from_ne_true, both_ways}
use Rattle.std.proofs.lemmas.Bool.Decides.{nat_tests}
use Rattle.std.proofs.lemmas.List.Folds.{list_any-append}
use Rattle.std.proofs.lemmas.List.Sums.{length-filter, count_by-le-length}
use Rattle.keep_event.specs.Table.{is_current, is_due, is_due_of, is_of}
use Rattle.keep_event.specs.declared.table.Standing.{Standing}
use Rattle.keep_event.specs.declared.table.Standing.TheVariants.{Current, Kept, Preserved}
use Rattle.keep_event.specs.declared.table.Record.{Record}
use Rattle.keep_table.specs.Contents.{RisesAbove}
use Rattle.keep_table.specs.Maps.{triple_cmp, is_kept_until, is_kept_as, is_kept_at, is_due_at, AreCurrentAt, marked, standing_as, revisions_of}
use Rattle.keep_table.proofs.Keyed.{at-eq, without-none, change-none}
use Rattle.keep_table.proofs.Triples.{eq-then}

-- ---- the order of the set

swap-and : (a b c d e f : ℕ) → ((nat_eq a b && nat_eq c d) && nat_eq e f) ≡ (nat_eq b a && nat_eq f e && nat_eq d c)
swap-and a b c d e f = grind (arith, nat_tests)

pub at-kept : (c u w n t v : ℕ) → is_at (triple_cmp (c, u, w)) (n, t, v) ≡ is_kept_as c w (Kept u) n t v
at-kept c u w n t v =
    rw (eq-then (ordering_then (nat_cmp c n) (nat_cmp u t)) (nat_cmp w v), eq-then (nat_cmp c n) (nat_cmp u t), at-eq c n, at-eq u t, at-eq w v) (swap-and n c t u v w)

pub kept-added : (b old is : Bool) → b ≡ is → cond b true old ≡ (old || (true && is))
kept-added true true is e = refl
kept-added true false is e = e
kept-added false true is e = refl
kept-added false false is e = e

pub kept-removed : (b old is : Bool) → b ≡ is → cond b false old ≡ (old && not is)
kept-removed true true is e = ap not e
kept-removed true false is e = refl
kept-removed false true is e = ap not e
kept-removed false false is e = refl

-- what was added, or not at all
pub kept-more : (now old ok is was : Bool) → now ≡ (old || (ok && is)) → ok ≡ true → old ≡ was → now ≡ (was || is)
kept-more now old true is was e ok h = e ∙ ap (λ b. b || is) h
kept-more now old false is was e ok h = absurd (both_ways false refl ok)

pub kept-same : (now old ok is was : Bool) → now ≡ (old || (ok && is)) → ok ≡ false → old ≡ was → now ≡ was
kept-same now true false is was e ok h = e ∙ h
kept-same now false false is was e ok h = e ∙ h
kept-same now true true is was e ok h = absurd (both_ways true ok refl)
kept-same now false true is was e ok h = absurd (both_ways true ok refl)

-- the triples of a collection whose times are below a reading
pub kept-from : (n t v : ℕ) → is_gt (triple_cmp (n, 0, 0) (n, t, v)) ≡ false
kept-from n t v = grind (arith, nat_tests)

pub kept-upto : (n t v reading : ℕ) → t < reading → triple_cmp (n, t, v) (n, reading, 0) ≡ Less
kept-upto n t v reading lt = grind (arith, nat_tests)

-- ---- records

-- what is current isn't kept for a time
current-not-kept : (t : ℕ) (s : Standing) → is_current s ≡ true → is_kept_until t s ≡ false
current-not-kept t Current e = refl
current-not-kept t (Kept until) e = absurd (cc)
current-not-kept t Preserved e = refl

current-not-at : (n t v : ℕ) (r : Record) → is_current r.standing ≡ true → is_kept_at n t v r ≡ false
current-not-at n t v r e = rw (current-not-kept t r.standing e) (and_right (nat_eq r.collection n && nat_eq r.revision v) false refl)

or-none : (b : Bool) → (b || (false || false)) ≡ b
or-none true = refl
or-none false = refl

pub kept-pushed : (n t v : ℕ) (rs : List Record) (row : Record) → is_current row.standing ≡ true → list_any (is_kept_at n t v) (rs ++ row ∷ []) ≡ list_any (is_kept_at n t v) rs
kept-pushed n t v rs row e = rw (list_any-append (is_kept_at n t v) rs (row ∷ []), current-not-at n t v row e) (or-none (list_any (is_kept_at n t v) rs))

revision-of : (c w : ℕ) (s : Standing) (n t v : ℕ) → is_kept_as c w s n t v ≡ true → w ≡ v
revision-of c w s n t v e = eqb-true w v (and_parts (nat_eq c n) (nat_eq w v) (and_parts (nat_eq c n && nat_eq w v) (is_kept_until t s) e).0).1

-- a version of records whose revisions rise has one above the bound
any-above : (n t v low : ℕ) (rs : List Record) → RisesAbove low (revisions_of rs) → list_any (is_kept_at n t v) rs ≡ true → low < v
any-above n t v low [] h e = absurd (cc)
any-above n t v low (r ∷ rs) h e =
    ⊎_elim (λ here. let same = revision-of r.collection r.revision r.standing n t v here in omega (arith, h.0))
    (λ there. let more = any-above n t v r.revision rs h.1 there in omega (arith, h.0)) (or_cases (is_kept_at n t v r) (list_any (is_kept_at n t v) rs) e)

-- the first record is the only one with its revision
alone : (n t v : ℕ) (r : Record) (rs : List Record) → RisesAbove r.revision (revisions_of rs) → is_kept_as r.collection r.revision r.standing n t v ≡ true → list_any (is_kept_at n t v) rs ≡ false
alone n t v r rs h here = false_from_ne_true (list_any (is_kept_at n t v) rs) (λ later. let more = any-above n t v r.revision rs h later in let same = revision-of r.collection r.revision r.standing n t v here in absurd (omega arith))

first-out : (here rest : Bool) → (here ≡ true → rest ≡ false) → rest ≡ ((here || rest) && not here)
first-out true rest h = h refl
first-out false true h = refl
first-out false false h = refl

later-out : (here rest out : Bool) → (out ≡ true → here ≡ false) → (here || (rest && not out)) ≡ ((here || rest) && not out)
later-out true rest true h = absurd (both_ways true (h refl) refl)
later-out true rest false h = refl
later-out false rest out h = refl

without-cond : (n t v k : ℕ) (b : Bool) (r row : Record) (rs : List Record) → nat_eq r.revision k ≡ b → RisesAbove r.revision (revisions_of rs) →
    (find (λ r. nat_eq r.revision k) rs ≡ Some row → list_any (is_kept_at n t v) (filter (λ r. not (nat_eq r.revision k)) rs) ≡ (list_any (is_kept_at n t v) rs && not (is_kept_as row.collection k row.standing n t v))) →
    cond b (Some r) (find (λ r. nat_eq r.revision k) rs) ≡ Some row →
    list_any (is_kept_at n t v) (cond (not b) (r ∷ filter (λ r. not (nat_eq r.revision k)) rs) (filter (λ r. not (nat_eq r.revision k)) rs)) ≡ (list_any (is_kept_at n t v) (r ∷ rs) && not (is_kept_as row.collection k row.standing n t v))
without-cond n t v k true r row rs is h rest e =
    let same : row ≡ r = cc in
    let at : r.revision ≡ k = eqb-true r.revision k is in
    rw (same, ← at, without-none (λ r. r.revision) r.revision r.revision rs (omega arith) h) (first-out (is_kept_at n t v r) (list_any (is_kept_at n t v) rs) (alone n t v r rs h))
without-cond n t v k false r row rs is h rest e =
    rw (rest e) (later-out (is_kept_at n t v r) (list_any (is_kept_at n t v) rs) (is_kept_as row.collection k row.standing n t v) (λ out. apart out))
  where
    apart : is_kept_as row.collection k row.standing n t v ≡ true → is_kept_at n t v r ≡ false
    apart out = false_from_ne_true (is_kept_at n t v r) (λ here.
        let one = revision-of row.collection k row.standing n t v out in
        let other = revision-of r.collection r.revision r.standing n t v here in
        both_ways (nat_eq r.revision k) is (eq-eqb r.revision k (other ∙ sym one)))

-- a record that goes takes its triple with it
pub kept-without : (n t v k low : ℕ) (rs : List Record) (row : Record) → RisesAbove low (revisions_of rs) → find (λ r. nat_eq r.revision k) rs ≡ Some row →
    list_any (is_kept_at n t v) (filter (λ r. not (nat_eq r.revision k)) rs) ≡ (list_any (is_kept_at n t v) rs && not (is_kept_as row.collection k row.standing n t v))
kept-without n t v k low [] row h e = absurd (cc)
kept-without n t v k low (r ∷ rs) row h e = without-cond n t v k (nat_eq r.revision k) r row rs refl h.1 (λ e. kept-without n t v k r.revision rs row h.1 e) e

or-swap : (is rest : Bool) → (is || rest) ≡ ((false || rest) || is)
or-swap true true = refl
or-swap true false = refl
or-swap false true = refl
or-swap false false = refl

or-later : (here rest is : Bool) → (here || (rest || is)) ≡ ((here || rest) || is)
or-later true rest is = refl
or-later false rest is = refl

marked-cond : (n t v k : ℕ) (standing : Standing) (b : Bool) (r row : Record) (rs : List Record) → nat_eq r.revision k ≡ b → RisesAbove r.revision (revisions_of rs) → (not b || is_current r.standing) ≡ true →
    (find (λ r. nat_eq r.revision k) rs ≡ Some row → list_any (is_kept_at n t v) (map (marked k standing) rs) ≡ (list_any (is_kept_at n t v) rs || is_kept_as row.collection k standing n t v)) →
    cond b (Some r) (find (λ r. nat_eq r.revision k) rs) ≡ Some row →
    list_any (is_kept_at n t v) (cond b (standing_as standing r) r ∷ map (marked k standing) rs) ≡ (list_any (is_kept_at n t v) (r ∷ rs) || is_kept_as row.collection k standing n t v)
marked-cond n t v k standing true r row rs is h current rest e =
    let same : row ≡ r = cc in
    let at : r.revision ≡ k = eqb-true r.revision k is in
    rw (change-none (λ r. r.revision) k r.revision (standing_as standing) rs (omega arith) h, same, ← at, current-not-at n t v r current) (or-swap (is_kept_as r.collection r.revision standing n t v) (list_any (is_kept_at n t v) rs))
marked-cond n t v k standing false r row rs is h current rest e =
    rw (rest e) (or-later (is_kept_at n t v r) (list_any (is_kept_at n t v) rs) (is_kept_as row.collection k standing n t v))

-- a record that was current is kept as its new standing says
pub kept-marked : (n t v k low : ℕ) (standing : Standing) (rs : List Record) (row : Record) → RisesAbove low (revisions_of rs) → AreCurrentAt k rs → find (λ r. nat_eq r.revision k) rs ≡ Some row →
    list_any (is_kept_at n t v) (map (marked k standing) rs) ≡ (list_any (is_kept_at n t v) rs || is_kept_as row.collection k standing n t v)
kept-marked n t v k low standing [] row h current e = absurd (cc)
kept-marked n t v k low standing (r ∷ rs) row h current e = marked-cond n t v k standing (nat_eq r.revision k) r row rs refl h.1 current.0 (λ e. kept-marked n t v k r.revision standing rs row h.1 current.1 e) e

-- ---- the first that is due

kept-due : (t reading : ℕ) (s : Standing) → t < reading → is_kept_until t s ≡ true → is_due reading s ≡ true
kept-due t reading Current lt e = absurd (cc)
kept-due t reading (Kept until) lt e = let same = eqb-true until t e in lt-ltb until reading (omega arith)
kept-due t reading Preserved lt e = absurd (cc)

at-due : (n t v reading : ℕ) (r : Record) → t < reading → is_kept_at n t v r ≡ true → is_due_at reading n v r ≡ true
at-due n t v reading r lt e =
    let parts = and_parts (nat_eq r.collection n && nat_eq r.revision v) (is_kept_until t r.standing) e in
    let of = and_parts (nat_eq r.collection n) (nat_eq r.revision v) parts.0 in
    and_from (is_due_of reading n r) (nat_eq r.revision v) (and_from (is_of n r) (is_due reading r.standing) of.0 (kept-due t reading r.standing lt parts.1)) of.1

pub any-due : (n t v reading : ℕ) (rs : List Record) → t < reading → list_any (is_kept_at n t v) rs ≡ true → list_any (is_due_at reading n v) rs ≡ true
any-due n t v reading [] lt e = absurd (cc)
any-due n t v reading (r ∷ rs) lt e =
    ⊎_elim (λ here. or_left (is_due_at reading n v r) (list_any (is_due_at reading n v) rs) (at-due n t v reading r lt here))
    (λ there. or_right (is_due_at reading n v r) (list_any (is_due_at reading n v) rs) (any-due n t v reading rs lt there)) (or_cases (is_kept_at n t v r) (list_any (is_kept_at n t v) rs) e)

pub due-at-due : (reading n v : ℕ) (rs : List Record) → list_any (is_due_at reading n v) rs ≡ true → list_any (is_due_of reading n) rs ≡ true
due-at-due reading n v [] e = absurd (cc)
due-at-due reading n v (r ∷ rs) e =
    ⊎_elim (λ here. or_left (is_due_of reading n r) (list_any (is_due_of reading n) rs) (and_parts (is_due_of reading n r) (nat_eq r.revision v) here).0)
    (λ there. or_right (is_due_of reading n r) (list_any (is_due_of reading n) rs) (due-at-due reading n v rs there)) (or_cases (is_due_at reading n v r) (list_any (is_due_at reading n v) rs) e)

-- a version that is due is kept until some time below the reading
none-cond : (n reading : ℕ) (r : Record) (s : Standing) → r.standing ≡ s → is_of n r ≡ true → is_due reading s ≡ true → ((t v : ℕ) → t < reading → is_kept_at n t v r ≡ false) → ⊥
none-cond n reading r Current is of due none = absurd (cc)
none-cond n reading r (Kept until) is of due none =
    let there : is_kept_at n until r.revision r ≡ true = and_from (nat_eq r.collection n && nat_eq r.revision r.revision) (is_kept_until until r.standing) (and_from (nat_eq r.collection n) (nat_eq r.revision r.revision) of (eq-eqb r.revision r.revision refl)) (ap (λ s. is_kept_until until s) is ∙ eq-eqb until until refl) in
    both_ways (is_kept_at n until r.revision r) (none until r.revision (ltb-true until reading due)) there
none-cond n reading r Preserved is of due none = absurd (cc)

pub none-due : (n reading : ℕ) (rs : List Record) → ((t v : ℕ) → t < reading → list_any (is_kept_at n t v) rs ≡ false) → list_any (is_due_of reading n) rs ≡ false
none-due n reading [] none = refl
none-due n reading (r ∷ rs) none =
    let other : is_due_of reading n r ≡ false = false_from_ne_true (is_due_of reading n r) (λ due.
    let both = and_parts (is_of n r) (is_due reading r.standing) due in
    none-cond n reading r r.standing refl both.0 both.1 (λ t v lt. (or_parts (is_kept_at n t v r) (list_any (is_kept_at n t v) rs) (none t v lt)).0)) in
    rw other (none-due n reading rs (λ t v lt. (or_parts (is_kept_at n t v r) (list_any (is_kept_at n t v) rs) (none t v lt)).1))

-- ---- versions that go because they are due

due-above : (reading n v low : ℕ) (rs : List Record) → RisesAbove low (revisions_of rs) → list_any (is_due_at reading n v) rs ≡ true → low < v
due-above reading n v low [] h e = absurd (cc)
due-above reading n v low (r ∷ rs) h e =
    ⊎_elim (λ here. let same = eqb-true r.revision v (and_parts (is_due_of reading n r) (nat_eq r.revision v) here).1 in omega (arith, h.0))
    (λ there. let more = due-above reading n v r.revision rs h.1 there in omega (arith, h.0)) (or_cases (is_due_at reading n v r) (list_any (is_due_at reading n v) rs) e)

abbrev not_due : ℕ → ℕ → Record → Bool
not_due reading n r = not (is_due_of reading n r)

-- those that aren't due stay
pub due-dropped : (reading n v low : ℕ) (rs : List Record) → RisesAbove low (revisions_of rs) → list_any (is_due_at reading n v) rs ≡ true →
    filter (not_due reading n) (filter (λ r. not (nat_eq r.revision v)) rs) ≡ filter (not_due reading n) rs
due-dropped reading n v low [] h e = refl
due-dropped reading n v low (r ∷ rs) h e =
    here (nat_eq r.revision v) refl (or_cases (is_due_at reading n v r) (list_any (is_due_at reading n v) rs) e) (λ later. due-dropped reading n v r.revision rs h.1 later)
  where
    kept : (b : Bool) (xs ys : List Record) → filter (not_due reading n) xs ≡ filter (not_due reading n) ys → cond b (r ∷ filter (not_due reading n) xs) (filter (not_due reading n) xs) ≡ cond b (r ∷ filter (not_due reading n) ys) (filter (not_due reading n) ys)
    kept true xs ys e = ap (λ zs. r ∷ zs) e
    kept false xs ys e = e

    here : (b : Bool) → nat_eq r.revision v ≡ b → (is_due_at reading n v r ≡ true) ⊎ (list_any (is_due_at reading n v) rs ≡ true) →
        (list_any (is_due_at reading n v) rs ≡ true → filter (not_due reading n) (filter (λ r. not (nat_eq r.revision v)) rs) ≡ filter (not_due reading n) rs) →
        filter (not_due reading n) (cond (not b) (r ∷ filter (λ r. not (nat_eq r.revision v)) rs) (filter (λ r. not (nat_eq r.revision v)) rs)) ≡ filter (not_due reading n) (r ∷ rs)
    here true is due rest =
        let at : r.revision ≡ v = eqb-true r.revision v is in
        let gone : is_due_of reading n r ≡ true = ⊎_elim (λ own. (and_parts (is_due_of reading n r) (nat_eq r.revision v) own).0)
        (λ later. absurd (let more = due-above reading n v r.revision rs h.1 later in omega arith)) due in
        rw (gone, ← at, without-none (λ r. r.revision) r.revision r.revision rs (omega arith) h.1) refl
    here false is due rest =
        let later : list_any (is_due_at reading n v) rs ≡ true = ⊎_elim (λ own. absurd (both_ways (nat_eq r.revision v) is (and_parts (is_due_of reading n r) (nat_eq r.revision v) own).1)) (λ later. later) due in
        kept (not_due reading n r) (filter (λ r. not (nat_eq r.revision v)) rs) rs (rest later)

-- fewer are left
pub due-fewer : (reading n v : ℕ) (rs : List Record) → list_any (is_due_at reading n v) rs ≡ true → length (filter (λ r. not (nat_eq r.revision v)) rs) < length rs
due-fewer reading n v [] e = absurd (cc)
due-fewer reading n v (r ∷ rs) e =
    here (nat_eq r.revision v) refl (or_cases (is_due_at reading n v r) (list_any (is_due_at reading n v) rs) e) (λ later. due-fewer reading n v rs later)
  where
    here : (b : Bool) → nat_eq r.revision v ≡ b → (is_due_at reading n v r ≡ true) ⊎ (list_any (is_due_at reading n v) rs ≡ true) →
        (list_any (is_due_at reading n v) rs ≡ true → length (filter (λ r. not (nat_eq r.revision v)) rs) < length rs) →
        length (cond (not b) (r ∷ filter (λ r. not (nat_eq r.revision v)) rs) (filter (λ r. not (nat_eq r.revision v)) rs)) < length (r ∷ rs)
    here true is due rest =
        let all = length-filter (λ r. not (nat_eq r.revision v)) rs in
        let most = count_by-le-length (λ r. not (nat_eq r.revision v)) rs in
        omega arith
    here false is due rest =
        let later : list_any (is_due_at reading n v) rs ≡ true = ⊎_elim (λ own. absurd (both_ways (nat_eq r.revision v) is (and_parts (is_due_of reading n r) (nat_eq r.revision v) own).1)) (λ later. later) due in
        let less = rest later in
        omega arith

-- where none is due, all stay
pub none-dropped : (reading n : ℕ) (rs : List Record) → list_any (is_due_of reading n) rs ≡ false → filter (not_due reading n) rs ≡ rs
none-dropped reading n [] e = refl
none-dropped reading n (r ∷ rs) e = let parts = or_parts (is_due_of reading n r) (list_any (is_due_of reading n) rs) e in rw (parts.0, none-dropped reading n rs parts.1) refl
