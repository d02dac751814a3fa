-- Records of which each but the newest of its collection is superseded: at most one of a collection is current, and changes keep it so.
use Rattle.std.proofs.Common.{◌≡◌, ◌≤◌, ◌+◌, ◌++◌, ◌&&◌, ◌||◌, ℕ, List, [], ◌∷◌, Bool, true, false, cond, not, map, filter, count_by, nat_eq, refl, ap, sym, ◌∙◌, arith}
use Rattle.std.specs.List.{list_any}
use Rattle.std.proofs.lemmas.Bool.{ne_eqb, eq-eqb, eqb-true, and_left, or_parts, false_from_ne_true, both_ways, not-false}
use Rattle.std.proofs.lemmas.List.Folds.{list_any-append}
use Rattle.keep_event.specs.Table.{is_current, is_current_of, is_of, superseded}
use Rattle.keep_event.specs.declared.table.Standing.{Standing}
use Rattle.keep_event.specs.declared.table.Record.{Record}
use Rattle.keep_table.specs.Contents.{AreSuperseded}
use Rattle.keep_table.specs.Maps.{standing_as}
use Rattle.keep_table.proofs.Counts.{count-cons, bit, bit-le-1}

-- ---- how many are current

pub none-current : (n : ℕ) (rs : List Record) → list_any (is_of n) rs ≡ false → count_by (is_current_of n) rs ≡ 0
none-current n [] none = refl
none-current n (r ∷ rs) none =
    let parts = or_parts (is_of n r) (list_any (is_of n) rs) none in
    rw (count-cons (is_current_of n) r rs, and_left (is_of n r) (is_current r.standing) parts.0) (let rest = none-current n rs parts.1 in omega arith)

one-cond : (n : ℕ) (b : Bool) (r : Record) (rs : List Record) → is_of n r ≡ b → is_current r.standing ≡ not (list_any (is_of r.collection) rs) → count_by (is_current_of n) rs ≤ 1 → bit (b && is_current r.standing) + count_by (is_current_of n) rs ≤ 1
one-cond n true r rs is here rest =
    let same : r.collection ≡ n = eqb-true r.collection n is in
    let there : is_current r.standing ≡ not (list_any (is_of n) rs) = here ∙ ap (λ k. not (list_any (is_of k) rs)) same in
    later (list_any (is_of n) rs) refl there
  where
    later : (any : Bool) → list_any (is_of n) rs ≡ any → is_current r.standing ≡ not any → bit (is_current r.standing) + count_by (is_current_of n) rs ≤ 1
    later true has e = rw e (omega arith)
    later false has e = let none = none-current n rs has in let most = bit-le-1 (is_current r.standing) in omega arith
one-cond n false r rs is here rest = omega arith

pub one-current : (n : ℕ) (rs : List Record) → AreSuperseded rs → count_by (is_current_of n) rs ≤ 1
one-current n [] h = omega arith
one-current n (r ∷ rs) h = rw (count-cons (is_current_of n) r rs) (one-cond n (is_of n r) r rs refl h.0 (one-current n rs h.1))

-- ---- records that go

-- a collection of which the current record stays is left with a record
any-kept : (n : ℕ) (q : Record → Bool) (rs : List Record) → ((c : Record) → is_of n c ≡ true → is_current c.standing ≡ true → q c ≡ true) → AreSuperseded rs → list_any (is_of n) (filter q rs) ≡ list_any (is_of n) rs
any-kept n q [] stays h = refl
any-kept n q (r ∷ rs) stays h = any-cond (is_of n r) (q r) refl refl (any-kept n q rs stays h.1)
  where
    any-cond : (b t : Bool) → is_of n r ≡ b → q r ≡ t → list_any (is_of n) (filter q rs) ≡ list_any (is_of n) rs → list_any (is_of n) (cond t (r ∷ filter q rs) (filter q rs)) ≡ (b || list_any (is_of n) rs)
    any-cond true true is kept rest = rw is refl
    any-cond true false is kept rest =
        let same : r.collection ≡ n = eqb-true r.collection n is in
        let not_current : is_current r.standing ≡ false = false_from_ne_true (is_current r.standing) (λ e. both_ways (q r) kept (stays r is e)) in
        rest ∙ ap (λ k. list_any (is_of k) rs) (sym same) ∙ not-false (list_any (is_of r.collection) rs) (sym h.0 ∙ not_current)
    any-cond false true is kept rest = rw is rest
    any-cond false false is kept rest = rest

kept-cond : (q : Record → Bool) (b : Bool) (r : Record) (rs : List Record) → (b ≡ true → is_current r.standing ≡ not (list_any (is_of r.collection) rs)) → AreSuperseded rs → AreSuperseded (cond b (r ∷ rs) rs)
kept-cond q true r rs here rest = (here refl, rest)
kept-cond q false r rs here rest = rest

pub superseded-filter : (q : Record → Bool) (rs : List Record) → ((r c : Record) → q r ≡ true → is_of r.collection c ≡ true → is_current c.standing ≡ true → q c ≡ true) → AreSuperseded rs → AreSuperseded (filter q rs)
superseded-filter q [] stays h = tt
superseded-filter q (r ∷ rs) stays h =
    kept-cond q (q r) r (filter q rs) (λ kept. h.0 ∙ ap not (sym (any-kept r.collection q rs (λ c. stays r c kept) h.1))) (superseded-filter q rs stays h.1)

-- ---- a record more

or-none : (b : Bool) → (b || (false || false)) ≡ b
or-none true = refl
or-none false = refl

or-some : (b : Bool) → (b || (true || false)) ≡ true
or-some true = refl
or-some false = refl

-- of a collection that had none
pub superseded-created : (rs : List Record) (row : Record) → is_current row.standing ≡ true → list_any (is_of row.collection) rs ≡ false → AreSuperseded rs → AreSuperseded (rs ++ row ∷ [])
superseded-created [] row e none h = (e, tt)
superseded-created (r ∷ rs) row e none h =
    let parts = or_parts (is_of row.collection r) (list_any (is_of row.collection) rs) none in
    (here (nat_eq row.collection r.collection) refl parts.0, superseded-created rs row e parts.1 h.1)
  where
    here : (b : Bool) → nat_eq row.collection r.collection ≡ b → is_of row.collection r ≡ false → is_current r.standing ≡ not (list_any (is_of r.collection) (rs ++ row ∷ []))
    here true is other = let same : row.collection ≡ r.collection = eqb-true row.collection r.collection is in absurd (both_ways (is_of row.collection r) other (eq-eqb r.collection row.collection (sym same)))
    here false is other = rw (list_any-append (is_of r.collection) rs (row ∷ []), is, or-none (list_any (is_of r.collection) rs)) h.0

-- another standing leaves a record in its collection
any-standing : (k n : ℕ) (standing : Standing) (rs : List Record) → list_any (is_of k) (map (superseded n standing) rs) ≡ list_any (is_of k) rs
any-standing k n standing [] = refl
any-standing k n standing (r ∷ rs) = rw (same (is_current_of n r), any-standing k n standing rs) refl
  where
    same : (b : Bool) → is_of k (cond b (standing_as standing r) r) ≡ is_of k r
    same true = refl
    same false = refl

-- the current one of the collection is superseded
pub superseded-updated : (standing : Standing) (rs : List Record) (row : Record) → is_current standing ≡ false → is_current row.standing ≡ true → AreSuperseded rs → AreSuperseded (map (superseded row.collection standing) rs ++ row ∷ [])
superseded-updated standing [] row other e h = (e, tt)
superseded-updated standing (r ∷ rs) row not_current e h = (here (is_of row.collection r) (is_current r.standing) refl refl, superseded-updated standing rs row not_current e h.1)
  where
    here : (b t : Bool) → is_of row.collection r ≡ b → is_current r.standing ≡ t →
        is_current (cond (b && t) (standing_as standing r) r).standing ≡ not (list_any (is_of (cond (b && t) (standing_as standing r) r).collection) (map (superseded row.collection standing) rs ++ row ∷ []))
    here true true is was =
        let same : r.collection ≡ row.collection = eqb-true r.collection row.collection is in
        rw (list_any-append (is_of r.collection) (map (superseded row.collection standing) rs) (row ∷ []), eq-eqb row.collection r.collection (sym same), or-some (list_any (is_of r.collection) (map (superseded row.collection standing) rs))) not_current
    here true false is was =
        let same : r.collection ≡ row.collection = eqb-true r.collection row.collection is in
        rw (list_any-append (is_of r.collection) (map (superseded row.collection standing) rs) (row ∷ []), eq-eqb row.collection r.collection (sym same), or-some (list_any (is_of r.collection) (map (superseded row.collection standing) rs))) was
    here false t is was =
        let other : nat_eq row.collection r.collection ≡ false = ne_eqb row.collection r.collection (λ e. both_ways (is_of row.collection r) is (eq-eqb r.collection row.collection (sym e))) in
        rw (list_any-append (is_of r.collection) (map (superseded row.collection standing) rs) (row ∷ []), other, or-none (list_any (is_of r.collection) (map (superseded row.collection standing) rs)), any-standing r.collection row.collection standing rs) h.0
