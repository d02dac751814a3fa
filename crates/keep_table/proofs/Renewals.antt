-- A record that becomes the current one of its collection, after those that are due are gone.
use Rattle.std.proofs.Common.{◌≡◌, ◌<◌, ◌≤◌, ◌+◌, ◌++◌, ◌&&◌, ◌||◌, ℕ, List, [], ◌∷◌, Bool, true, false, cond, not, map, filter, count_by, nat_eq, Option, Some, None, refl, ap, sym, ◌∙◌, arith}
use Rattle.std.specs.Prelude.{nat_lt}
use Rattle.std.specs.List.{find, AllByRecursion}
use Rattle.std.specs.Option.{option_map_or}
use Rattle.std.proofs.lemmas.Bool.{ne_eqb, eq-eqb, and_right, and_parts, or_right, le-ltb}
use Rattle.std.proofs.lemmas.List.{map-append}
use Rattle.std.proofs.lemmas.List.Elements.{filter-append}
use Rattle.keep_spec.specs.Times.{grace}
use Rattle.keep_event.specs.Table.{is_current, is_current_of, is_due, is_due_of, is_of, superseded, kept_until}
use Rattle.keep_event.specs.declared.table.TableRules.{TableRules}
use Rattle.keep_event.specs.declared.table.Standing.{Standing}
use Rattle.keep_event.specs.declared.table.Standing.TheVariants.{Current, Kept, Preserved}
use Rattle.keep_event.specs.declared.table.Record.{Record}
use Rattle.keep_table.specs.Contents.{RisesAbove}
use Rattle.keep_table.specs.Maps.{marked, standing_as, revisions_of, AreCurrentAt}
use Rattle.keep_table.proofs.Counts.{count-cons, bit}
use Rattle.keep_table.proofs.Steps.{found-above}

-- the revision of a collection's current record, or 0
abbrev pub current_revision : ℕ → List Record → ℕ
current_revision n rs = option_map_or (λ r. r.revision) (find (is_current_of n) rs) 0

-- a record is the current one exactly if it has the revision
abbrev pub AreMarkedAt : ℕ → ℕ → List Record → Type 0
AreMarkedAt n v rs = AllByRecursion (λ r. nat_eq r.revision v ≡ is_current_of n r) rs

none-marked : (n v low : ℕ) (rs : List Record) → v ≤ low → RisesAbove low (revisions_of rs) → count_by (is_current_of n) rs ≡ 0 → AreMarkedAt n v rs
none-marked n v low [] le h none = tt
none-marked n v low (r ∷ rs) le h none = none-cond n v (is_current_of n r) r rs refl (omega (arith, h.0)) (rw (← count-cons (is_current_of n) r rs) none) (λ rest. none-marked n v r.revision rs (omega (arith, h.0)) h.1 rest)
  where
    none-cond : (n v : ℕ) (b : Bool) (r : Record) (rs : List Record) → is_current_of n r ≡ b → v < r.revision → bit b + count_by (is_current_of n) rs ≡ 0 → (count_by (is_current_of n) rs ≡ 0 → AreMarkedAt n v rs) → AreMarkedAt n v (r ∷ rs)
    none-cond n v true r rs is lt none rest = absurd (omega arith)
    none-cond n v false r rs is lt none rest = (ne_eqb r.revision v (λ e. omega arith) ∙ sym is, rest (omega arith))

above-current : (n low : ℕ) (o : Option Record) (rs : List Record) (r : Record) → find (is_current_of n) rs ≡ o → low < r.revision → RisesAbove r.revision (revisions_of rs) → nat_eq r.revision (option_map_or (λ r. r.revision) o 0) ≡ false
above-current n low None rs r is lt h = ne_eqb r.revision 0 (λ e. omega arith)
above-current n low (Some y) rs r is lt h = let more = found-above (λ (r : Record). r.revision) (is_current_of n) r.revision rs y h is in ne_eqb r.revision y.revision (λ e. omega arith)

marked-cond : (n low : ℕ) (b : Bool) (r : Record) (rs : List Record) → is_current_of n r ≡ b → low < r.revision → RisesAbove r.revision (revisions_of rs) → bit b + count_by (is_current_of n) rs ≤ 1 →
    (count_by (is_current_of n) rs ≤ 1 → AreMarkedAt n (current_revision n rs) rs) → AreMarkedAt n (option_map_or (λ r. r.revision) (cond b (Some r) (find (is_current_of n) rs)) 0) (r ∷ rs)
marked-cond n low true r rs is lt h one rest = (eq-eqb r.revision r.revision refl ∙ sym is, none-marked n r.revision r.revision rs (omega arith) h (omega arith))
marked-cond n low false r rs is lt h one rest = (above-current n low (find (is_current_of n) rs) rs r refl lt h ∙ sym is, rest (omega arith))

pub current-marked : (n low : ℕ) (rs : List Record) → RisesAbove low (revisions_of rs) → count_by (is_current_of n) rs ≤ 1 → AreMarkedAt n (current_revision n rs) rs
current-marked n low [] h one = tt
current-marked n low (r ∷ rs) h one = marked-cond n low (is_current_of n r) r rs refl h.0 h.1 (rw (← count-cons (is_current_of n) r rs) one) (λ one. current-marked n r.revision rs h.1 one)

kept-marked : (n v : ℕ) (b : Bool) (r : Record) (rs : List Record) → nat_eq r.revision v ≡ is_current_of n r → AreMarkedAt n v rs → AreMarkedAt n v (cond b (r ∷ rs) rs)
kept-marked n v true r rs e h = (e, h)
kept-marked n v false r rs e h = h

filter-marked : (n v : ℕ) (q : Record → Bool) (rs : List Record) → AreMarkedAt n v rs → AreMarkedAt n v (filter q rs)
filter-marked n v q [] h = tt
filter-marked n v q (r ∷ rs) h = kept-marked n v (q r) r (filter q rs) h.0 (filter-marked n v q rs h.1)

marks-supersede : (n v : ℕ) (standing : Standing) (rs : List Record) → AreMarkedAt n v rs → map (marked v standing) rs ≡ map (superseded n standing) rs
marks-supersede n v standing [] h = refl
marks-supersede n v standing (r ∷ rs) h = rw (h.0, marks-supersede n v standing rs h.1) refl

not-due : (reading : ℕ) (s : Standing) → is_current s ≡ true → is_due reading s ≡ false
not-due reading Current e = refl
not-due reading (Kept until) e = absurd (cc)
not-due reading Preserved e = refl

-- the current record comes before a newer one
found-below : (q : Record → Bool) (v : ℕ) (rs : List Record) → 0 < v → AllByRecursion (λ r. r.revision < v) rs → option_map_or (λ r. r.revision) (find q rs) 0 < v
found-below q v [] pos h = pos
found-below q v (r ∷ rs) pos h = below-cond (q r) v r (find q rs) h.0 (found-below q v rs pos h.1)
  where
    below-cond : (b : Bool) (v : ℕ) (r : Record) (rest : Option Record) → r.revision < v → option_map_or (λ r. r.revision) rest 0 < v → option_map_or (λ r. r.revision) (cond b (Some r) rest) 0 < v
    below-cond true v r rest h more = h
    below-cond false v r rest h more = more

last-kept : (reading v : ℕ) (standing : Standing) (row : Record) → is_current row.standing ≡ true → v < row.revision → map (marked v standing) (filter (λ r. not (is_due_of reading row.collection r)) (row ∷ [])) ≡ row ∷ []
last-kept reading v standing row e lt = rw (not-due reading row.standing e, and_right (is_of row.collection row) false refl, ne_eqb row.revision v (λ e. omega arith)) refl

pub renewed : (reading : ℕ) (standing : Standing) (rs : List Record) (row : Record) → is_current row.standing ≡ true → 0 < row.revision → AllByRecursion (λ r. r.revision < row.revision) rs → RisesAbove 0 (revisions_of rs) → count_by (is_current_of row.collection) rs ≤ 1 →
    map (marked (current_revision row.collection rs) standing) (filter (λ r. not (is_due_of reading row.collection r)) (rs ++ row ∷ [])) ≡ map (superseded row.collection standing) (filter (λ r. not (is_due_of reading row.collection r)) rs) ++ row ∷ []
renewed reading standing rs row e pos newest h one =
    let n = row.collection in
    let q : Record → Bool = λ r. not (is_due_of reading row.collection r) in
    let v = current_revision row.collection rs in
    ap (λ xs. map (marked v standing) xs) (filter-append q rs (row ∷ [])) ∙ map-append (marked v standing) (filter q rs) (filter q (row ∷ []))
    ∙ ap (λ xs. xs ++ map (marked v standing) (filter q (row ∷ []))) (marks-supersede n v standing (filter q rs) (filter-marked n v q rs (current-marked n 0 rs h one)))
    ∙ ap (λ xs. map (superseded n standing) (filter q rs) ++ xs) (last-kept reading v standing row e (found-below (is_current_of n) row.revision rs pos newest))

-- ---- the record that is marked

current-where : (b c t : Bool) → b ≡ (c && t) → (not b || t) ≡ true
current-where true c t e = (and_parts c t (sym e)).1
current-where false c t e = refl

pub marked-current : (n v : ℕ) (rs : List Record) (row : Record) → is_current row.standing ≡ true → AreMarkedAt n v rs → AreCurrentAt v (rs ++ row ∷ [])
marked-current n v [] row e h = (or_right (not (nat_eq row.revision v)) (is_current row.standing) e, tt)
marked-current n v (r ∷ rs) row e h = (current-where (nat_eq r.revision v) (is_of n r) (is_current r.standing) h.0, marked-current n v rs row e h.1)

-- a mark of a standing that isn't due changes nothing of what is due
pub due-marked : (reading n v : ℕ) (standing : Standing) (rs : List Record) → is_due reading standing ≡ false → AreCurrentAt v rs →
    filter (λ r. not (is_due_of reading n r)) (map (marked v standing) rs) ≡ map (marked v standing) (filter (λ r. not (is_due_of reading n r)) rs)
due-marked reading n v standing [] later h = refl
due-marked reading n v standing (r ∷ rs) later h = rw (same (nat_eq r.revision v) h.0, due-marked reading n v standing rs later h.1) (kept (not (is_due_of reading n r)) (filter (λ r. not (is_due_of reading n r)) rs))
  where
    same : (b : Bool) → (not b || is_current r.standing) ≡ true → is_due_of reading n (cond b (standing_as standing r) r) ≡ is_due_of reading n r
    same true current = rw (later, not-due reading r.standing current) refl
    same false current = refl

    kept : (b : Bool) (xs : List Record) → cond b (marked v standing r ∷ map (marked v standing) xs) (map (marked v standing) xs) ≡ map (marked v standing) (cond b (r ∷ xs) xs)
    kept true xs = refl
    kept false xs = refl

-- a record that was just added is taken out again
pub renewal-undone : (rs : List Record) (row : Record) → AllByRecursion (λ r. r.revision < row.revision) rs → filter (λ r. not (nat_eq r.revision row.revision)) (rs ++ row ∷ []) ≡ rs
renewal-undone [] row h = rw (eq-eqb row.revision row.revision refl) refl
renewal-undone (r ∷ rs) row h = rw (ne_eqb r.revision row.revision (λ e. omega (arith, h.0))) (ap (λ xs. r ∷ xs) (renewal-undone rs row h.1))

past : (reading more : ℕ) → nat_lt (reading + more) reading ≡ false
past reading more = le-ltb (reading + more) reading (omega arith)

-- what is kept is kept to the reading and past it
pub kept-later : (rules : TableRules) (reading : ℕ) (preserve : Bool) → is_due reading (kept_until rules reading preserve) ≡ false
kept-later rules reading true = refl
kept-later rules reading false = past reading (grace rules.ttl rules.skew)
