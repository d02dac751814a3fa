-- How many records each collection has: a record that goes or is marked, how many of them are versions, and how many of those are due.
use Rattle.std.proofs.Common.{◌≡◌, ◌<◌, ◌≤◌, ◌+◌, ◌-◌, ◌&&◌, ◌||◌, ℕ, List, [], ◌∷◌, Bool, true, false, cond, not, map, filter, count_by, nat_eq, Option, Some, None, refl, ap, sym, ◌∙◌, arith}
use Rattle.std.specs.Prelude.{nat_le, if◌then◌else◌}
use Rattle.std.specs.List.{find, list_any}
use Rattle.std.proofs.lemmas.Bool.{eqb-true, eq-eqb, or_parts, both_ways, le-leb, lt-leb, leb-false}
use Rattle.keep_event.specs.Table.{is_current, is_due, is_due_of, is_held, is_of}
use Rattle.keep_event.specs.declared.table.Standing.{Standing}
use Rattle.keep_event.specs.declared.table.Standing.TheVariants.{Current, Kept, Preserved}
use Rattle.keep_event.specs.declared.table.Record.{Record}
use Rattle.keep_table.specs.Contents.{RisesAbove, AreSuperseded, is_version_of}
use Rattle.keep_table.specs.Maps.{marked, standing_as, revisions_of}
use Rattle.keep_table.proofs.Counts.{count-cons, bit}
use Rattle.keep_table.proofs.Keyed.{without-none}

-- ---- records that go or are marked

without-cond : (p : Record → Bool) (k : ℕ) (b : Bool) (r row : Record) (rs : List Record) → nat_eq r.revision k ≡ b → RisesAbove r.revision (revisions_of rs) →
    (find (λ r. nat_eq r.revision k) rs ≡ Some row → count_by p (filter (λ r. not (nat_eq r.revision k)) rs) + bit (p row) ≡ count_by p rs) →
    cond b (Some r) (find (λ r. nat_eq r.revision k) rs) ≡ Some row →
    count_by p (cond (not b) (r ∷ filter (λ r. not (nat_eq r.revision k)) rs) (filter (λ r. not (nat_eq r.revision k)) rs)) + bit (p row) ≡ count_by p (r ∷ rs)
without-cond p k true r row rs is rises rest e =
    let same : row ≡ r = cc in
    let at : r.revision ≡ k = eqb-true r.revision k is in
    rw (same, ← at, without-none (λ r. r.revision) r.revision r.revision rs (omega arith) rises, count-cons p r rs) (omega arith)
without-cond p k false r row rs is rises rest e = let there = rest e in rw (count-cons p r (filter (λ r. not (nat_eq r.revision k)) rs), count-cons p r rs) (omega arith)

-- a record that goes is counted no longer
pub count-without : (p : Record → Bool) (k low : ℕ) (rs : List Record) (row : Record) → RisesAbove low (revisions_of rs) → find (λ r. nat_eq r.revision k) rs ≡ Some row →
    count_by p (filter (λ r. not (nat_eq r.revision k)) rs) + bit (p row) ≡ count_by p rs
count-without p k low [] row rises e = absurd (cc)
count-without p k low (r ∷ rs) row rises e = without-cond p k (nat_eq r.revision k) r row rs refl rises.1 (λ e. count-without p k r.revision rs row rises.1 e) e

-- the record that goes was counted
pub some-size : (k : ℕ) (rs : List Record) (row : Record) → RisesAbove 0 (revisions_of rs) → find (λ r. nat_eq r.revision k) rs ≡ Some row → 0 < count_by (is_of row.collection) rs
some-size k rs row rises e =
    let sum = count-without (is_of row.collection) k 0 rs row rises e in
    let own : bit (is_of row.collection row) ≡ 1 = ap bit (eq-eqb row.collection row.collection refl) in
    omega arith

of-standing : (n : ℕ) (standing : Standing) (b : Bool) (r : Record) → is_of n (cond b (standing_as standing r) r) ≡ is_of n r
of-standing n standing true r = refl
of-standing n standing false r = refl

pub size-marked : (n k : ℕ) (standing : Standing) (rs : List Record) → count_by (is_of n) (map (marked k standing) rs) ≡ count_by (is_of n) rs
size-marked n k standing [] = refl
size-marked n k standing (r ∷ rs) = rw (count-cons (is_of n) (marked k standing r) (map (marked k standing) rs), count-cons (is_of n) r rs, of-standing n standing (nat_eq r.revision k) r, size-marked n k standing rs) refl

-- ---- how many are versions

pub any-count : {X : Type 0} (p : X → Bool) (xs : List X) → list_any p xs ≡ true → 0 < count_by p xs
any-count p [] e = absurd (cc)
any-count p (x ∷ xs) e = rw (count-cons p x xs) (here (p x) e (λ e. any-count p xs e))
  where
    here : (b : Bool) → (b || list_any p xs) ≡ true → (list_any p xs ≡ true → 0 < count_by p xs) → 0 < bit b + count_by p xs
    here true e rest = omega arith
    here false e rest = let more = rest e in omega arith

pub none-count : {X : Type 0} (p : X → Bool) (xs : List X) → list_any p xs ≡ false → count_by p xs ≡ 0
none-count p [] e = refl
none-count p (x ∷ xs) e = let parts = or_parts (p x) (list_any p xs) e in rw (count-cons p x xs, parts.0, none-count p xs parts.1) refl

-- all records of a collection but the current one are versions
versions-and : (n : ℕ) (rs : List Record) → AreSuperseded rs → count_by (is_version_of n) rs + bit (list_any (is_of n) rs) ≡ count_by (is_of n) rs
versions-and n [] h = refl
versions-and n (r ∷ rs) h = rw (count-cons (is_version_of n) r rs, count-cons (is_of n) r rs) (here (is_of n r) refl (versions-and n rs h.1))
  where
    there : (t : Bool) → is_current r.standing ≡ t → not t ≡ list_any (is_of n) rs → count_by (is_version_of n) rs + bit (list_any (is_of n) rs) ≡ count_by (is_of n) rs →
        bit (not (is_current r.standing)) + count_by (is_version_of n) rs + 1 ≡ 1 + count_by (is_of n) rs
    there true is e rest = rw is (let none : bit (list_any (is_of n) rs) ≡ 0 = ap bit (sym e) in omega arith)
    there false is e rest = rw is (let some : bit (list_any (is_of n) rs) ≡ 1 = ap bit (sym e) in omega arith)

    not-swap : (t u : Bool) → t ≡ not u → not t ≡ u
    not-swap true true e = absurd (both_ways true e refl)
    not-swap true false e = refl
    not-swap false true e = refl
    not-swap false false e = sym e

    here : (b : Bool) → is_of n r ≡ b → count_by (is_version_of n) rs + bit (list_any (is_of n) rs) ≡ count_by (is_of n) rs →
        bit (b && not (is_current r.standing)) + count_by (is_version_of n) rs + bit (b || list_any (is_of n) rs) ≡ bit b + count_by (is_of n) rs
    here true is rest =
        let same : r.collection ≡ n = eqb-true r.collection n is in
        there (is_current r.standing) refl (not-swap (is_current r.standing) (list_any (is_of n) rs) (h.0 ∙ ap (λ k. not (list_any (is_of k) rs)) same)) rest
    here false is rest = omega arith

pub versions-are : (n size : ℕ) (rs : List Record) → AreSuperseded rs → size ≡ count_by (is_of n) rs → size - 1 ≡ count_by (is_version_of n) rs
versions-are n size rs h e = split (list_any (is_of n) rs) refl
  where
    split : (b : Bool) → list_any (is_of n) rs ≡ b → size - 1 ≡ count_by (is_version_of n) rs
    split true is = let sum = versions-and n rs h in let one : bit (list_any (is_of n) rs) ≡ 1 = ap bit is in omega arith
    split false is = let sum = versions-and n rs h in let none = none-count (is_of n) rs is in let zero : bit (list_any (is_of n) rs) ≡ 0 = ap bit is in omega arith

-- ---- versions that are due, and the others

parts : (reading : ℕ) (b : Bool) (s : Standing) → bit (b && not (is_current s)) ≡ bit (b && not (is_current s) && not (is_due reading s)) + bit (b && is_due reading s)
parts reading true Current = refl
parts reading true (Kept until) = due (is_due reading (Kept until))
  where
    due : (t : Bool) → 1 ≡ bit (not t) + bit t
    due true = refl
    due false = refl
parts reading true Preserved = refl
parts reading false s = refl

pub held-and-due : (reading n : ℕ) (rs : List Record) → count_by (is_version_of n) rs ≡ count_by (is_held reading n) rs + count_by (is_due_of reading n) rs
held-and-due reading n [] = refl
held-and-due reading n (r ∷ rs) =
    let here = parts reading (is_of n r) r.standing in
    let rest = held-and-due reading n rs in
    rw (count-cons (is_version_of n) r rs, count-cons (is_held reading n) r rs, count-cons (is_due_of reading n) r rs) (omega arith)

-- where none is due, all versions are held
pub all-held : (reading n : ℕ) (rs : List Record) → list_any (is_due_of reading n) rs ≡ false → count_by (is_version_of n) rs ≡ count_by (is_held reading n) rs
all-held reading n rs none = let sum = held-and-due reading n rs in let due = none-count (is_due_of reading n) rs none in omega arith

-- where one is due, or the versions are fewer, those that are held are fewer
pub held-fewer : (reading n versions : ℕ) (rs : List Record) (due : Bool) → list_any (is_due_of reading n) rs ≡ due → count_by (is_version_of n) rs ≤ versions → (due ≡ false → count_by (is_version_of n) rs < versions) →
    count_by (is_held reading n) rs < versions
held-fewer reading n versions rs true is most less = let sum = held-and-due reading n rs in let some = any-count (is_due_of reading n) rs is in omega arith
held-fewer reading n versions rs false is most less = let sum = held-and-due reading n rs in let fewer = less refl in omega arith

-- ---- whether they are too many

pub too-many : (held versions count : ℕ) → count ≡ held → versions ≤ count → Some count ≡ (if nat_le versions held then Some held else None)
too-many held versions count e most = rw (le-leb versions held (omega arith), e) refl

pub not-too-many : (held versions : ℕ) → held < versions → None ≡ (if nat_le versions held then Some held else None)
not-too-many held versions few = rw (lt-leb versions held few) refl

few-cond : (held versions : ℕ) (b : Bool) → nat_le versions held ≡ b → None ≡ cond b (Some held) None → held < versions
few-cond held versions true is e = absurd (cc)
few-cond held versions false is e = leb-false versions held is

pub few-held : (held versions : ℕ) (found : Option ℕ) → found ≡ (if nat_le versions held then Some held else None) → found ≡ None → held < versions
few-held held versions found is none = few-cond held versions (nat_le versions held) refl (sym none ∙ is)
