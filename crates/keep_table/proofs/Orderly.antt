-- Records stay in the order of their revisions, the newest of each collection current and the others not.
use Rattle.std.proofs.Common.{◌≡◌, ◌≤◌, ◌<◌, ◌+◌, ℕ, List, [], ◌∷◌, ◌++◌, map, filter, count_by, take, max, Bool, true, false, cond, arith, refl, ap, ◌∙◌, zero, suc, nat_eq, not}
use Rattle.std.specs.Prelude.{nat_lt, Option, None, Some, Ok, Err}
use Rattle.std.specs.List.{find, list_any, AllByRecursion}
use Rattle.std.specs.Option.{option_map_or}
use Rattle.std.proofs.lemmas.Bool.{and_parts, and_from, and_right, ne_eqb, eq-eqb, eqb-true, ltb-true}
use Rattle.keep_event.specs.Table.{State, superseded, is_current_of, is_of, is_current, is_held, is_due, is_due_of, is_gone, goes, outlasts, row_of, rows_above, with_times, collection_of, updatable}
use Rattle.keep_event.specs.declared.table.Record.{Record}
use Rattle.keep_event.specs.declared.table.Collection.{Collection}
use Rattle.keep_event.specs.declared.table.TableAnswer.TheVariants.{NoSuch}
use Rattle.keep_spec.specs.declared.token.TokenId.{TokenId}
use Rattle.keep_event.specs.declared.table.ScanRow.{ScanRow}
use Rattle.keep_event.specs.declared.table.Standing.{Standing}
use Rattle.keep_event.specs.declared.table.Standing.TheVariants.{Current, Kept, Preserved}
use Rattle.keep_table.specs.Contents.{AreOrderly, AreDrawn, IsDrawn, RisesAbove}
use Rattle.keep_table.proofs.Counts.{bit, bit-le-1, count-push, count-filter, count-map}
use Rattle.keep_table.proofs.Newest.{one-current, superseded-created, superseded-filter, superseded-updated}

-- ---- records whose numbers were drawn

more-drawn : (n m n' m' : ℕ) (rs : List Record) → n ≤ n' → m ≤ m' → AllByRecursion (IsDrawn n m) rs → AllByRecursion (IsDrawn n' m') rs
more-drawn n m n' m' [] le le' h = tt
more-drawn n m n' m' (r ∷ rs) le le' h = (
  record { collection = omega (arith, h.0.collection); version = omega (arith, h.0.version); revision = omega (arith, h.0.revision) },
  more-drawn n m n' m' rs le le' h.1,
)

pub all-push : {X : Type 0} (P : X → Type 0) (xs : List X) (x : X) → AllByRecursion P xs → P x → AllByRecursion P (xs ++ x ∷ [])
all-push P [] x h p = (p, tt)
all-push P (y ∷ ys) x h p = (h.0, all-push P ys x h.1 p)

all-kept : {X : Type 0} (P : X → Type 0) (b : Bool) (x : X) (xs : List X) → P x → AllByRecursion P xs → AllByRecursion P (cond b (x ∷ xs) xs)
all-kept P true x xs p h = (p, h)
all-kept P false x xs p h = h

pub all-filter : {X : Type 0} (P : X → Type 0) (q : X → Bool) (xs : List X) → AllByRecursion P xs → AllByRecursion P (filter q xs)
all-filter P q [] h = tt
all-filter P q (x ∷ xs) h = all-kept P (q x) x (filter q xs) h.0 (all-filter P q xs h.1)

-- a record whose standing alone is another
abbrev standing_as : Standing → Record → Record
standing_as standing r = record { collection = r.collection; version = r.version; revision = r.revision; made = r.made; standing = standing }

drawn-standing : (n m : ℕ) (standing : Standing) (b : Bool) (r : Record) → IsDrawn n m r → IsDrawn n m (cond b (standing_as standing r) r)
drawn-standing n m standing true r h = record { collection = h.collection; version = h.version; revision = h.revision }
drawn-standing n m standing false r h = h

drawn-map : (n m number : ℕ) (standing : Standing) (rs : List Record) → AllByRecursion (IsDrawn n m) rs → AllByRecursion (IsDrawn n m) (map (superseded number standing) rs)
drawn-map n m number standing [] h = tt
drawn-map n m number standing (r ∷ rs) h = (drawn-standing n m standing (is_current_of number r) r h.0, drawn-map n m number standing rs h.1)

-- ---- rising revisions

abbrev revisions_of : List Record → List ℕ
revisions_of rs = map (λ r. r.revision) rs

rises-lower : (low low' : ℕ) (ns : List ℕ) → low' ≤ low → RisesAbove low ns → RisesAbove low' ns
rises-lower low low' [] le h = tt
rises-lower low low' (n ∷ ns) le h = (omega (arith, h.0), h.1)

rises-push : (low n m : ℕ) (rs : List Record) (r : Record) → low ≤ m → AllByRecursion (IsDrawn n m) rs → RisesAbove low (revisions_of rs) → m < r.revision → RisesAbove low (revisions_of (rs ++ r ∷ []))
rises-push low n m [] r le d h lt = (omega arith, tt)
rises-push low n m (q ∷ rs) r le d h lt = (h.0, rises-push q.revision n m rs r d.0.revision d.1 h.1 lt)

rises-kept : (low : ℕ) (b : Bool) (r : Record) (rs : List Record) → low < r.revision → RisesAbove r.revision (revisions_of rs) → RisesAbove low (revisions_of (cond b (r ∷ rs) rs))
rises-kept low true r rs lt h = (lt, h)
rises-kept low false r rs lt h = rises-lower r.revision low (revisions_of rs) (omega arith) h

rises-filter : (low : ℕ) (q : Record → Bool) (rs : List Record) → RisesAbove low (revisions_of rs) → RisesAbove low (revisions_of (filter q rs))
rises-filter low q [] h = tt
rises-filter low q (r ∷ rs) h = rises-kept low (q r) r (filter q rs) h.0 (rises-filter r.revision q rs h.1)

revision-standing : (standing : Standing) (b : Bool) (r : Record) → (cond b (standing_as standing r) r).revision ≡ r.revision
revision-standing standing true r = refl
revision-standing standing false r = refl

revisions-map : (number : ℕ) (standing : Standing) (rs : List Record) → revisions_of (map (superseded number standing) rs) ≡ revisions_of rs
revisions-map number standing [] = refl
revisions-map number standing (r ∷ rs) = rw (revision-standing standing (is_current_of number r) r, revisions-map number standing rs) refl

-- ---- current records

-- what is current isn't due
pub current-not-due : (reading : ℕ) (s : Standing) → is_current s ≡ true → is_due reading s ≡ false
current-not-due reading Current e = refl
current-not-due reading (Kept until) e = absurd (cc)
current-not-due reading Preserved e = refl

-- a collection of the next number has no record
pub none-of-next : (n m number : ℕ) (rs : List Record) → n < number → AllByRecursion (IsDrawn n m) rs → list_any (is_of number) rs ≡ false
none-of-next n m number [] lt h = refl
none-of-next n m number (r ∷ rs) lt h = rw (ne_eqb r.collection number (λ e. omega (arith, h.0.collection))) (none-of-next n m number rs lt h.1)

-- where a record outlasts a sweep, so does the current one of its collection
pub outlasts-together : (reading : ℕ) (xs : List Collection) (r c : Record) → outlasts reading xs r ≡ true → is_of r.collection c ≡ true → is_current c.standing ≡ true → outlasts reading xs c ≡ true
outlasts-together reading xs r c stays of current =
    let same : c.collection ≡ r.collection = eqb-true c.collection r.collection of in
    let parts = and_parts (not (goes reading xs r)) (not (is_due reading r.standing)) stays in
    rw (current-not-due reading c.standing current) (and_from (not (goes reading xs c)) true (ap (λ (k : ℕ). not (option_map_or (is_gone reading) (find (λ x. nat_eq x.number k) xs) false)) same ∙ parts.0) refl)

-- an update takes no current record out
pub update-keeps-current : (reading number : ℕ) (c : Record) → is_current c.standing ≡ true → not (is_due_of reading number c) ≡ true
update-keeps-current reading number c current = rw (current-not-due reading c.standing current, and_right (is_of number c) false refl) refl

-- ---- the changes

pub orderly-created : (n m : ℕ) (rs : List Record) (r : Record) → is_current r.standing ≡ true → r.collection ≡ n + 1 → r.version ≤ m + 1 → r.revision ≡ m + 1 → AreOrderly n m rs → AreOrderly (n + 1) (m + 1) (rs ++ r ∷ [])
orderly-created n m rs r current c v e h = record {
  rising = rises-push 0 n m rs r (omega arith) h.drawn h.rising (omega arith);
  drawn = all-push (IsDrawn (n + 1) (m + 1)) rs r (more-drawn n m (n + 1) (m + 1) rs (omega arith) (omega arith) h.drawn) (record { collection = omega arith; version = v; revision = omega arith });
  superseded = superseded-created rs r current (none-of-next n m r.collection rs (omega arith) h.drawn) h.superseded;
}

-- records of which the current ones stay with the others of their collection
pub orderly-filter : (n m : ℕ) (q : Record → Bool) (rs : List Record) → ((r c : Record) → q r ≡ true → is_of r.collection c ≡ true → is_current c.standing ≡ true → q c ≡ true) → AreOrderly n m rs → AreOrderly n m (filter q rs)
orderly-filter n m q rs stays h = record {
  rising = rises-filter 0 q rs h.rising;
  drawn = all-filter (IsDrawn n m) q rs h.drawn;
  superseded = superseded-filter q rs stays h.superseded;
}

-- an update's records: due ones gone, the current one superseded, and a new one
pub orderly-updated : (n m : ℕ) (standing : Standing) (q : Record → Bool) (rs : List Record) (r : Record) → is_current standing ≡ false → is_current r.standing ≡ true → ((c : Record) → is_current c.standing ≡ true → q c ≡ true) →
    r.collection ≤ n → r.version ≤ m + 1 → r.revision ≡ m + 1 → AreOrderly n m rs →
    AreOrderly n (m + 1) (map (superseded r.collection standing) (filter q rs) ++ r ∷ [])
orderly-updated n m standing q rs r other current stays le v e h =
    let kept = orderly-filter n m q rs (λ r c k of is. stays c is) h in
    let drawn = drawn-map n m r.collection standing (filter q rs) kept.drawn in
    record {
      rising = rises-push 0 n m (map (superseded r.collection standing) (filter q rs)) r (omega arith) drawn (rw (revisions-map r.collection standing (filter q rs)) kept.rising) (omega arith);
      drawn = all-push (IsDrawn n (m + 1)) (map (superseded r.collection standing) (filter q rs)) r (more-drawn n m n (m + 1) (map (superseded r.collection standing) (filter q rs)) (omega arith) (omega arith) drawn)
          (record { collection = le; version = v; revision = omega arith });
      superseded = superseded-updated standing (filter q rs) r other current kept.superseded;
    }

-- ---- how many versions an update leaves

held-standing : (reading number : ℕ) (standing : Standing) (r : Record) (b : Bool) → is_current_of number r ≡ b →
    bit (is_held reading number (cond b (standing_as standing r) r)) ≤ bit (is_held reading number r) + bit (is_current_of number r)
held-standing reading number standing r true is = let most = bit-le-1 (is_held reading number (standing_as standing r)) in rw is (omega arith)
held-standing reading number standing r false is = omega arith

current-not-held : (reading number : ℕ) (r : Record) → is_current r.standing ≡ true → is_held reading number r ≡ false
current-not-held reading number r e = rw (e, and_right (is_of number r) false refl) refl

-- fewer than so many were held, and what was current joins them
pub held-updated : (n m reading number versions : ℕ) (standing : Standing) (q : Record → Bool) (rs : List Record) (r : Record) → is_current r.standing ≡ true → AreOrderly n m rs →
    count_by (is_held reading number) rs < versions → count_by (is_held reading number) (map (superseded number standing) (filter q rs) ++ r ∷ []) ≤ versions
held-updated n m reading number versions standing q rs r e h few =
    let changed = count-map (is_held reading number) (is_held reading number) (is_current_of number) (superseded number standing) (filter q rs) (λ x. held-standing reading number standing x (is_current_of number x) refl) in
    let held = count-filter (is_held reading number) q rs in
    let current = count-filter (is_current_of number) q rs in
    let one = one-current number rs h.superseded in
    rw (count-push (is_held reading number) (map (superseded number standing) (filter q rs)) r, current-not-held reading number r e) (omega arith)

-- ---- scans

abbrev rows_rise : ℕ → List ScanRow → Type 0
rows_rise low rows = RisesAbove low (map (λ r. r.revision) rows)

rows-lower : (low low' : ℕ) (rows : List ScanRow) → low' ≤ low → rows_rise low rows → rows_rise low' rows
rows-lower low low' rows le h = rises-lower low low' (map (λ r. r.revision) rows) le h

row-kept : (low after : ℕ) (b : Bool) (r : Record) (rows : List ScanRow) → low < r.revision → nat_lt after r.revision ≡ b → rows_rise (max after r.revision) rows → rows_rise (max after low) (cond b (row_of r ∷ rows) rows)
row-kept low after true r rows lt is h = let above = ltb-true after r.revision is in (omega arith, rows-lower (max after r.revision) r.revision rows (omega arith) h)
row-kept low after false r rows lt is h = rows-lower (max after r.revision) (max after low) rows (omega arith) h

-- the rows above a revision rise from it on
rows-rise : (low after : ℕ) (rs : List Record) → RisesAbove low (revisions_of rs) → rows_rise (max after low) (rows_above after rs)
rows-rise low after [] h = tt
rows-rise low after (r ∷ rs) h = rows-kept-map low after (nat_lt after r.revision) r (filter (λ r. nat_lt after r.revision) rs) h.0 refl (rows-rise r.revision after rs h.1)
  where
    rows-kept-map : (low after : ℕ) (b : Bool) (r : Record) (rs : List Record) → low < r.revision → nat_lt after r.revision ≡ b → rows_rise (max after r.revision) (map row_of rs) → rows_rise (max after low) (map row_of (cond b (r ∷ rs) rs))
    rows-kept-map low after true r rs lt is h = row-kept low after true r (map row_of rs) lt is h
    rows-kept-map low after false r rs lt is h = row-kept low after false r (map row_of rs) lt is h

take-rise : (low n : ℕ) (rows : List ScanRow) → rows_rise low rows → rows_rise low (take n rows)
take-rise low zero rows h = tt
take-rise low (suc n) [] h = tt
take-rise low (suc n) (r ∷ rows) h = (h.0, take-rise r.revision n rows h.1)

pub scan-rises : (n m after limit : ℕ) (rs : List Record) → AreOrderly n m rs → rows_rise after (take limit (rows_above after rs))
scan-rises n m after limit rs h =
    rows-lower (max after 0) after (take limit (rows_above after rs)) (omega arith) (take-rise (max after 0) limit (rows_above after rs) (rows-rise 0 after rs h.rising))

-- ---- collections

pub collections-created : (n : ℕ) (xs : List Collection) (x : Collection) → x.number ≡ n + 1 → AreDrawn n xs → AreDrawn (n + 1) (xs ++ x ∷ [])
collections-created n xs x e h = all-push (λ x. x.number ≤ n + 1) xs x (more n xs h) (omega arith)
  where
    more : (n : ℕ) (xs : List Collection) → AreDrawn n xs → AreDrawn (n + 1) xs
    more n [] h = tt
    more n (x ∷ xs) h = (omega (arith, h.0), more n xs h.1)

pub collections-filter : (n : ℕ) (q : Collection → Bool) (xs : List Collection) → AreDrawn n xs → AreDrawn n (filter q xs)
collections-filter n q xs h = all-filter (λ x. x.number ≤ n) q xs h

number-times : (n number : ℕ) (trash_at delete_at : Option ℕ) (b : Bool) (x : Collection) → x.number ≤ n → (cond b (record { number = x.number; owner = x.owner; trash_at = trash_at; delete_at = delete_at }) x).number ≤ n
number-times n number trash_at delete_at true x h = h
number-times n number trash_at delete_at false x h = h

pub collections-map : (n number : ℕ) (trash_at delete_at : Option ℕ) (xs : List Collection) → AreDrawn n xs → AreDrawn n (map (with_times number trash_at delete_at) xs)
collections-map n number trash_at delete_at [] h = tt
collections-map n number trash_at delete_at (x ∷ xs) h = (number-times n number trash_at delete_at (nat_eq x.number number) x h.0, collections-map n number trash_at delete_at xs h.1)

-- a collection that can be updated has a number that was drawn
found-cond : (n number : ℕ) (b : Bool) (x y : Collection) (rest : Option Collection) → nat_eq x.number number ≡ b → x.number ≤ n → (rest ≡ Some y → number ≤ n) → cond b (Some x) rest ≡ Some y → number ≤ n
found-cond n number true x y rest is le next e = let same : x.number ≡ number = eqb-true x.number number is in omega arith
found-cond n number false x y rest is le next e = next e

found-drawn : (n number : ℕ) (xs : List Collection) (y : Collection) → AreDrawn n xs → find (λ x. nat_eq x.number number) xs ≡ Some y → number ≤ n
found-drawn n number [] y h e = absurd (cc)
found-drawn n number (x ∷ xs) y h e = found-cond n number (nat_eq x.number number) x y (find (λ x. nat_eq x.number number) xs) refl h.0 (λ e. found-drawn n number xs y h.1 e) e

found-of : (n reading : ℕ) (token : TokenId) (number : ℕ) (s : State) (x : Collection) (o : Option Collection) → collection_of number s ≡ o → AreDrawn n s.collections → updatable reading token number s ≡ Ok x → number ≤ n
found-of n reading token number s x None is h e = let refused : updatable reading token number s ≡ Err NoSuch = rw is refl in absurd (cc)
found-of n reading token number s x (Some y) is h e = found-drawn n number s.collections y h is

pub updatable-drawn : (n reading : ℕ) (token : TokenId) (number : ℕ) (s : State) (x : Collection) → AreDrawn n s.collections → updatable reading token number s ≡ Ok x → number ≤ n
updatable-drawn n reading token number s x h e = found-of n reading token number s x (collection_of number s) refl h e

-- ---- numbers that are drawn next

pub records-below : (n m : ℕ) (rs : List Record) → AllByRecursion (IsDrawn n m) rs → AllByRecursion (λ r. r.revision < m + 1) rs
records-below n m [] h = tt
records-below n m (r ∷ rs) h = (omega (arith, h.0.revision), records-below n m rs h.1)

-- a collection that was just added is taken out again
pub collection-undone : (n : ℕ) (xs : List Collection) (x : Collection) → x.number ≡ n + 1 → AreDrawn n xs → filter (λ y. not (nat_eq y.number (n + 1))) (xs ++ x ∷ []) ≡ xs
collection-undone n [] x e h = rw (eq-eqb x.number (n + 1) e) refl
collection-undone n (y ∷ xs) x e h = rw (ne_eqb y.number (n + 1) (λ e. omega (arith, h.0))) (ap (λ ys. y ∷ ys) (collection-undone n xs x e h.1))
