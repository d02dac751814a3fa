-- The scans of a round give each row that is held when they end: `scanned-given`, `asked-given`; of more rows more copies are wanted: `wanted-more`.
use Rattle.std.proofs.Common.{◌≡◌, ◌≤◌, ◌<◌, ◌+◌, ℕ, zero, suc, List, [], ◌∷◌, ◌++◌, map, filter, take, length, Bool, true, false, ◌&&◌, ◌||◌, refl, sym, ◌∙◌, ap, subst, Option, None, Some, unwrap_or, is_none, arith, inl, inr, nat_eq, if◌then◌else◌}
use Rattle.std.specs.Prelude.{◌⊎◌, nat_lt, nat_le, ⊤}
use Rattle.std.specs.List.{last_or, list_any}
use Rattle.std.specs.Option.{option_map_or}
use Rattle.std.specs.Str.{bytes_eq}
use Rattle.std.proofs.lemmas.Bool.{eqb-true, leb-true, lt-ltb, and_parts, cases_lt}
use Rattle.keep_spec.specs.Config.{Configuration}
use Rattle.keep_event.specs.Requests.{made_of}
use Rattle.keep_event.specs.Table as tables
use Rattle.keep_event.specs.Table.{State, rows_above, row_of}
use Rattle.keep_event.specs.Plan as plan
use Rattle.keep_event.specs.Plan.{gathered_rows, reached, wanted_in}
use Rattle.keep_event.specs.declared.device.DeviceQuery.{DeviceQuery}
use Rattle.keep_event.specs.declared.device.DeviceQuery.TheVariants as DQ
use Rattle.keep_event.specs.declared.device.DeviceAnswer.{DeviceAnswer}
use Rattle.keep_event.specs.declared.device.DeviceAnswer.TheVariants as D
use Rattle.keep_event.specs.declared.table.Record.{Record}
use Rattle.keep_event.specs.declared.table.ScanRow.{ScanRow}
use Rattle.keep_event.specs.declared.table.NewRecord.{NewRecord}
use Rattle.keep_event.specs.declared.table.TableQuery.{TableQuery}
use Rattle.keep_event.specs.declared.table.TableQuery.TheVariants as TQ
use Rattle.keep_event.specs.declared.table.TableAnswer.{TableAnswer}
use Rattle.keep_event.specs.declared.table.TableAnswer.TheVariants as T
use Rattle.keep_event.specs.declared.event.Event.{Event}
use Rattle.keep_event.specs.declared.event.Query.{Query}
use Rattle.keep_event.specs.declared.event.Query.TheVariants as Q
use Rattle.keep_event.specs.declared.event.Answer.{Answer}
use Rattle.keep_event.specs.declared.event.Answer.TheVariants as A
use Rattle.keep_table.specs.Contents.{RisesAbove, IsDrawn}
use Rattle.keep_table.proofs.Orderly.{scan-rises}
use Rattle.keep_safety.specs.Allowed.{IsAllowed}
use Rattle.keep_spec.specs.Members.{IsIn, names}
use Rattle.keep_safety.specs.Past.{Past, table_after, IsAnswered}
use Rattle.keep_history.specs.Rounds.{Round, gave, device_gave, with_scan, with_started, with_cleared, with_page}
use Rattle.keep_safety.specs.Rounds.{round_in, AreChained, AreWhole}
use Rattle.keep_safety.specs.Rows.{Row, rows, rows_after, rows_made, makes, scan_row, is_last_scan, first_of_two, scanned, asked, stays_at_update, stays_at_sweep, superseded_by, new_row}
use Rattle.keep_order.proofs.Lists.{in-map, map-in, in-filter, filter-in, in-either, in-left, in-right, all-at}
use Rattle.keep_safety.proofs.Names.{bytes-eq}
use Rattle.keep_safety.proofs.Tables.{TableFacts, table-facts, record_of, row_if}

-- ---- numbers that rise, and the last of the first few
ending : ℕ → List ℕ → ℕ
ending low [] = low
ending low (n ∷ ns) = ending n ns

some-ending : (a d : ℕ) (ns : List ℕ) → unwrap_or (last_or (Some a) ns) d ≡ ending a ns
unfolding ending
some-ending a d [] = refl
some-ending a d (n ∷ ns) = some-ending n d ns

none-ending : (low : ℕ) (ns : List ℕ) → unwrap_or (last_or None ns) low ≡ ending low ns
unfolding ending
none-ending low [] = refl
none-ending low (n ∷ ns) = some-ending n low ns

ending-low : (low bound : ℕ) (ns : List ℕ) → low ≤ bound → ((n : ℕ) → IsIn n ns → n ≤ bound) → ending low ns ≤ bound
unfolding ending
ending-low low bound [] le h = le
ending-low low bound (n ∷ ns) le h = ending-low n bound ns (h n (inl refl)) (λ m i. h m (inr i))

abbrev revisions : List ScanRow → List ℕ
revisions xs = map (λ x. x.revision) xs

above-low : (low : ℕ) (xs : List ScanRow) (x : ScanRow) → RisesAbove low (revisions xs) → IsIn x xs → low < x.revision
above-low low [] x h i = absurd i
above-low low (y ∷ ys) x h (inl e) = subst (λ (v : ScanRow). low < v.revision) (sym e) h.0
above-low low (y ∷ ys) x h (inr i) = let later = above-low y.revision ys x h.1 i in omega (arith, h.0)

-- what isn't above the last of the first few is among them
among-first : (n low : ℕ) (xs : List ScanRow) (x : ScanRow) → RisesAbove low (revisions xs) → IsIn x xs → x.revision ≤ ending low (revisions (take n xs)) → IsIn x (take n xs)
unfolding ending
among-first zero low xs x h i le = absurd (let lt = above-low low xs x h i in omega arith)
among-first (suc n) low [] x h i le = absurd i
among-first (suc n) low (y ∷ ys) x h (inl e) le = inl e
among-first (suc n) low (y ∷ ys) x h (inr i) le = inr (among-first n y.revision ys x h.1 i le)

taken-all : {X : Type 0} (n : ℕ) (xs : List X) → length xs ≤ n → take n xs ≡ xs
taken-all zero [] le = refl
taken-all zero (x ∷ xs) le = absurd (omega arith)
taken-all (suc n) [] le = refl
taken-all (suc n) (x ∷ xs) le = ap (λ v. x ∷ v) (taken-all n xs (omega arith))

in-taken : {X : Type 0} (n : ℕ) (x : X) (xs : List X) → IsIn x (take n xs) → IsIn x xs
in-taken zero x xs i = absurd i
in-taken (suc n) x [] i = absurd i
in-taken (suc n) x (y ∷ ys) (inl e) = inl e
in-taken (suc n) x (y ∷ ys) (inr i) = inr (in-taken n x ys i)

-- ---- the greatest number wanted
wants-here : (h : List ℕ) (r : ScanRow) (rs : List ScanRow) (n : ℕ) → (if names h r.digests then r.want else 0) ≤ n → wanted_in h rs ≤ n → wanted_in h (r ∷ rs) ≤ n
wants-here h r rs n a b = omega arith

wants-member : (h : List ℕ) (x : ScanRow) (xs : List ScanRow) → IsIn x xs → (if names h x.digests then x.want else 0) ≤ wanted_in h xs
wants-member h x [] i = absurd i
wants-member h x (y ∷ ys) (inl e) = (let same : (if names h x.digests then x.want else 0) ≡ (if names h y.digests then y.want else 0) = ap (λ (v : ScanRow). if names h v.digests then v.want else 0) e in omega arith)
wants-member h x (y ∷ ys) (inr i) = let later = wants-member h x ys i in omega arith

pub wanted-more : (h : List ℕ) (xs ys : List ScanRow) → ((x : ScanRow) → IsIn x xs → IsIn x ys) → wanted_in h xs ≤ wanted_in h ys
wanted-more h [] ys f = omega arith
wanted-more h (x ∷ xs) ys f = wants-here h x xs (wanted_in h ys) (wants-member h x ys (f x (inl refl))) (wanted-more h xs ys (λ y i. f y (inr i)))

in-names : (h : List ℕ) (ds : List (List ℕ)) → IsIn h ds → names h ds ≡ true
in-names h [] i = absurd i
in-names h (d ∷ ds) (inl e) = ap (λ b. b || list_any (bytes_eq h) ds) (bytes-eq h d e)
in-names h (d ∷ ds) (inr i) = ap (λ b. bytes_eq h d || b) (in-names h ds i) ∙ or-true (bytes_eq h d)
  where
    or-true : (b : Bool) → (b || true) ≡ true
    or-true true = refl
    or-true false = refl

-- a digest that a row names is wanted as often as the row says
pub wanted-named : (h : List ℕ) (x : ScanRow) (xs : List ScanRow) → IsIn x xs → IsIn h x.digests → x.want ≤ wanted_in h xs
wanted-named h x xs i j = let m = wants-member h x xs i in let e : (if names h x.digests then x.want else 0) ≡ x.want = ap (λ b. if b then x.want else 0) (in-names h x.digests j) in omega arith

-- ---- where a row comes from
pub record ComesFrom (c : Configuration) (past : Past) (q : Query) (a : Answer) (r : Row) : Type 0 where
  pub is : ((o : Row) × IsIn o (rows c past) × (scan_row r ≡ scan_row o)) ⊎ (r.revision ≡ rows_made past + 1)

pub superseded-row : (number reading : ℕ) (preserve : Bool) (r : Row) → scan_row (superseded_by number reading preserve r) ≡ scan_row r
superseded-row number reading preserve r = by (nat_eq r.number number && is_none r.superseded)
  where
    by : (b : Bool) → scan_row (row_if b (record { number = r.number; version = r.version; revision = r.revision; made = r.made; superseded = Some (record { at = reading; preserved = preserve }) }) r) ≡ scan_row r
    by true = refl
    by false = refl

module _ (c : Configuration) (past : Past) (reading : ℕ) (r : Row) where
  same-row : (q : Query) (a : Answer) → IsIn r (rows c past) → ComesFrom c past q a r
  same-row q a i = record { is = inl (r, i, refl) }

  from-save : (q : Query) (a : Answer) (number version : ℕ) (made : NewRecord) → IsIn r (rows c past ++ new_row number version (rows_made past + 1) made ∷ []) → ComesFrom c past q a r
  from-save q a number version made i = by (in-either r (rows c past) (new_row number version (rows_made past + 1) made ∷ []) i)
    where
      by : IsIn r (rows c past) ⊎ IsIn r (new_row number version (rows_made past + 1) made ∷ []) → ComesFrom c past q a r
      by (inl i) = same-row q a i
      by (inr (inl e)) = record { is = inr (ap (λ (v : Row). v.revision) e) }
      by (inr (inr i)) = absurd i

  from-update : (q : Query) (a : Answer) (number version at : ℕ) (preserve : Bool) (made : NewRecord) → IsIn r (map (superseded_by number at preserve) (filter (stays_at_update c at number) (rows c past)) ++ new_row number version (rows_made past + 1) made ∷ []) → ComesFrom c past q a r
  from-update q a number version at preserve made i = by (in-either r (map (superseded_by number at preserve) (filter (stays_at_update c at number) (rows c past))) (new_row number version (rows_made past + 1) made ∷ []) i)
    where
      by : IsIn r (map (superseded_by number at preserve) (filter (stays_at_update c at number) (rows c past))) ⊎ IsIn r (new_row number version (rows_made past + 1) made ∷ []) → ComesFrom c past q a r
      by (inl i) = (let m = in-map (superseded_by number at preserve) r (filter (stays_at_update c at number) (rows c past)) i in
          record { is = inl (m.from, (in-filter (stays_at_update c at number) m.from (rows c past) m.member).0, ap scan_row m.is ∙ superseded-row number at preserve m.from) })
      by (inr (inl e)) = record { is = inr (ap (λ (v : Row). v.revision) e) }
      by (inr (inr i)) = absurd i

  from-table : (q : TableQuery) (a : TableAnswer) → IsIn r (rows_after c past reading (Q.Table q) (A.Table a) (rows c past)) → ComesFrom c past (Q.Table q) (A.Table a) r
  from-table (TQ.Save request) a = by a
    where
      by : (a : TableAnswer) → IsIn r (rows_after c past reading (Q.Table (TQ.Save request)) (A.Table a) (rows c past)) → ComesFrom c past (Q.Table (TQ.Save request)) (A.Table a) r
      by (T.Saved number version portable) i = from-save (Q.Table (TQ.Save request)) (A.Table (T.Saved number version portable)) number version (made_of request) i
      by x i = record { is = inl (r, i, refl) }
  from-table (TQ.Update collection preserve request) a = by a
    where
      by : (a : TableAnswer) → IsIn r (rows_after c past reading (Q.Table (TQ.Update collection preserve request)) (A.Table a) (rows c past)) → ComesFrom c past (Q.Table (TQ.Update collection preserve request)) (A.Table a) r
      by (T.Updated number version portable) i = from-update (Q.Table (TQ.Update collection preserve request)) (A.Table (T.Updated number version portable)) number version reading preserve (made_of request) i
      by x i = record { is = inl (r, i, refl) }
  from-table TQ.Sweep a = by a
    where
      by : (a : TableAnswer) → IsIn r (rows_after c past reading (Q.Table TQ.Sweep) (A.Table a) (rows c past)) → ComesFrom c past (Q.Table TQ.Sweep) (A.Table a) r
      by (T.Swept versions collections) i = record { is = inl (r, (in-filter (stays_at_sweep c past reading) r (rows c past) i).0, refl) }
      by x i = record { is = inl (r, i, refl) }
  from-table _ a = λ i. record { is = inl (r, i, refl) }

  pub comes-from : (q : Query) (a : Answer) → IsIn r (rows_after c past reading q a (rows c past)) → ComesFrom c past q a r
  comes-from (Q.Table q) (A.Table a) = from-table q a
  comes-from (Q.Table q) (A.Device a) = device-answer q
    where
      device-answer : (q : TableQuery) → IsIn r (rows_after c past reading (Q.Table q) (A.Device a) (rows c past)) → ComesFrom c past (Q.Table q) (A.Device a) r
      device-answer (TQ.Save request) i = record { is = inl (r, i, refl) }
      device-answer (TQ.Update collection preserve request) i = record { is = inl (r, i, refl) }
      device-answer TQ.Sweep i = record { is = inl (r, i, refl) }
      device-answer _ i = record { is = inl (r, i, refl) }
  comes-from (Q.Device n q) a = λ i. same-row (Q.Device n q) a i

-- ---- what an event adds to the scans of a round
pub record AddsScan (r : ℕ) (q : Query) (a : Answer) (g : Round) : Type 0 where
  pub after : ℕ
  pub limit : ℕ
  pub rows : List ScanRow
  pub last : Bool
  pub asked : q ≡ Q.Table (TQ.Scan r after limit)
  pub answered : a ≡ A.Table (T.Rows rows last)
  pub scans : (gave r q a g).scans ≡ record { after = after; rows = rows; last = last } ∷ g.scans

abbrev pub round_if : Bool → Round → Round → Round
round_if b x y = if b then x else y

abbrev Scans : ℕ → Query → Answer → Round → Type 0
Scans r q a g = ((gave r q a g).scans ≡ g.scans) ⊎ AddsScan r q a g

scans-if : (b : Bool) (x g : Round) → x.scans ≡ g.scans → (round_if b x g).scans ≡ g.scans
scans-if true x g e = e
scans-if false x g e = refl

device-scans : (r d : ℕ) (q : DeviceQuery) (a : DeviceAnswer) (g : Round) → (device_gave r d q a g).scans ≡ g.scans
device-scans r d (DQ.Clear n) a g = by a
  where
    by : (a : DeviceAnswer) → (device_gave r d (DQ.Clear n) a g).scans ≡ g.scans
    by D.Cleared = scans-if (nat_eq n r) (with_cleared d g) g refl
    by _ = refl
device-scans r d (DQ.Page n prefix) a g = by a
  where
    by : (a : DeviceAnswer) → (device_gave r d (DQ.Page n prefix) a g).scans ≡ g.scans
    by (D.Page entries) = scans-if (nat_eq n r) (with_page (record { device = d; prefix = prefix; entries = entries }) g) g refl
    by _ = refl
device-scans r d _ a g = refl

scan-if : (r n after limit : ℕ) (rows : List ScanRow) (last : Bool) (g : Round) (b : Bool) → nat_eq n r ≡ b → (gave r (Q.Table (TQ.Scan n after limit)) (A.Table (T.Rows rows last)) g) ≡ round_if b (with_scan (record { after = after; rows = rows; last = last }) g) g → Scans r (Q.Table (TQ.Scan n after limit)) (A.Table (T.Rows rows last)) g
scan-if r n after limit rows last g true e is = inr (record {
  after = after;
  limit = limit;
  rows = rows;
  last = last;
  asked = ap (λ m. Q.Table (TQ.Scan m after limit)) (eqb-true n r e);
  answered = refl;
  scans = ap (λ (v : Round). v.scans) is;
})
scan-if r n after limit rows last g false e is = inl (ap (λ (v : Round). v.scans) is)

table-scans : (r : ℕ) (q : TableQuery) (a : TableAnswer) (g : Round) → Scans r (Q.Table q) (A.Table a) g
table-scans r TQ.BeginRound a g = by a
  where
    by : (a : TableAnswer) → Scans r (Q.Table TQ.BeginRound) (A.Table a) g
    by (T.Round n started) = inl (scans-if (nat_eq n r) (with_started started g) g refl)
    by _ = inl refl
table-scans r (TQ.Scan n after limit) a g = by a
  where
    by : (a : TableAnswer) → Scans r (Q.Table (TQ.Scan n after limit)) (A.Table a) g
    by (T.Rows rows last) = scan-if r n after limit rows last g (nat_eq n r) refl refl
    by _ = inl refl
table-scans r _ a g = inl refl

pub adds-scan : (r : ℕ) (q : Query) (a : Answer) (g : Round) → Scans r q a g
adds-scan r (Q.Device d q) (A.Device a) g = inl (device-scans r d q a g)
adds-scan r (Q.Device d q) (A.Table a) g = inl refl
adds-scan r (Q.Table q) (A.Table a) g = table-scans r q a g
adds-scan r (Q.Table q) (A.Device a) g = inl refl

-- ---- scans that go on one from another
abbrev pub AreLinked : List plan.Scan → Type 0
AreLinked [] = ⊤
AreLinked (s ∷ earlier) = (s.after ≡ reached earlier) × AreLinked earlier

chained-linked : (scans : List plan.Scan) → AreChained scans → AreLinked scans
chained-linked [] h = tt
chained-linked (s ∷ earlier) h = (h.1, chained-linked earlier h.2)

pub whole-linked : (scans : List plan.Scan) → AreWhole scans → AreLinked scans
whole-linked [] h = absurd h
whole-linked (s ∷ earlier) h = (h.1, chained-linked earlier h.2)

-- each row up to the last revision that was given was given
pub record Covers (rs : List Row) (made : ℕ) (scans : List plan.Scan) : Type 0 where
  pub low : reached scans ≤ made
  pub given : (x : Row) → IsIn x rs → x.revision ≤ reached scans → IsIn (scan_row x) (gathered_rows scans)

module _ (c : Configuration) (past : Past) (f : TableFacts c past) where
  abbrev t : State
  t = table_after c past

  -- a row above a revision is among the rows that a scan from there on can give
  above-in : (after : ℕ) (x : Row) → IsIn x (rows c past) → after < x.revision → IsIn (scan_row x) (rows_above after t.records)
  above-in after x i lt =
      map-in row_of (record_of c x) (filter (λ r. nat_lt after r.revision) t.records)
      (filter-in (λ (r : Record). nat_lt after r.revision) (record_of c x) t.records (subst (λ v. IsIn (record_of c x) v) (sym f.records) (map-in (record_of c) x (rows c past) i)) (lt-ltb after x.revision lt))

  above-rise : (after : ℕ) → RisesAbove after (revisions (rows_above after t.records))
  above-rise after = subst (λ v. RisesAbove after (revisions v)) (taken-all (length (rows_above after t.records)) (rows_above after t.records) (omega arith)) (scan-rises t.numbers t.revisions after (length (rows_above after t.records)) t.records f.orderly)

  given-low : (after limit : ℕ) (n : ℕ) → IsIn n (revisions (take limit (rows_above after t.records))) → n ≤ rows_made past
  given-low after limit n i =
      let m = in-map (λ (x : ScanRow). x.revision) n (take limit (rows_above after t.records)) i in
      let k = in-map row_of m.from (filter (λ (r : Record). nat_lt after r.revision) t.records) (in-taken limit m.from (rows_above after t.records) m.member) in
      let d = all-at (IsDrawn t.numbers t.revisions) k.from t.records f.orderly.drawn (in-filter (λ (r : Record). nat_lt after r.revision) k.from t.records k.member).0 in
      let e : n ≡ k.from.revision = m.is ∙ ap (λ (x : ScanRow). x.revision) k.is in
      omega (arith, d.revision, f.revisions)

  module _ (earlier : List plan.Scan) (after limit : ℕ) (links : after ≡ reached earlier) (cov : Covers (rows c past) (rows_made past) earlier) where
    abbrev taken : List ScanRow
    taken = take limit (rows_above after t.records)

    scan-covers : (last : Bool) → Covers (rows c past) (rows_made past) (record { after = after; rows = taken; last = last } ∷ earlier)
    scan-covers last = record {
      low = rw (none-ending after (revisions taken)) (ending-low after (rows_made past) (revisions taken) (omega (arith, links, cov.low)) (given-low after limit));
      given = λ x i le. by x i (subst (λ n. x.revision ≤ n) (none-ending after (revisions taken)) le) (cases_lt after x.revision);
    }
      where
        by : (x : Row) → IsIn x (rows c past) → x.revision ≤ ending after (revisions taken) → (after < x.revision) ⊎ (x.revision ≤ after) → IsIn (scan_row x) (taken ++ gathered_rows earlier)
        by x i le (inl lt) = in-left (scan_row x) taken (gathered_rows earlier) (among-first limit after (rows_above after t.records) (scan_row x) (above-rise after) (above-in after x i lt) le)
        by x i le (inr low) = in-right (scan_row x) taken (gathered_rows earlier) (cov.given x i (omega (arith, links)))

    -- where none is left, all were given
    scan-ends : nat_le (length (rows_above after t.records)) limit ≡ true → (x : Row) → IsIn x (rows c past) → IsIn (scan_row x) (taken ++ gathered_rows earlier)
    scan-ends last x i = by (cases_lt after x.revision)
      where
        by : (after < x.revision) ⊎ (x.revision ≤ after) → IsIn (scan_row x) (taken ++ gathered_rows earlier)
        by (inl lt) = in-left (scan_row x) taken (gathered_rows earlier) (subst (λ v. IsIn (scan_row x) v) (sym (taken-all limit (rows_above after t.records) (leb-true (length (rows_above after t.records)) limit last))) (above-in after x i lt))
        by (inr low) = in-right (scan_row x) taken (gathered_rows earlier) (cov.given x i (omega (arith, links)))

-- ---- one event more
module _ (c : Configuration) (past : Past) (r : ℕ) (allowed : IsAllowed c past) (e : Event) (answered : IsAnswered c past e.reading e.query e.answer) where
  abbrev g : Round
  g = round_in r past

  abbrev new : Round
  new = gave r e.query e.answer g

  still-linked : Scans r e.query e.answer g → AreLinked new.scans → AreLinked g.scans
  still-linked (inl same) h = subst AreLinked same h
  still-linked (inr s) h = (subst AreLinked s.scans h).1

  still-given : Scans r e.query e.answer g → (x : ScanRow) → IsIn x (gathered_rows g.scans) → IsIn x (gathered_rows new.scans)
  still-given (inl same) x i = subst (λ v. IsIn x (gathered_rows v)) (sym same) i
  still-given (inr s) x i = subst (λ v. IsIn x (gathered_rows v)) (sym s.scans) (in-right x s.rows (gathered_rows g.scans) i)

  -- the answer to a scan
  scan-answer : (after limit : ℕ) (xs : List ScanRow) (last : Bool) (q : Query) (a : Answer) → q ≡ Q.Table (TQ.Scan r after limit) → a ≡ A.Table (T.Rows xs last) → IsAnswered c past e.reading q a →
      (xs ≡ take limit (rows_above after (table_after c past).records)) × (last ≡ nat_le (length (rows_above after (table_after c past).records)) limit)
  unfolding tables.scan
  scan-answer after limit xs last q a asked is h =
      let k : IsAnswered c past e.reading (Q.Table (TQ.Scan r after limit)) (A.Table (T.Rows xs last)) = subst (λ a. IsAnswered c past e.reading (Q.Table (TQ.Scan r after limit)) a) is (subst (λ q. IsAnswered c past e.reading q a) asked h) in
      (rows-told xs (take limit (rows_above after (table_after c past).records)) last _ k, last-told xs (take limit (rows_above after (table_after c past).records)) last _ k)
    where
      rows-told : (xs ys : List ScanRow) (l m : Bool) → T.Rows xs l ≡ T.Rows ys m → xs ≡ ys
      rows-told xs ys l m e = cc e

      last-told : (xs ys : List ScanRow) (l m : Bool) → T.Rows xs l ≡ T.Rows ys m → l ≡ m
      last-told xs ys l m e = cc e

  scan-rows : (after limit : ℕ) (xs : List ScanRow) (last : Bool) (q : Query) (a : Answer) → q ≡ Q.Table (TQ.Scan r after limit) → rows_after c past e.reading q a (rows c past) ≡ rows c past
  scan-rows after limit xs last q a asked = subst (λ q. rows_after c past e.reading q a (rows c past) ≡ rows c past) (sym asked) (by a)
    where
      by : (a : Answer) → rows_after c past e.reading (Q.Table (TQ.Scan r after limit)) a (rows c past) ≡ rows c past
      by (A.Table a) = refl
      by (A.Device a) = refl

  covers-more : (made : ℕ) (scans : List plan.Scan) (rs : List Row) → rows_made past ≤ made → ((x : Row) → IsIn x rs → ComesFrom c past e.query e.answer x) → Covers (rows c past) (rows_made past) scans → Covers rs made scans
  covers-more made scans rs le from cov = record { low = (let low = cov.low in omega arith); given = λ x i bound. by x bound (from x i).is }
    where
      by : (x : Row) → x.revision ≤ reached scans → ((o : Row) × IsIn o (rows c past) × (scan_row x ≡ scan_row o)) ⊎ (x.revision ≡ rows_made past + 1) → IsIn (scan_row x) (gathered_rows scans)
      by x bound (inl o) = subst (λ v. IsIn v (gathered_rows scans)) (sym o.2) (cov.given o.0 o.1 (omega (arith, bound, ap (λ (v : ScanRow). v.revision) o.2)))
      by x bound (inr is) = absurd (let low = cov.low in omega arith)

  covers-by : Scans r e.query e.answer g → AreLinked new.scans → Covers (rows c past) (rows_made past) g.scans → Covers (rows c past) (rows_made past) new.scans
  covers-by (inl same) h cov = subst (λ v. Covers (rows c past) (rows_made past) v) (sym same) cov
  covers-by (inr s) h cov =
      let linked = subst AreLinked s.scans h in
      let told = scan-answer s.after s.limit s.rows s.last e.query e.answer s.asked s.answered answered in
      subst (λ v. Covers (rows c past) (rows_made past) v) (sym s.scans)
      (subst (λ xs. Covers (rows c past) (rows_made past) (record { after = s.after; rows = xs; last = s.last } ∷ g.scans)) (sym told.0) (scan-covers c past (table-facts c past allowed) g.scans s.after s.limit linked.0 cov s.last))

  covers-next : AreLinked new.scans → Covers (rows c past) (rows_made past) g.scans → Covers (rows c (e ∷ past)) (rows_made (e ∷ past)) new.scans
  covers-next h cov = covers-more (rows_made past + makes e.query e.answer) new.scans (rows c (e ∷ past)) (omega arith) (λ x i. comes-from c past e.reading x e.query e.answer i) (covers-by (adds-scan r e.query e.answer g) h cov)

  -- an event that ends the scans
  ended : AddsScan r e.query e.answer g → AreLinked new.scans → Covers (rows c past) (rows_made past) g.scans → is_last_scan r e.query e.answer ≡ true → (x : Row) → IsIn x (rows c (e ∷ past)) → IsIn (scan_row x) (gathered_rows new.scans)
  ended s h cov last x i =
      let linked = subst AreLinked s.scans h in
      let told = scan-answer s.after s.limit s.rows s.last e.query e.answer s.asked s.answered answered in
      let is_last : s.last ≡ true = is-last s.after s.limit s.rows s.last e.query e.answer s.asked s.answered last in
      subst (λ v. IsIn (scan_row x) (gathered_rows v)) (sym s.scans)
      (subst (λ xs. IsIn (scan_row x) (xs ++ gathered_rows g.scans)) (sym told.0)
      (scan-ends c past (table-facts c past allowed) g.scans s.after s.limit linked.0 cov (sym told.1 ∙ is_last) x (subst (λ v. IsIn x v) (scan-rows s.after s.limit s.rows s.last e.query e.answer s.asked) i)))
    where
      is-last : (after limit : ℕ) (xs : List ScanRow) (l : Bool) (q : Query) (a : Answer) → q ≡ Q.Table (TQ.Scan r after limit) → a ≡ A.Table (T.Rows xs l) → is_last_scan r q a ≡ true → l ≡ true
      is-last after limit xs l q a asked is e = (and_parts (nat_eq r r) l (ap (λ q. is_last_scan r q (A.Table (T.Rows xs l))) (sym asked) ∙ ap (is_last_scan r q) (sym is) ∙ e)).1

  -- only a scan ends them
  no-scan : (q : Query) (a : Answer) → is_last_scan r q a ≡ true → (gave r q a g).scans ≡ g.scans → ⊥
  no-scan (Q.Table (TQ.Scan n after limit)) (A.Table (T.Rows xs last)) l same = longer-list (record { after = after; rows = xs; last = last }) g.scans (sym (ap (λ b. (round_if b (with_scan (record { after = after; rows = xs; last = last }) g) g).scans) (and_parts (nat_eq n r) last l).0) ∙ same)
    where
      longer-list : (s : plan.Scan) (ss : List plan.Scan) → s ∷ ss ≡ ss → ⊥
      longer-list s ss e = let n = ap length e in omega arith
  no-scan _ _ l same = cc l

  ends-by : Scans r e.query e.answer g → AreLinked new.scans → Covers (rows c past) (rows_made past) g.scans → is_last_scan r e.query e.answer ≡ true → (x : Row) → IsIn x (rows c (e ∷ past)) → IsIn (scan_row x) (gathered_rows new.scans)
  ends-by (inl same) h cov last = absurd (no-scan e.query e.answer last same)
  ends-by (inr s) h cov last = ended s h cov last

pub covers : (c : Configuration) (r : ℕ) (past : Past) → IsAllowed c past → AreLinked (round_in r past).scans → Covers (rows c past) (rows_made past) (round_in r past).scans
covers c r [] a h = record { low = omega arith; given = λ x i le. absurd i }
covers c r (e ∷ past) a h = covers-next c past r a.1 e a.0.answered h (covers c r past a.1 (still-linked c past r a.1 e a.0.answered (adds-scan r e.query e.answer (round_in r past)) h))

-- what a round asked for was given by its scans
some-past : (p q : Past) → Some p ≡ Some q → p ≡ q
some-past p q e = cc e

given-by : (c : Configuration) (r : ℕ) (e : Event) (past p : Past) (x : Row) (P : Type 0) (o : Option Past) → scanned r past ≡ o → (b : Bool) → is_last_scan r e.query e.answer ≡ b → first_of_two o b (e ∷ past) ≡ Some p → IsIn x (rows c p) →
    ((p : Past) → scanned r past ≡ Some p → IsIn x (rows c p) → P) → (is_last_scan r e.query e.answer ≡ true → IsIn x (rows c (e ∷ past)) → P) → P
given-by c r e past p x P (Some q) was b last is i earlier here = earlier q was (subst (λ v. IsIn x (rows c v)) (sym (some-past q p is)) i)
given-by c r e past p x P None was true last is i earlier here = here last (subst (λ v. IsIn x (rows c v)) (sym (some-past (e ∷ past) p is)) i)
given-by c r e past p x P None was false last is i earlier here = cc is

pub scanned-given : (c : Configuration) (r : ℕ) (past p : Past) → IsAllowed c past → AreLinked (round_in r past).scans → scanned r past ≡ Some p → (x : Row) → IsIn x (rows c p) → IsIn (scan_row x) (gathered_rows (round_in r past).scans)
scanned-given c r [] p a h is = cc is
scanned-given c r (e ∷ past) p a h is = λ x i. (
    let linked = still-linked c past r a.1 e a.0.answered (adds-scan r e.query e.answer (round_in r past)) h in
    given-by c r e past p x (IsIn (scan_row x) (gathered_rows (round_in r (e ∷ past)).scans)) (scanned r past) refl (is_last_scan r e.query e.answer) refl is i
    (λ p was j. still-given c past r a.1 e a.0.answered (adds-scan r e.query e.answer (round_in r past)) (scan_row x) (scanned-given c r past p a.1 linked was x j))
    (λ last j. ends-by c past r a.1 e a.0.answered (adds-scan r e.query e.answer (round_in r past)) h (covers c r past a.1 linked) last x j))

pub asked-given : (c : Configuration) (r : ℕ) (past : Past) → IsAllowed c past → AreLinked (round_in r past).scans → (x : Row) → IsIn x (asked c r past) → IsIn (scan_row x) (gathered_rows (round_in r past).scans)
asked-given c r past a h x = by (scanned r past) refl
  where
    by : (o : Option Past) → scanned r past ≡ o → IsIn x (option_map_or (rows c) o []) → IsIn (scan_row x) (gathered_rows (round_in r past).scans)
    by None is i = absurd i
    by (Some p) is i = scanned-given c r past p a h is x i
