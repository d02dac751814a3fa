-- How many queries a balance task has still to ask, while nothing else changes the table: each answer of a machine's line makes it fewer, or ends the task.
use Rattle.std.proofs.Common.{◌≡◌, ◌≤◌, ◌<◌, ◌+◌, ℕ, zero, suc, List, [], ◌∷◌, length, map, filter, take, drop, Bool, true, false, cond, refl, sym, ◌∙◌, ap, subst, Option, None, Some, unwrap_or, arith, inl, inr, nat_eq, if◌then◌else◌}
use Rattle.std.specs.Prelude.{◌⊎◌, nat_lt, nat_le, is_some, ◌==◌}
use Rattle.std.specs.List.{last_or}
use Rattle.std.proofs.lemmas.Bool.{eq-eqb, lt-ltb, ltb-true, leb-false}
use Rattle.keep_spec.specs.Config.{Configuration}
use Rattle.keep_event.specs.Device as machine
use Rattle.keep_event.specs.declared.lists.Entry.{Entry}
use Rattle.keep_event.specs.declared.lists.Lists.{Lists}
use Rattle.keep_event.specs.declared.device.DeviceQuery.{DeviceQuery}
use Rattle.keep_event.specs.declared.device.DeviceQuery.TheVariants as DQ
use Rattle.keep_event.specs.declared.device.DeviceAnswer.{DeviceAnswer}
use Rattle.keep_event.specs.declared.device.DeviceAnswer.TheVariants as D
use Rattle.keep_event.specs.declared.table.TableQuery.TheVariants as TQ
use Rattle.keep_event.specs.declared.table.TableAnswer.TheVariants as T
use Rattle.keep_event.specs.declared.event.Query.{Query}
use Rattle.keep_event.specs.declared.event.Query.TheVariants as Q
use Rattle.keep_event.specs.declared.event.Answer.{Answer}
use Rattle.keep_event.specs.declared.event.Answer.TheVariants as A
use Rattle.keep_event.specs.Table as tables
use Rattle.keep_event.specs.Table.{rows_above, row_of}
use Rattle.keep_event.specs.declared.table.Record.{Record}
use Rattle.keep_event.specs.declared.table.ScanRow.{ScanRow}
use Rattle.keep_spec.specs.Members.{IsIn}
use Rattle.keep_safety.specs.Past.{Past, device_after, table_after, table_left_by, IsAnswered}
use Rattle.keep_history.specs.Rounds.{Round, with_started, with_cleared, with_page, with_scan}
use Rattle.keep_event.specs.Plan.{Scan, reached}
use Rattle.keep_order.proofs.Lists.{in-map, in-filter}
use Rattle.keep_history.specs.Balance.{device_numbers, all_pages, page_on, to_clear, to_page, to_accept, number_after, round_after, refusals_after, balance_end, Balancing}
use Rattle.keep_event.specs.Plan.{has_ended}
use Rattle.keep_rounds.specs.Balance.{lists_for, next_of, after_reply}
use Rattle.keep_history.specs.Next.{Answered, asks}
use Rattle.keep_rounds.proofs.Apart.{drop-next}
use Rattle.keep_rounds.proofs.Asked.{Asked, begins, clears, pages, scans, accepts, asked-next}
use Rattle.keep_rounds.proofs.Drawn.{begin-answer}

-- ---- a scan that isn't the last goes on
abbrev is_above : ℕ → Record → Bool
is_above n r = nat_lt n r.revision

fewer-by : (a b : Bool) (x : Record) (xs ys : List Record) → (a ≡ true → b ≡ true) → length xs ≤ length ys → length (cond a (x ∷ xs) xs) ≤ length (cond b (x ∷ ys) ys)
fewer-by true true x xs ys f le = omega arith
fewer-by true false x xs ys f le = cc (f refl)
fewer-by false true x xs ys f le = omega arith
fewer-by false false x xs ys f le = le

above-lower : (m n : ℕ) → m ≤ n → (r : Record) → is_above n r ≡ true → is_above m r ≡ true
above-lower m n le r e = (let lt = ltb-true n r.revision e in lt-ltb m r.revision (omega arith))

fewer-above : (m n : ℕ) → m ≤ n → (rs : List Record) → length (filter (is_above n) rs) ≤ length (filter (is_above m) rs)
fewer-above m n le [] = omega arith
fewer-above m n le (r ∷ rs) = fewer-by (is_above n r) (is_above m r) r (filter (is_above n) rs) (filter (is_above m) rs) (above-lower m n le r) (fewer-above m n le rs)

strict-by : (a b : Bool) (x : Record) (xs ys : List Record) → (a ≡ true → b ≡ true) → length xs < length ys → length (cond a (x ∷ xs) xs) < length (cond b (x ∷ ys) ys)
strict-by true true x xs ys f lt = omega arith
strict-by true false x xs ys f lt = cc (f refl)
strict-by false true x xs ys f lt = omega arith
strict-by false false x xs ys f lt = lt

here-by : (a b : Bool) (x : Record) (xs ys : List Record) → a ≡ false → b ≡ true → length xs ≤ length ys → length (cond a (x ∷ xs) xs) < length (cond b (x ∷ ys) ys)
here-by true b x xs ys e f le = cc e
here-by false true x xs ys e f le = omega arith
here-by false false x xs ys e f le = cc f

not-above : (n : ℕ) (r : Record) → r.revision ≤ n → is_above n r ≡ false
not-above n r le = by (is_above n r) refl
  where
    by : (b : Bool) → is_above n r ≡ b → is_above n r ≡ false
    by true e = absurd (let lt = ltb-true n r.revision e in omega arith)
    by false e = e

fewer-strict : (m n : ℕ) → m ≤ n → (x : Record) (rs : List Record) → IsIn x rs → is_above m x ≡ true → x.revision ≤ n → length (filter (is_above n) rs) < length (filter (is_above m) rs)
fewer-strict m n le x [] i above low = absurd i
fewer-strict m n le x (r ∷ rs) (inl e) above low =
    here-by (is_above n r) (is_above m r) r (filter (is_above n) rs) (filter (is_above m) rs) (ap (is_above n) (sym e) ∙ not-above n x low) (ap (is_above m) (sym e) ∙ above) (fewer-above m n le rs)
fewer-strict m n le x (r ∷ rs) (inr i) above low =
    strict-by (is_above n r) (is_above m r) r (filter (is_above n) rs) (filter (is_above m) rs) (above-lower m n le r) (fewer-strict m n le x rs i above low)

-- the last revision of some rows is a row's
record LastOf (n : ℕ) (rows : List ScanRow) : Type 0 where
  pub row : ScanRow
  pub member : IsIn row rows
  pub is : n ≡ row.revision

abbrev revision_of : ScanRow → ℕ
revision_of r = r.revision

last-of : (d : ℕ) (x : ScanRow) (xs : List ScanRow) → LastOf (unwrap_or (last_or (Some x.revision) (map revision_of xs)) d) (x ∷ xs)
last-of d x [] = record { row = x; member = inl refl; is = refl }
last-of d x (y ∷ ys) = let l = last-of d y ys in record { row = l.row; member = inr l.member; is = l.is }

in-first : {X : Type 0} (n : ℕ) (x : X) (xs : List X) → IsIn x (take n xs) → IsIn x xs
in-first zero x xs i = absurd i
in-first (suc n) x [] i = absurd i
in-first (suc n) x (y ∷ ys) (inl e) = inl e
in-first (suc n) x (y ∷ ys) (inr i) = inr (in-first n x ys i)

last-taken : (d n : ℕ) (xs : List ScanRow) → 0 < n → n < length xs → LastOf (unwrap_or (last_or None (map revision_of (take n xs))) d) (take n xs)
last-taken d zero xs some more = absurd (omega arith)
last-taken d (suc n) [] some more = absurd (omega arith)
last-taken d (suc n) (x ∷ xs) some more = last-of d x (take n xs)

-- after a scan that isn't the last fewer rows are left
pub scan-falls : (after limit : ℕ) (rs : List Record) → 0 < limit → nat_le (length (rows_above after rs)) limit ≡ false →
    length (filter (is_above (unwrap_or (last_or None (map revision_of (take limit (rows_above after rs)))) after)) rs) < length (filter (is_above after) rs)
scan-falls after limit rs some more =
    (let many = leb-false (length (rows_above after rs)) limit more in
    let l = last-taken after limit (rows_above after rs) some many in
    let from = in-map row_of l.row (filter (is_above after) rs) (in-first limit l.row (rows_above after rs) l.member) in
    let at = in-filter (is_above after) from.from rs from.member in
    let same : unwrap_or (last_or None (map revision_of (take limit (rows_above after rs)))) after ≡ from.from.revision = l.is ∙ ap revision_of from.is in
    let up = ltb-true after from.from.revision at.1 in
    fewer-strict after (unwrap_or (last_or None (map revision_of (take limit (rows_above after rs)))) after) (omega arith) from.from rs at.0 at.1 (omega arith))

-- ---- the measure
module _ (c : Configuration) where
  abbrev pub scans_left : List Scan → List Record → ℕ
  scans_left ss rs = if has_ended ss then 0 else (1 + length (filter (is_above (reached ss)) rs))

  abbrev pub left_of : Round → List Bool → List Record → ℕ
  left_of g k rs = length (to_clear c g) + length (to_page c g) + scans_left g.scans rs + length (to_accept c k)

  abbrev pub left_in : Option ℕ → Round → List Bool → List Record → ℕ
  left_in None g k rs = 1 + left_of g k rs
  left_in (Some r) g k rs = left_of g k rs

  -- fewer queries are left, or the answer ended the task
  abbrev pub Falls : List Record → Option ℕ → Round → List Bool → ℕ → ℕ → Query → Answer → Type 0
  Falls rs o g k cleared_at tick q a =
      (left_in (number_after q a o) (round_after (number_after q a o) q a g) (refusals_after q a k) rs < left_in o g k rs) ⊎ (is_some (balance_end cleared_at tick q a) ≡ true)

-- ---- what devices answer
clear-answers : (r : ℕ) (s : machine.State) → ((machine.clear r s).answer ≡ D.Cleared) ⊎ ((machine.clear r s).answer ≡ D.Stale s.round)
unfolding machine.clear
clear-answers r s = by (nat_lt r s.round)
  where
    by : (b : Bool) → ((if b then machine.stays (D.Stale s.round) s else record { answer = D.Cleared; state = record { held = s.held; round = r; trash = []; pull = [] } }).answer ≡ D.Cleared)
        ⊎ ((if b then machine.stays (D.Stale s.round) s else record { answer = D.Cleared; state = record { held = s.held; round = r; trash = []; pull = [] } }).answer ≡ D.Stale s.round)
    by true = inr refl
    by false = inl refl

page-answers : (prefix : List ℕ) (r : ℕ) (s : machine.State) → ((es : List Entry) × ((machine.page prefix r s).answer ≡ D.Page es)) ⊎ ((machine.page prefix r s).answer ≡ D.Stale s.round)
unfolding machine.page
page-answers prefix r s = by (r == s.round) (map machine.entry_of (filter (λ e. machine.is_paged prefix e.0) s.held))
  where
    by : (b : Bool) (es : List Entry) → ((fs : List Entry) × ((if b then machine.stays (D.Page es) s else machine.stays (D.Stale s.round) s).answer ≡ D.Page fs)) ⊎ ((if b then machine.stays (D.Page es) s else machine.stays (D.Stale s.round) s).answer ≡ D.Stale s.round)
    by true es = inl (es, refl)
    by false es = inr refl

accept-answers : (r : ℕ) (lists : Lists) (s : machine.State) → ((machine.accept r lists s).answer ≡ D.Accepted (length lists.trash) (length lists.pull)) ⊎ ((machine.accept r lists s).answer ≡ D.Stale s.round)
unfolding machine.accept
accept-answers r lists s = by (r == s.round)
  where
    taken : machine.Reply
    taken = record { answer = D.Accepted (length lists.trash) (length lists.pull); state = record { held = s.held; round = s.round; trash = lists.trash; pull = lists.pull } }

    by : (b : Bool) → ((if b then record { answer = D.Accepted (length lists.trash) (length lists.pull); state = record { held = s.held; round = s.round; trash = lists.trash; pull = lists.pull } } else machine.stays (D.Stale s.round) s).answer ≡ D.Accepted (length lists.trash) (length lists.pull))
        ⊎ ((if b then record { answer = D.Accepted (length lists.trash) (length lists.pull); state = record { held = s.held; round = s.round; trash = lists.trash; pull = lists.pull } } else machine.stays (D.Stale s.round) s).answer ≡ D.Stale s.round)
    by true = inl refl
    by false = inr refl

scan-answer : (after limit : ℕ) (s : tables.State) → (tables.scan after limit s).answer ≡ T.Rows (take limit (rows_above after s.records)) (nat_le (length (rows_above after s.records)) limit)
unfolding tables.scan
scan-answer after limit s = refl

-- ---- each answer
module _ (c : Configuration) (past : Past) (reading tick cleared_at : ℕ) (g : Round) (k : List Bool) where
  abbrev records : List Record
  records = (table_after c past).records

  begin-falls : (a : Answer) → IsAnswered c past reading (Q.Table TQ.BeginRound) a → Falls c records None g k cleared_at tick (Q.Table TQ.BeginRound) a
  begin-falls (A.Device a) answered = absurd answered
  begin-falls (A.Table a) answered = subst (λ v. Falls c records None g k cleared_at tick (Q.Table TQ.BeginRound) (A.Table v)) (sym (answered ∙ begin-answer c reading (table_after c past))) (inl (by (nat_eq ((table_after c past).rounds + 1) ((table_after c past).rounds + 1))))
    where
      by : (b : Bool) → left_of c (if b then with_started reading g else g) k records < 1 + left_of c g k records
      by true = omega arith
      by false = omega arith

  shorter : {X : Type 0} (n : ℕ) (all : List X) (y : X) (ys : List X) → drop n all ≡ y ∷ ys → length (drop (suc n) all) < length (drop n all)
  shorter n all y ys e = (let f : length (drop (suc n) all) ≡ length ys = ap length (drop-next n all y ys e) in let h : length (drop n all) ≡ suc (length ys) = ap length e in omega arith)

  -- what is to be shown of a device's answer to a query
  abbrev IsDown : ℕ → ℕ → DeviceQuery → DeviceAnswer → Type 0
  IsDown r d q a = Falls c records (Some r) g k cleared_at tick (Q.Device d q) (A.Device a)

  -- an answer of the line, or a fault where it may come
  by-answer : (r d : ℕ) (q : DeviceQuery) (a x y : DeviceAnswer) → ((x ≡ y) ⊎ (x ≡ D.Stale (device_after c d past).round)) → IsDown r d q y → IsDown r d q (D.Stale (device_after c d past).round) →
      (machine.may_fault q ≡ true → IsDown r d q D.StoreFault) → ((a ≡ x) ⊎ ((a ≡ D.StoreFault) × (machine.may_fault q ≡ true))) → IsDown r d q a
  by-answer r d q a x y (inl f) taken stale fault (inl e) = subst (IsDown r d q) (sym (e ∙ f)) taken
  by-answer r d q a x y (inr f) taken stale fault (inl e) = subst (IsDown r d q) (sym (e ∙ f)) stale
  by-answer r d q a x y o taken stale fault (inr f) = subst (IsDown r d q) (sym f.0) (fault f.1)

  clear-falls : (r d : ℕ) (ds : List ℕ) → to_clear c g ≡ d ∷ ds → (a : Answer) → IsAnswered c past reading (Q.Device d (DQ.Clear r)) a → Falls c records (Some r) g k cleared_at tick (Q.Device d (DQ.Clear r)) a
  clear-falls r d ds left (A.Table a) answered = absurd answered
  clear-falls r d ds left (A.Device a) answered =
      by-answer r d (DQ.Clear r) a (machine.clear r (device_after c d past)).answer D.Cleared (clear-answers r (device_after c d past))
      (inl (subst (λ b. left_of c (if b then with_cleared d g else g) k records < left_of c g k records) (sym (eq-eqb r r refl)) (let less = shorter (length g.cleared) (device_numbers c) d ds left in omega arith)))
      (inr refl) (λ f. inr refl) answered.1

  page-falls-by : (r d : ℕ) (prefix : List ℕ) (xs : List (ℕ × List ℕ)) → to_page c g ≡ page_on d prefix ∷ xs → (a x : DeviceAnswer) →
      ((es : List Entry) × (x ≡ D.Page es)) ⊎ (x ≡ D.Stale (device_after c d past).round) → ((a ≡ x) ⊎ ((a ≡ D.StoreFault) × (machine.may_fault (DQ.Page r prefix) ≡ true))) → IsDown r d (DQ.Page r prefix) a
  page-falls-by r d prefix xs left a x (inl f) o =
      by-answer r d (DQ.Page r prefix) a x (D.Page f.0) (inl f.1)
      (inl (subst (λ b. left_of c (if b then with_page (record { device = d; prefix = prefix; entries = f.0 }) g else g) k records < left_of c g k records) (sym (eq-eqb r r refl)) (let less = shorter (length g.pages) (all_pages c) (page_on d prefix) xs left in omega arith)))
      (inr refl) (λ f. inr refl) o
  page-falls-by r d prefix xs left a x (inr f) o =
      by-answer r d (DQ.Page r prefix) a x (D.Stale (device_after c d past).round) (inl f) (inr refl) (inr refl) (λ f. inr refl) o

  page-falls : (r d : ℕ) (prefix : List ℕ) (xs : List (ℕ × List ℕ)) → to_page c g ≡ page_on d prefix ∷ xs → (a : Answer) → IsAnswered c past reading (Q.Device d (DQ.Page r prefix)) a →
      Falls c records (Some r) g k cleared_at tick (Q.Device d (DQ.Page r prefix)) a
  page-falls r d prefix xs left (A.Table a) answered = absurd answered
  page-falls r d prefix xs left (A.Device a) answered =
      page-falls-by r d prefix xs left a (machine.page prefix r (device_after c d past)).answer (page-answers prefix r (device_after c d past)) answered.1

  scan-falls-by : (r limit : ℕ) (b : Bool) → 0 < limit → has_ended g.scans ≡ false → nat_le (length (rows_above (reached g.scans) records)) limit ≡ b →
      left_of c (with_scan (record { after = reached g.scans; rows = take limit (rows_above (reached g.scans) records); last = b }) g) k records < left_of c g k records
  scan-falls-by r limit true some more e =
      (let before : scans_left c g.scans records ≡ 1 + length (filter (is_above (reached g.scans)) records) = ap (λ v. if v then 0 else (1 + length (filter (is_above (reached g.scans)) records))) more in omega arith)
  scan-falls-by r limit false some more e =
      (let before : scans_left c g.scans records ≡ 1 + length (filter (is_above (reached g.scans)) records) = ap (λ v. if v then 0 else (1 + length (filter (is_above (reached g.scans)) records))) more in
      let less = scan-falls (reached g.scans) limit records some e in omega arith)

  table-falls : (r : ℕ) → 0 < c.scan_limit → has_ended g.scans ≡ false → (a : Answer) → IsAnswered c past reading (Q.Table (TQ.Scan r (reached g.scans) c.scan_limit)) a →
      Falls c records (Some r) g k cleared_at tick (Q.Table (TQ.Scan r (reached g.scans) c.scan_limit)) a
  table-falls r some more (A.Device a) answered = absurd answered
  table-falls r some more (A.Table a) answered =
      subst (λ v. Falls c records (Some r) g k cleared_at tick (Q.Table (TQ.Scan r (reached g.scans) c.scan_limit)) (A.Table v)) (sym (answered ∙ scan-answer (reached g.scans) c.scan_limit (table_after c past)))
      (inl (subst (λ b. left_of c (if b then with_scan (record { after = reached g.scans; rows = take c.scan_limit (rows_above (reached g.scans) records); last = nat_le (length (rows_above (reached g.scans) records)) c.scan_limit }) g else g) k records < left_of c g k records) (sym (eq-eqb r r refl))
      (scan-falls-by r c.scan_limit (nat_le (length (rows_above (reached g.scans) records)) c.scan_limit) some more refl)))

  accept-falls : (r d : ℕ) (ds : List ℕ) → to_accept c k ≡ d ∷ ds → (a : Answer) → IsAnswered c past reading (Q.Device d (DQ.Accept r (lists_for c r g d))) a →
      Falls c records (Some r) g k cleared_at tick (Q.Device d (DQ.Accept r (lists_for c r g d))) a
  accept-falls r d ds left (A.Table a) answered = absurd answered
  accept-falls r d ds left (A.Device a) answered =
      by-answer r d (DQ.Accept r (lists_for c r g d)) a (machine.accept r (lists_for c r g d) (device_after c d past)).answer (D.Accepted (length (lists_for c r g d).trash) (length (lists_for c r g d).pull))
      (accept-answers r (lists_for c r g d) (device_after c d past))
      (inl (let less = shorter (length k) (device_numbers c) d ds left in omega arith))
      (inl (let less = shorter (length k) (device_numbers c) d ds left in omega arith))
      (λ f. cc f) answered.1

  by-parts : (o : Option ℕ) (q : Query) (p : Option ℕ) (r : Query) (a : Answer) → o ≡ p → q ≡ r → (IsAnswered c past reading r a → Falls c records p g k cleared_at tick r a) → IsAnswered c past reading q a → Falls c records o g k cleared_at tick q a
  by-parts o q p r a e f h =
      subst (λ v. IsAnswered c past reading v a → Falls c records o g k cleared_at tick v a) (sym f)
      (subst (λ v. IsAnswered c past reading r a → Falls c records v g k cleared_at tick r a) (sym e) h)

  -- whatever a balance task asks: the machine's answer leaves fewer queries, or ends the task
  pub falls : (o : Option ℕ) (q : Query) → 0 < c.scan_limit → Asked c o g k q → (a : Answer) → IsAnswered c past reading q a → Falls c records o g k cleared_at tick q a
  falls o q some (begins none is) a answered = by-parts o q None (Q.Table TQ.BeginRound) a none is (begin-falls a) answered
  falls o q some (clears r d ds is left at) a answered = by-parts o q (Some r) (Q.Device d (DQ.Clear r)) a is at (clear-falls r d ds left a) answered
  falls o q some (pages r d prefix xs is cleared left at) a answered = by-parts o q (Some r) (Q.Device d (DQ.Page r prefix)) a is at (page-falls r d prefix xs left a) answered
  falls o q some (scans r is cleared paged more at) a answered = by-parts o q (Some r) (Q.Table (TQ.Scan r (reached g.scans) c.scan_limit)) a is at (table-falls r some more a) answered
  falls o q some (accepts r d ds is cleared paged done left at) a answered = by-parts o q (Some r) (Q.Device d (DQ.Accept r (lists_for c r g d))) a is at (accept-falls r d ds left a) answered

-- ---- a task by its replies
abbrev pub left : Configuration → Balancing → List Record → ℕ
left c s rs = left_in c s.number s.round s.refusals rs

pub step-falls : (c : Configuration) (past : Past) (reading : ℕ) (s : Balancing) (q : Query) (x : Answered) → 0 < c.scan_limit → next_of c s ≡ asks q → IsAnswered c past reading q x.answer →
    (left c (after_reply q x s) (table_after c past).records < left c s (table_after c past).records) ⊎ (is_some (after_reply q x s).ended ≡ true)
step-falls c past reading s q x some asked answered =
    falls c past reading x.tick s.cleared_at s.round s.refusals s.number q some (asked-next c s.round s.refusals q s.ended s.number asked) x.answer answered

-- and its queries leave the table's records as they are
pub records-stay : (c : Configuration) (reading : ℕ) (s : tables.State) (q : Query) (o : Option ℕ) (g : Round) (k : List Bool) → Asked c o g k q → (table_left_by c reading q s).records ≡ s.records
unfolding tables.begin_round tables.scan
records-stay c reading s q o g k (begins none is) = ap (λ v. (table_left_by c reading v s).records) is
records-stay c reading s q o g k (clears r d ds some left is) = ap (λ v. (table_left_by c reading v s).records) is
records-stay c reading s q o g k (pages r d prefix xs some cleared left is) = ap (λ v. (table_left_by c reading v s).records) is
records-stay c reading s q o g k (scans r some cleared paged more is) = ap (λ v. (table_left_by c reading v s).records) is
records-stay c reading s q o g k (accepts r d ds some cleared paged done left is) = ap (λ v. (table_left_by c reading v s).records) is
