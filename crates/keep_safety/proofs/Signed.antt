-- A signature that is live has a device that holds its block, or a row that names it and stays as long as it is good: `signed`.
use Rattle.std.proofs.Common.{◌≡◌, ◌≤◌, ◌<◌, ◌+◌, ◌*◌, ◌^◌, max, ℕ, List, [], ◌∷◌, map, filter, length, Bool, true, false, not, ◌&&◌, ◌||◌, refl, sym, ◌∙◌, ap, subst, Option, None, Some, IfSome, is_none, arith, inl, inr, nat_eq, if◌then◌else◌}
use Rattle.std.specs.Prelude.{◌⊎◌, nat_lt, ◌==◌}
use Rattle.std.specs.List.{find, AllByRecursion}
use Rattle.std.proofs.lemmas.Bool.{le-ltb, and_from, eqb-true, and_parts}
use Rattle.keep_spec.specs.Config.{Configuration, token_of}
use Rattle.keep_spec.specs.Times.{grace, expiry_at}
use Rattle.keep_spec.specs.Refusals.{bad}
use Rattle.keep_spec.specs.SignedText.{unsigned, with_locators}
use Rattle.keep_spec.specs.declared.token.TokenId.{TokenId}
use Rattle.keep_event.specs.Device as machine
use Rattle.keep_event.specs.Device.{replica_of}
use Rattle.keep_event.specs.Requests.{rules_of, digests_of, table_line}
use Rattle.keep_event.specs.Table as tables
use Rattle.keep_event.specs.Table.{State, Reply, stays, collection_of, is_readable, is_current, is_preserved, is_of, is_current_of, row_answer, expiry_of, signed_until, is_in_trash, deleted_at}
use Rattle.keep_event.specs.declared.names.Stored.{Stored}
use Rattle.keep_event.specs.declared.device.DeviceQuery.{DeviceQuery}
use Rattle.keep_event.specs.declared.device.DeviceAnswer.{DeviceAnswer}
use Rattle.keep_event.specs.declared.device.DeviceAnswer.TheVariants as D
use Rattle.keep_event.specs.declared.table.Record.{Record}
use Rattle.keep_event.specs.declared.table.NewRecord.{NewRecord}
use Rattle.keep_event.specs.declared.table.Standing.TheVariants.{Kept, Preserved}
use Rattle.keep_event.specs.declared.table.Collection.{Collection}
use Rattle.keep_event.specs.declared.table.TableQuery.{TableQuery}
use Rattle.keep_event.specs.declared.table.TableQuery.TheVariants as TQ
use Rattle.keep_event.specs.declared.table.TableAnswer.{TableAnswer}
use Rattle.keep_event.specs.declared.table.TableAnswer.TheVariants as T
use Rattle.keep_event.specs.declared.event.Event.{Event}
use Rattle.keep_event.specs.declared.event.Query.{Query}
use Rattle.keep_event.specs.declared.event.Query.TheVariants as Q
use Rattle.keep_event.specs.declared.event.Answer.{Answer}
use Rattle.keep_event.specs.declared.event.Answer.TheVariants as A
use Rattle.keep_safety.specs.Allowed.{IsAllowed}
use Rattle.keep_spec.specs.Members.{IsIn}
use Rattle.keep_event.specs.World.{device_rules}
use Rattle.keep_safety.specs.Past.{Past, left_by, device_after, table_after, IsAnswered}
use Rattle.keep_safety.specs.declared.superseded.Superseded.{Superseded}
use Rattle.keep_safety.specs.Rows.{Row, rows, rows_after, delete_at, deleted_by, is_over, is_past, stays_at_update, stays_at_sweep, superseded_by}
use Rattle.keep_safety.specs.Signatures.{Signature, digest_named, token_carried, time_told, put_signature, signatures_on, read_signatures, signatures_of, issued}
use Rattle.keep_safety.specs.Times.{now, skew, IsSteady}
use Rattle.keep_safety.proofs.Devices.{device-facts}
use Rattle.keep_safety.proofs.Expiries.{lifetime, put-expiry-low, IsEarly, read-expiry-low}
use Rattle.keep_safety.proofs.Lines.{Does, step-does}
use Rattle.keep_order.proofs.Lists.{in-map, map-in, filter-in, in-either, in-left, find-in}
use Rattle.keep_safety.proofs.Made.{IsMade, rows-made, superseded-made}
use Rattle.keep_safety.proofs.Places.{grace-at, line_at, left-line, left-fault, left-away, by-place}
use Rattle.keep_safety.proofs.TableLines.{is_refusal, save-cases, update-cases, trash-cases, restore-cases, read-cases}
use Rattle.keep_safety.proofs.Tables.{table-facts, CollectionFacts, record_of, standing_of, refused-rows, refused-times, superseded-number, row_if}

-- ---- what a live signature has
pub record PutHeld (c : Configuration) (past : Past) (h : List ℕ) (until : ℕ) : Type 0 where
  pub device : ℕ
  pub configured : device < length c.devices
  pub stored : Stored
  pub there : replica_of h (device_after c device past) ≡ Some stored
  pub late : until ≤ stored.mtime + lifetime c

-- a row that stays up to a time
pub record StaysUntil (c : Configuration) (del : ℕ → Option ℕ) (h : List ℕ) (until : ℕ) (r : Row) : Type 0 where
  pub named : IsIn h r.made.named
  pub over : IfSome r.superseded (λ s. s.preserved ≡ false → until ≤ s.at + grace c.ttl c.skew)
  pub deletes : IfSome (del r.number) (λ t. until ≤ t)

pub record RowHeld (c : Configuration) (rs : List Row) (del : ℕ → Option ℕ) (latest : ℕ) (h : List ℕ) (until : ℕ) : Type 0 where
  pub row : Row
  pub member : IsIn row rs
  pub stays : StaysUntil c del h (until + skew c) row
  pub recent : until ≤ latest + lifetime c

-- ---- a replica stays as long as its signature is live
module _ (c : Configuration) (past : Past) (reading : ℕ) (allowed : IsAllowed c past) (h : List ℕ) where
  abbrev Held : ℕ → machine.State → ℕ → Type 0
  Held until s bound = (x : Stored) × (replica_of h s ≡ Some x) × (until ≤ x.mtime + bound)

  more : (a b : Stored) (until bound : ℕ) → a.mtime ≤ b.mtime → until ≤ a.mtime + bound → until ≤ b.mtime + bound
  more a b until bound le u = omega arith

  line-keeps : (d until : ℕ) (x : DeviceQuery) → d < length c.devices → Held until (device_after c d past) (lifetime c) → reading ≤ until + skew c → Held until (line_at c d past reading x).state (lifetime c)
  line-keeps d until x configured held live = by (step-does (device_rules c d) reading (device_after c d past) (device-facts c d past allowed).sound.ascends h x)
    where
      later : (o : Option Stored) (y : Stored) → o ≡ Some held.0 → IfSome o (λ b. b.mtime ≤ y.mtime) → held.0.mtime ≤ y.mtime
      later None y e le = cc e
      later (Some z) y e le = let same : z ≡ held.0 = cc e in omega (arith, le, ap (λ (v : Stored). v.mtime) same)

      same-stored : (y : Stored) → replica_of h (device_after c d past) ≡ Some y → y ≡ held.0
      same-stored y e = cc (sym e ∙ held.1)

      too-late : (y : Stored) → y ≡ held.0 → y.mtime + grace c.ttl c.skew < reading → ⊥
      too-late y e old = let u = held.2 in let m = ap (λ (v : Stored). v.mtime) e in omega arith

      by : Does (device_rules c d) reading (device_after c d past) (device-facts c d past allowed).sound.ascends h x (line_at c d past reading x) → Held until (line_at c d past reading x).state (lifetime c)
      by (inl k) = (held.0, k.same ∙ held.1, held.2)
      by (inr (inl k)) = (k.stored, k.there, more held.0 k.stored until (lifetime c) (later (replica_of h (device_after c d past)) k.stored held.1 k.later) held.2)
      by (inr (inr k)) = absurd (too-late k.stored (same-stored k.stored k.was) (subst (λ v. k.stored.mtime + v < reading) (grace-at c d configured) k.old))

  event-keeps : (d until : ℕ) → Held until (device_after c d past) (lifetime c) → reading ≤ until + skew c → (q : Query) (a : Answer) → IsAnswered c past reading q a → Held until (left_by c d reading q a (device_after c d past)) (lifetime c)
  event-keeps d until held live = by-place c d past reading (λ q a. Held until (left_by c d reading q a (device_after c d past)) (lifetime c))
      (λ x configured. subst (λ s. Held until s (lifetime c)) (sym (left-line c d past reading x)) (line-keeps d until x configured held live))
      (λ x. subst (λ s. Held until s (lifetime c)) (sym (left-fault c d past reading x)) held)
      (λ n x a e. subst (λ s. Held until s (lifetime c)) (sym (left-away c d past reading n x a e)) held)
      (λ x a e. held)

  -- a time that is told for the digest is the replica's
  line-signs : (d m : ℕ) (x : DeviceQuery) → digest_named x ≡ Some h → time_told (line_at c d past reading x).answer ≡ Some m → (y : Stored) × (replica_of h (line_at c d past reading x).state ≡ Some y) × (m ≡ y.mtime)
  line-signs d m x named told = by (step-does (device_rules c d) reading (device_after c d past) (device-facts c d past allowed).sound.ascends h x)
    where
      tells : (o : Option ℕ) (n : ℕ) → o ≡ Some m → IfSome o (λ v. v ≡ n) → m ≡ n
      tells None n e is = cc e
      tells (Some v) n e is = let same : v ≡ m = cc e in sym same ∙ is

      by : Does (device_rules c d) reading (device_after c d past) (device-facts c d past allowed).sound.ascends h x (line_at c d past reading x) → (y : Stored) × (replica_of h (line_at c d past reading x).state ≡ Some y) × (m ≡ y.mtime)
      by (inl k) = absurd (cc (sym (k.told named) ∙ told))
      by (inr (inl k)) = (k.stored, k.there, tells (time_told (line_at c d past reading x).answer) k.stored.mtime told k.told)
      by (inr (inr k)) = absurd (cc (sym told ∙ ap time_told k.answered))

-- ---- a row stays as long as its signature is live
never-over : (c : Configuration) (reading until : ℕ) (o : Option Superseded) → IfSome o (λ s. s.preserved ≡ false → until ≤ s.at + grace c.ttl c.skew) → reading ≤ until → is_over c reading o ≡ false
never-over c reading until None h le = refl
never-over c reading until (Some s) h le = by s.preserved refl
  where
    by : (b : Bool) → s.preserved ≡ b → (not b && nat_lt (s.at + grace c.ttl c.skew) reading) ≡ false
    by true e = refl
    by false e = let u = h e in le-ltb (s.at + grace c.ttl c.skew) reading (omega arith)

never-past : (reading until : ℕ) (o : Option ℕ) → IfSome o (λ t. until ≤ t) → reading ≤ until → is_past reading o ≡ false
never-past reading until None h le = refl
never-past reading until (Some t) h le = le-ltb t reading (omega arith)

module _ (c : Configuration) (past : Past) (reading : ℕ) (h : List ℕ) (until : ℕ) (live : reading ≤ until) (soon : until ≤ reading + grace c.ttl c.skew) (row : Row) (member : IsIn row (rows c past)) (st : StaysUntil c (λ n. delete_at n past) h until row) where
  abbrev StillRow : Query → Answer → Type 0
  StillRow q a = (r : Row) × IsIn r (rows_after c past reading q a (rows c past)) × StaysUntil c (λ n. deleted_by n q a (delete_at n past)) h until r

  same-times : (q : Query) (a : Answer) → deleted_by row.number q a (delete_at row.number past) ≡ delete_at row.number past → StaysUntil c (λ n. deleted_by n q a (delete_at n past)) h until row
  same-times q a e = record { named = st.named; over = st.over; deletes = subst (λ o. IfSome o (λ t. until ≤ t)) (sym e) st.deletes }

  refused-row : (q : TableQuery) (a : TableAnswer) → is_refusal a ≡ true → StillRow (Q.Table q) (A.Table a)
  refused-row q a e = (row, subst (λ v. IsIn row v) (sym (refused-rows c past reading q a (rows c past) e)) member, same-times (Q.Table q) (A.Table a) (refused-times c past reading q a row.number (delete_at row.number past) e))

  -- the row after an update
  over-by : (number : ℕ) (preserve : Bool) (b : Bool) → IfSome (row_if b (record { number = row.number; version = row.version; revision = row.revision; made = row.made; superseded = Some (record { at = reading; preserved = preserve }) }) row).superseded (λ s. s.preserved ≡ false → until ≤ s.at + grace c.ttl c.skew)
  over-by number preserve true = λ e. soon
  over-by number preserve false = st.over

  updated-row : (number : ℕ) (preserve : Bool) → StaysUntil c (λ n. delete_at n past) h until (superseded_by number reading preserve row)
  updated-row number preserve = record {
    named = subst (λ v. IsIn h v) (ap (λ (m : NewRecord). m.named) (sym (superseded-made number reading preserve row))) st.named;
    over = over-by number preserve (nat_eq row.number number && is_none row.superseded);
    deletes = subst (λ n. IfSome (delete_at n past) (λ t. until ≤ t)) (sym (superseded-number number reading preserve row)) st.deletes;
  }

  not-false : (b : Bool) → b ≡ false → not b ≡ true
  not-false b e = ap not e

  and-false : (a b : Bool) → b ≡ false → not (a && b) ≡ true
  and-false true b e = ap not e
  and-false false b e = refl

  set-times : (b : Bool) (at : ℕ) → until ≤ at → IfSome (if b then Some at else delete_at row.number past) (λ t. until ≤ t)
  set-times true at le = le
  set-times false at le = st.deletes

  take-times : (b : Bool) → IfSome (if b then None else delete_at row.number past) (λ t. until ≤ t)
  take-times true = tt
  take-times false = st.deletes

  row-line : (q : TableQuery) → StillRow (Q.Table q) (A.Table (table_line c reading q (table_after c past)).answer)
  unfolding tables.begin_round tables.scan tables.create tables.sweep
  row-line (TQ.Save request) = save-cases c reading (table_after c past) (λ r. StillRow (Q.Table (TQ.Save request)) (A.Table r.answer)) (refused-row (TQ.Save request)) request
      (λ token e none. (row, in-left row (rows c past) _ member, record { named = st.named; over = st.over; deletes = st.deletes }))
  row-line (TQ.Update number preserve request) = update-cases c reading (table_after c past) (λ r. StillRow (Q.Table (TQ.Update number preserve request)) (A.Table r.answer)) (refused-row (TQ.Update number preserve request)) number preserve request
      (λ token x e found none. (
        superseded_by number reading preserve row,
        in-left (superseded_by number reading preserve row) (map (superseded_by number reading preserve) (filter (stays_at_update c reading number) (rows c past))) _
            (map-in (superseded_by number reading preserve) row (filter (stays_at_update c reading number) (rows c past))
            (filter-in (stays_at_update c reading number) row (rows c past) member (and-false (nat_eq row.number number) (is_over c reading row.superseded) (never-over c reading until row.superseded st.over live)))),
        updated-row number preserve,
      ))
  row-line (TQ.SetTrash token number trash_at asked) = trash-cases c reading (table_after c past) (λ r. StillRow (Q.Table (TQ.SetTrash token number trash_at asked)) (A.Table r.answer)) (refused-row (TQ.SetTrash token number trash_at asked)) token number trash_at asked
      (λ x found. (row, member, record { named = st.named; over = st.over; deletes = set-times (nat_eq number row.number) (deleted_at (rules_of c) reading trash_at asked) (omega arith) }))
  row-line (TQ.Restore token number) = restore-cases c reading (table_after c past) (λ r. StillRow (Q.Table (TQ.Restore token number)) (A.Table r.answer)) (refused-row (TQ.Restore token number)) token number
      (λ x found. (row, member, record { named = st.named; over = st.over; deletes = take-times (nat_eq number row.number) }))
  row-line TQ.Sweep = (
    row,
    filter-in (stays_at_sweep c past reading) row (rows c past) member (and_from (not (is_past reading (delete_at row.number past))) (not (is_over c reading row.superseded))
        (not-false (is_past reading (delete_at row.number past)) (never-past reading until (delete_at row.number past) st.deletes live)) (not-false (is_over c reading row.superseded) (never-over c reading until row.superseded st.over live))),
    record { named = st.named; over = st.over; deletes = st.deletes },
  )
  row-line _ = (row, member, record { named = st.named; over = st.over; deletes = st.deletes })

  pub row-stays : (q : Query) (a : Answer) → IsAnswered c past reading q a → StillRow q a
  row-stays (Q.Table q) (A.Table a) is = subst (λ a. StillRow (Q.Table q) (A.Table a)) (sym is) (row-line q)
  row-stays (Q.Table q) (A.Device a) is = absurd is
  row-stays (Q.Device n q) (A.Table a) is = absurd is
  row-stays (Q.Device n q) (A.Device a) is = (row, member, record { named = st.named; over = st.over; deletes = st.deletes })

-- ---- a read signs what its row names
-- the text that is stored names what the request's text named
abbrev pub SameDigests : Type 0
SameDigests = (text : List ℕ) → bad text ≡ None → (h : List ℕ) → IsIn h (digests_of (with_locators unsigned text)) → IsIn h (digests_of text)

module _ (same : SameDigests) (c : Configuration) (past : Past) (reading : ℕ) (allowed : IsAllowed c past) where
  abbrev t : State
  t = table_after c past

  made-names : (r : Row) (h : List ℕ) → IsMade r.made → IsIn h (digests_of r.made.text) → IsIn h r.made.named
  made-names r h m i = subst (λ (v : NewRecord). IsIn h v.named) (sym m.is) (same m.request.text m.good h (subst (λ (v : NewRecord). IsIn h (digests_of v.text)) m.is i))

  readable-of : (number : ℕ) (version : Option ℕ) (r : Record) → is_readable number version r ≡ true → (r.collection ≡ number) × ((is_current r.standing || is_preserved r.standing) ≡ true)
  readable-of number None r e = let p = and_parts (is_of number r) (is_current r.standing) e in (eqb-true r.collection number p.0, or-left (is_current r.standing) (is_preserved r.standing) p.1)
    where
      or-left : (a b : Bool) → a ≡ true → (a || b) ≡ true
      or-left true b e = refl
      or-left false b e = cc e
  readable-of number (Some version) r e =
      let p = and_parts (is_of number r && (r.version == version)) (is_current r.standing || is_preserved r.standing) e in
      (eqb-true r.collection number (and_parts (is_of number r) (r.version == version) p.0).0, p.1)

  never-kept : (o : Option Superseded) (until : ℕ) → (is_current (standing_of c o) || is_preserved (standing_of c o)) ≡ true → IfSome o (λ s. s.preserved ≡ false → until ≤ s.at + grace c.ttl c.skew)
  never-kept None until e = tt
  never-kept (Some s) until e = λ p. kept s.preserved p e
    where
      kept : (b : Bool) → b ≡ false → (is_current (if b then Preserved else Kept (s.at + grace c.ttl c.skew)) || is_preserved (if b then Preserved else Kept (s.at + grace c.ttl c.skew))) ≡ true → until ≤ s.at + grace c.ttl c.skew
      kept true p e = cc p
      kept false p e = cc e

  deletes-late : (x : Collection) (e : ℕ) (o d : Option ℕ) → x.trash_at ≡ o → IsEarly c reading x e → CollectionFacts c t.numbers (λ n. delete_at n past) x → delete_at x.number past ≡ d → IfSome d (λ u. e * 10 ^ 9 + skew c ≤ u)
  deletes-late x e None d none early k is = subst (λ d. IfSome d (λ u. e * 10 ^ 9 + skew c ≤ u)) (sym (k.never none) ∙ k.deletes ∙ is) tt
  deletes-late x e (Some at) d some early k is =
      let l = k.later at some in
      subst (λ d. IfSome d (λ u. e * 10 ^ 9 + skew c ≤ u)) (sym l.1 ∙ k.deletes ∙ is) (let low = early.trashed at some in omega (arith, l.2))

  read-held : (number : ℕ) (version : Option ℕ) (r : Record) (x : Collection) (latest : ℕ) (h : List ℕ) (e : ℕ) → reading ≤ latest → find (is_readable number version) t.records ≡ Some r → collection_of number t ≡ Some x → expiry_of (rules_of c) reading x ≡ Some e → IsIn h (digests_of r.made.text) →
      RowHeld c (rows c past) (λ n. delete_at n past) latest h (e * 10 ^ 9)
  read-held number version r x latest h e le found there told i =
      let f = table-facts c past allowed in
      let at = find-in (is_readable number version) r t.records found in
      let from = in-map (record_of c) r (rows c past) (subst (λ v. IsIn r v) f.records at.0) in
      let p = readable-of number version r at.1 in
      let m = find-in (λ (x : Collection). nat_eq x.number number) x t.collections there in
      let number_is : x.number ≡ from.from.number = eqb-true x.number number m.1 ∙ sym p.0 ∙ ap (λ (v : Record). v.collection) from.is in
      let early = read-expiry-low c reading x e told in
      let lived = early.lived in
      record {
        row = from.from;
        member = from.member;
        stays = record {
          named = made-names from.from h (rows-made c past allowed from.from from.member) (subst (λ (v : Record). IsIn h (digests_of v.made.text)) from.is i);
          over = never-kept from.from.superseded (e * 10 ^ 9 + skew c) (subst (λ (v : Record). (is_current v.standing || is_preserved v.standing) ≡ true) from.is p.1);
          deletes = deletes-late x e x.trash_at (delete_at from.from.number past) refl early (f.times x m.0) (ap (λ n. delete_at n past) number_is);
        };
        recent = omega arith;
      }

  abbrev SignsHeld : ℕ → TableQuery → TableAnswer → Type 0
  SignsHeld latest q a = (s : Signature) → IsIn s (read_signatures c q a) → RowHeld c (rows c past) (λ n. delete_at n past) latest s.digest (s.expiry * 10 ^ 9)

  refused-signs : (latest : ℕ) (text : List ℕ) (number : ℕ) (version : Option ℕ) (a : TableAnswer) → is_refusal a ≡ true → SignsHeld latest (TQ.Read text number version) a
  refused-signs latest text number version (T.Row n v e want trash text') is = cc is
  refused-signs latest text number version _ is = λ s i. absurd i

  on-token : (o : Option TokenId) (e : ℕ) (digests : List (List ℕ)) (s : Signature) → IsIn s (signatures_on o e digests) → IsIn s.digest digests × (s.expiry ≡ e)
  on-token None e digests s i = absurd i
  on-token (Some token) e digests s i =
      let m = in-map (λ h. record { digest = h; token = token; expiry = e }) s digests i in
      (subst (λ v. IsIn v digests) (ap (λ (v : Signature). v.digest) (sym m.is)) m.member, ap (λ (v : Signature). v.expiry) m.is)

  read-signs : (latest : ℕ) → reading ≤ latest → (text : List ℕ) (number : ℕ) (version : Option ℕ) (r : Record) (x : Collection) → find (is_readable number version) t.records ≡ Some r → collection_of number t ≡ Some x → SignsHeld latest (TQ.Read text number version) (row_answer (rules_of c) reading r x)
  read-signs latest le text number version r x found there = by (expiry_of (rules_of c) reading x) refl
    where
      by : (o : Option ℕ) → expiry_of (rules_of c) reading x ≡ o → SignsHeld latest (TQ.Read text number version) (T.Row r.collection r.version o r.made.want x.trash_at r.made.text)
      by None told = λ s i. absurd i
      by (Some e) told = λ s i. (let k = on-token (token_of c text) e (digests_of r.made.text) s i in
          subst (λ e. RowHeld c (rows c past) (λ n. delete_at n past) latest s.digest (e * 10 ^ 9)) (sym k.1) (read-held number version r x latest s.digest e le found there told k.0))

  pub table-signs : (latest : ℕ) → reading ≤ latest → (q : TableQuery) → SignsHeld latest q (table_line c reading q t).answer
  table-signs latest le (TQ.Read text number version) = read-cases c reading t (λ r. SignsHeld latest (TQ.Read text number version) r.answer) (refused-signs latest text number version) text number version (λ token r x e found there. read-signs latest le text number version r x found there)
  table-signs latest le _ = λ s i. absurd i

-- ---- every signature that is live, after any allowed and steady past
pub now-low : (past : Past) (bound : ℕ) → AllByRecursion (λ x. x.reading ≤ bound) past → now past ≤ bound
now-low [] bound h = omega arith
now-low (e ∷ past) bound h = let rest = now-low past bound h.1 in omega (arith, h.0)

abbrev pub HasHolder : Configuration → Past → Signature → Type 0
HasHolder c past s = PutHeld c past s.digest (s.expiry * 10 ^ 9) ⊎ RowHeld c (rows c past) (λ n. delete_at n past) (now past) s.digest (s.expiry * 10 ^ 9)

module _ (same : SameDigests) (c : Configuration) (past : Past) (e : Event) (allowed : IsAllowed c past) (answered : IsAnswered c past e.reading e.query e.answer) (steady : now past ≤ e.reading + skew c) where
  old-signature : (s : Signature) → now (e ∷ past) ≤ s.expiry * 10 ^ 9 + skew c → HasHolder c past s → HasHolder c (e ∷ past) s
  old-signature s live (inl p) =
      let held = event-keeps c past e.reading allowed s.digest p.device (s.expiry * 10 ^ 9) (p.stored, p.there, p.late) (omega arith) e.query e.answer answered in
      inl (record { device = p.device; configured = p.configured; stored = held.0; there = held.1; late = held.2 })
  old-signature s live (inr p) =
      let recent = p.recent in
      let still = row-stays c past e.reading s.digest (s.expiry * 10 ^ 9 + skew c) (omega arith) (omega arith) p.row p.member p.stays e.query e.answer answered in
      inr (record { row = still.0; member = still.1; stays = still.2; recent = omega arith })

  -- a put's signature, by what it was made of
  put-parts : (h : Option (List ℕ)) (t : Option TokenId) (m : Option ℕ) (s : Signature) → IsIn s (put_signature c h t m) → (n : ℕ) × (h ≡ Some s.digest) × (m ≡ Some n) × (s.expiry ≡ expiry_at c.ttl n)
  put-parts (Some h) (Some t) (Some m) s (inl is) = (m, ap (λ (v : Signature). Some v.digest) (sym is), refl, ap (λ (v : Signature). v.expiry) is)
  put-parts (Some h) (Some t) (Some m) s (inr i) = absurd i
  put-parts (Some h) (Some t) None s i = absurd i
  put-parts (Some h) None m s i = absurd i
  put-parts None t m s i = absurd i

  put-line : (d : ℕ) (x : DeviceQuery) (s : Signature) → d < length c.devices → IsIn s (signatures_of c (Q.Device d x) (A.Device (line_at c d past e.reading x).answer)) →
      (y : Stored) × (replica_of s.digest (line_at c d past e.reading x).state ≡ Some y) × (s.expiry * 10 ^ 9 ≤ y.mtime + lifetime c)
  put-line d x s configured i =
      let p = put-parts (digest_named x) (token_carried x) (time_told (line_at c d past e.reading x).answer) s i in
      let held = line-signs c past e.reading allowed s.digest d p.0 x p.1 p.2 in
      let low = put-expiry-low c p.0 in
      (held.0, held.1, subst (λ v. v * 10 ^ 9 ≤ held.0.mtime + lifetime c) (sym p.3) (omega (arith, held.2)))

  abbrev PutAt : ℕ → Query → Answer → Signature → Type 0
  PutAt d q a s = (y : Stored) × (replica_of s.digest (left_by c d e.reading q a (device_after c d past)) ≡ Some y) × (s.expiry * 10 ^ 9 ≤ y.mtime + lifetime c)

  put-signs : (d : ℕ) (x : DeviceQuery) (a : DeviceAnswer) → IsAnswered c past e.reading (Q.Device d x) (A.Device a) → (s : Signature) → IsIn s (signatures_of c (Q.Device d x) (A.Device a)) → (d < length c.devices) × PutAt d (Q.Device d x) (A.Device a) s
  put-signs d x a is s i = (is.0, by is.1 i)
    where
      faulty : IsIn s (put_signature c (digest_named x) (token_carried x) None) → PutAt d (Q.Device d x) (A.Device D.StoreFault) s
      faulty i = absurd (cc (put-parts (digest_named x) (token_carried x) None s i).2)

      line : IsIn s (signatures_of c (Q.Device d x) (A.Device (line_at c d past e.reading x).answer)) → PutAt d (Q.Device d x) (A.Device (line_at c d past e.reading x).answer) s
      line i = (let held = put-line d x s is.0 i in (held.0, ap (replica_of s.digest) (left-line c d past e.reading x) ∙ held.1, held.2))

      by : (a ≡ (line_at c d past e.reading x).answer) ⊎ ((a ≡ D.StoreFault) × (machine.may_fault x ≡ true)) → IsIn s (signatures_of c (Q.Device d x) (A.Device a)) → PutAt d (Q.Device d x) (A.Device a) s
      by (inl at) i = subst (λ a. IsIn s (signatures_of c (Q.Device d x) (A.Device a)) → PutAt d (Q.Device d x) (A.Device a) s) (sym at) line i
      by (inr at) i = subst (λ a. IsIn s (signatures_of c (Q.Device d x) (A.Device a)) → PutAt d (Q.Device d x) (A.Device a) s) (sym at.0) faulty i

  -- what a new signature has, after the event
  abbrev HasNew : Query → Answer → Signature → Type 0
  HasNew q a s = ((d : ℕ) × (d < length c.devices) × PutAt d q a s) ⊎ RowHeld c (rows c past) (λ n. delete_at n past) (max e.reading (now past)) s.digest (s.expiry * 10 ^ 9)

  new-signature : (q : Query) (a : Answer) → IsAnswered c past e.reading q a → (s : Signature) → IsIn s (signatures_of c q a) → HasNew q a s
  new-signature (Q.Device d x) (A.Device a) is s i = let p = put-signs d x a is s i in inl (d, p.0, p.1)
  new-signature (Q.Device d x) (A.Table a) is s i = absurd is
  new-signature (Q.Table x) (A.Device a) is s i = absurd is
  new-signature (Q.Table x) (A.Table a) is s i = inr (table-signs same c past e.reading allowed (max e.reading (now past)) (omega arith) x s (subst (λ a. IsIn s (read_signatures c x a)) is i))

  new-held : (s : Signature) → now (e ∷ past) ≤ s.expiry * 10 ^ 9 + skew c → HasNew e.query e.answer s → HasHolder c (e ∷ past) s
  new-held s live (inl p) = inl (record { device = p.0; configured = p.1; stored = p.2.0; there = p.2.1; late = p.2.2 })
  new-held s live (inr p) =
      let recent = p.recent in
      let still = row-stays c past e.reading s.digest (s.expiry * 10 ^ 9 + skew c) (omega arith) (omega arith) p.row p.member p.stays e.query e.answer answered in
      inr (record { row = still.0; member = still.1; stays = still.2; recent = omega arith })

  signed-next : ((s : Signature) → IsIn s (issued c past) → now past ≤ s.expiry * 10 ^ 9 + skew c → HasHolder c past s) → (s : Signature) → IsIn s (issued c (e ∷ past)) → now (e ∷ past) ≤ s.expiry * 10 ^ 9 + skew c → HasHolder c (e ∷ past) s
  signed-next f s i live = by (in-either s (signatures_of c e.query e.answer) (issued c past) i)
    where
      by : IsIn s (signatures_of c e.query e.answer) ⊎ IsIn s (issued c past) → HasHolder c (e ∷ past) s
      by (inl i) = new-held s live (new-signature e.query e.answer answered s i)
      by (inr i) = old-signature s live (f s i (omega arith))

-- A live signature is a put's, whose block some device holds with a time that isn't below the one that was signed; or a read's, whose row is held.
pub signed : (same : SameDigests) (c : Configuration) (past : Past) → IsAllowed c past → IsSteady c past → (s : Signature) → IsIn s (issued c past) → now past ≤ s.expiry * 10 ^ 9 + skew c → HasHolder c past s
signed same c [] a steady = λ s i live. absurd i
signed same c (e ∷ past) a steady = signed-next same c past e a.1 a.0.answered (now-low past (e.reading + skew c) steady.0) (signed same c past a.1 steady.1)
