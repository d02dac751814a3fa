-- The signature-lifetime theorem: `safe`, `kept`, `signature-lifetime`; each digest that a version names is held by some device: `refs-held`.
use Rattle.std.proofs.Common.{◌≡◌, ◌≤◌, ◌<◌, ◌+◌, ◌*◌, ◌^◌, ℕ, List, [], ◌∷◌, map, length, Bool, true, false, refl, sym, ◌∙◌, ap, subst, Option, None, Some, is_some, arith, inl, inr, ne_eqb, if◌then◌else◌}
use Rattle.std.specs.Prelude.{◌⊎◌}
use Rattle.std.specs.Option.{option_map_or}
use Rattle.std.specs.Str.{bytes_eq}
use Rattle.std.proofs.lemmas.Bool.{leb-true}
use Rattle.md5.specs.Md5.{md5}
use Rattle.keep_spec.specs.Config.{Configuration}
use Rattle.keep_spec.specs.Times.{threshold}
use Rattle.keep_event.specs.Device as machine
use Rattle.keep_event.specs.Device.{State, Reply, replica, replica_of}
use Rattle.keep_event.specs.Plan.{gathered_rows, wanted_in}
use Rattle.keep_event.specs.declared.names.Stored.{Stored}
use Rattle.keep_event.specs.declared.device.DeviceQuery.{DeviceQuery}
use Rattle.keep_event.specs.declared.device.DeviceQuery.TheVariants as DQ
use Rattle.keep_event.specs.declared.device.DeviceAnswer.{DeviceAnswer}
use Rattle.keep_event.specs.declared.device.DeviceAnswer.TheVariants as D
use Rattle.keep_event.specs.declared.table.NewRecord.{NewRecord}
use Rattle.keep_event.specs.declared.table.ScanRow.{ScanRow}
use Rattle.keep_event.specs.declared.table.TableQuery.{TableQuery}
use Rattle.keep_event.specs.declared.event.Event.{Event}
use Rattle.keep_event.specs.declared.event.Query.{Query}
use Rattle.keep_event.specs.declared.event.Query.TheVariants as Q
use Rattle.keep_event.specs.declared.event.Answer.{Answer}
use Rattle.keep_event.specs.declared.event.Answer.TheVariants as A
use Rattle.keep_safety.specs.Allowed.{IsAllowed, MayFollow}
use Rattle.keep_safety.specs.Holds.{holds, holds_after, held_after, copies}
use Rattle.keep_spec.specs.Members.{IsIn}
use Rattle.keep_event.specs.World.{device_rules}
use Rattle.keep_safety.specs.Past.{Past, left_by, device_after, IsAnswered}
use Rattle.keep_safety.proofs.KeptHolders.{kept_of}
use Rattle.keep_safety.specs.Rounds.{round_in, IsGathered}
use Rattle.keep_safety.specs.Rows.{Row, rows, refs, asked, scanned, scan_row}
use Rattle.keep_safety.specs.Safe.{GivesBlock, IsReadable, IsSafe, LeavesEnough, IsKept, IsSafeThroughout, SignatureLifetime}
use Rattle.keep_safety.specs.Signatures.{digest_named, Signature, issued, is_live, live, IsUnforged, EventAcceptsIssued}
use Rattle.keep_safety.specs.Times.{now, skew, IsSteady}
use Rattle.keep_safety.proofs.Accepted.{WasSigned, IsAccepted, accepted-row}
use Rattle.keep_safety.proofs.AfterScan.{IsNamed, named-of, of-named, IsLate, AskedOrLate, after-scan, asked-stays}
use Rattle.keep_safety.proofs.Begun.{ended-allowed, has-ended}
use Rattle.keep_safety.proofs.Devices.{device-facts, trashed-round}
use Rattle.keep_safety.proofs.Kept.{was-cleared, round_now, listed-now, item-now, none-above, kept-held, enough-kept, copies-left}
use Rattle.keep_safety.proofs.Lines.{Goes, Does, step-does}
use Rattle.keep_order.proofs.Lists.{in-map, in-filter, in-either}
use Rattle.keep_safety.proofs.Made.{rows-made}
use Rattle.keep_safety.proofs.Names.{bytes-other}
use Rattle.keep_safety.proofs.Places.{line_at, left-line, left-fault, left-away, at-other, by-place}
use Rattle.keep_safety.proofs.Scans.{whole-linked, asked-given, wanted-more, wanted-named}
use Rattle.keep_safety.proofs.Signed.{SameDigests, HasHolder, signed, now-low}
use Rattle.keep_safety.proofs.Sound.{found-sound}

abbrev reply_if : Bool → Reply → Reply → Reply
reply_if b x y = if b then x else y

some-stored : (x y : Stored) → Some x ≡ Some y → x ≡ y
some-stored x y e = cc e

low-high : (a b t : ℕ) → a < t → t ≤ b → a ≡ b → ⊥
low-high a b t lt le e = omega arith

-- some device holds the digest
pub record IsHeld (c : Configuration) (past : Past) (h : List ℕ) : Type 0 where
  pub device : ℕ
  pub configured : device < length c.devices
  pub held : is_some (replica_of h (device_after c device past)) ≡ true

module _ (same : SameDigests) (c : Configuration) (past : Past) (reading : ℕ) (allowed : IsAllowed c past) (steady : IsSteady c past) (unforged : IsUnforged c past) where
  -- ---- a trash step of a digest that a row names leaves another holder
  module _ (d : ℕ) (h : List ℕ) (x : DeviceQuery) (configured : d < length c.devices) (goes : Goes (device_rules c d) reading h (device_after c d past) (line_at c d past reading x)) where
    abbrev r : ℕ
    r = round_now c past reading d h x allowed configured goes

    abbrev Other : Type 0
    Other = (k : ℕ) × (k < length c.devices) × (is_some (replica_of h (device_after c k past)) ≡ true) × (k ≡ d → ⊥)

    abbrev whole : IsGathered c (round_in r past)
    whole = (listed-now c past reading d h x allowed configured goes).whole

    -- where the plan keeps a holder
    kept-one : (ks : List ℕ) → 1 ≤ length ks → ((k : ℕ) → IsIn k ks → Other) → Other
    kept-one [] le f = absurd (omega arith)
    kept-one (k ∷ ks) le f = f k (inl refl)

    asked-other : IsNamed h (asked c r past) → Other
    asked-other n =
        let ended = has-ended r past whole.scanned in
        let at : IsIn n.row (rows c ended.0) = subst (λ o. IsIn n.row (option_map_or (rows c) o [])) ended.1 n.member in
        let made = rows-made c ended.0 (ended-allowed c r past ended.0 allowed ended.1) n.row at in
        let given = asked-given c r past allowed (whole-linked (round_in r past).scans whole.scanned) n.row n.member in
        let wanted = wanted-named h (scan_row n.row) (gathered_rows (round_in r past).scans) given n.named in
        let enough = enough-kept c past reading d h x allowed configured goes in
        let wants = made.wants in
        let is : n.row.made.want ≡ made.request.want = ap (λ (v : NewRecord). v.want) made.is in
        kept-one (kept_of c (round_in r past) h) (omega arith)
        (λ k i. (let s = kept-held c past reading d h x allowed configured goes k i in (k, s.exists, s.held, s.other)))

    late-other : IsLate c past h (threshold c.ttl c.skew whole.start) → Other
    late-other l = (l.device, l.configured, ap is_some l.there, λ e. too-old (subst (λ v. replica_of h (device_after c v past) ≡ Some l.stored) e l.there))
      where
        too-old : replica_of h (device_after c d past) ≡ Some l.stored → ⊥
        too-old e =
            let other = item-now c past reading d h x allowed configured goes in
            let is : goes.stored ≡ l.stored = some-stored goes.stored l.stored (sym goes.was ∙ e) in
            let time : goes.stored.mtime ≡ l.stored.mtime = ap (λ (v : Stored). v.mtime) is in
            low-high goes.item.mtime l.stored.mtime (threshold c.ttl c.skew whole.start) other.old l.late (goes.time ∙ time)

    other-holder : IsIn h (refs c past) → Other
    other-holder i = by (after-scan same c r whole.start past ended.0 allowed steady unforged ended.1 (λ k lt. was-cleared c (round_in r past) k whole lt) (subst (λ v. IsIn whole.start v) (sym whole.began) (inl refl)) (λ k y m t. none-above c past reading d h x allowed configured goes k m y t) h i)
      where
        ended : (p : Past) × (scanned r past ≡ Some p)
        ended = has-ended r past whole.scanned

        by : AskedOrLate c past r whole.start h → Other
        by (inl n) = asked-other n
        by (inr l) = late-other l

  -- ---- what a row names stays held
  module _ (h : List ℕ) (ref : IsIn h (refs c past)) where
    abbrev HeldAfter : Query → Answer → Type 0
    HeldAfter q a = (k : ℕ) × (k < length c.devices) × (is_some (replica_of h (left_by c k reading q a (device_after c k past))) ≡ true)

    line-held : (d : ℕ) (x : DeviceQuery) → d < length c.devices → is_some (replica_of h (device_after c d past)) ≡ true → HeldAfter (Q.Device d x) (A.Device (line_at c d past reading x).answer)
    line-held d x configured held = by (step-does (device_rules c d) reading (device_after c d past) (device-facts c d past allowed).sound.ascends h x)
      where
        here : is_some (replica_of h (line_at c d past reading x).state) ≡ true → HeldAfter (Q.Device d x) (A.Device (line_at c d past reading x).answer)
        here s = (d, configured, ap (λ s. is_some (replica_of h s)) (left-line c d past reading x) ∙ s)

        there : (k : ℕ) → k < length c.devices → is_some (replica_of h (device_after c k past)) ≡ true → (k ≡ d → ⊥) → HeldAfter (Q.Device d x) (A.Device (line_at c d past reading x).answer)
        there k lt s other = (k, lt, ap (λ s. is_some (replica_of h s)) (left-away c k past reading d x (line_at c d past reading x).answer (ne_eqb d k (λ e. other (sym e)))) ∙ s)

        by : Does (device_rules c d) reading (device_after c d past) (device-facts c d past allowed).sound.ascends h x (line_at c d past reading x) → HeldAfter (Q.Device d x) (A.Device (line_at c d past reading x).answer)
        by (inl k) = here (ap is_some k.same ∙ held)
        by (inr (inl k)) = here (ap is_some k.there)
        by (inr (inr k)) = let o = other-holder d h x configured k ref in there o.0 o.1 o.2 o.3

    held-next : (d : ℕ) → d < length c.devices → is_some (replica_of h (device_after c d past)) ≡ true → (q : Query) (a : Answer) → IsAnswered c past reading q a → HeldAfter q a
    held-next d configured held = by-place c d past reading HeldAfter
        (λ x lt. line-held d x configured held)
        (λ x. (d, configured, ap (λ s. is_some (replica_of h s)) (left-fault c d past reading x) ∙ held))
        (λ n x a e. (d, configured, ap (λ s. is_some (replica_of h s)) (left-away c d past reading n x a e) ∙ held))
        (λ x a e. (d, configured, held))

-- ---- after any past
module _ (same : SameDigests) (c : Configuration) (past : Past) (e : Event) (allowed : IsAllowed c past) (m : MayFollow c past e) (steady : IsSteady c past) (unforged : IsUnforged c past) (low : now past ≤ e.reading + skew c) (accepts : EventAcceptsIssued c past e.query e.answer)
    (before : (h : List ℕ) → IsIn h (refs c past) → IsHeld c past h) where
  old-held : (h : List ℕ) → IsIn h (refs c past) → IsHeld c (e ∷ past) h
  old-held h i =
      let b = before h i in
      let k = held-next same c past e.reading allowed steady unforged h i b.device b.configured b.held e.query e.answer m.answered in
      record { device = k.0; configured = k.1; held = k.2 }

  table-still : (k : ℕ) (t : TableQuery) (q : Query) (a : Answer) → q ≡ Q.Table t → left_by c k e.reading q a (device_after c k past) ≡ device_after c k past
  table-still k t q a is = subst (λ q. left_by c k e.reading q a (device_after c k past) ≡ device_after c k past) (sym is) refl

  new-held : (h : List ℕ) (t : TableQuery) (s : Signature) → e.query ≡ Q.Table t → s.digest ≡ h → HasHolder c past s → IsHeld c (e ∷ past) h
  new-held h t s is digest (inl p) = record {
    device = p.device;
    configured = p.configured;
    held = ap (λ v. is_some (replica_of h v)) (table-still p.device t e.query e.answer is) ∙ ap (λ v. is_some (replica_of v (device_after c p.device past))) (sym digest) ∙ ap is_some p.there;
  }
  new-held h t s is digest (inr p) = old-held h (subst (λ v. IsIn v (refs c past)) digest (of-named c past s.digest p.row p.member p.stays.named))

  row-held : (h : List ℕ) (x : Row) → IsAccepted c past e.reading e.query x → IsIn h x.made.named → IsHeld c (e ∷ past) h
  row-held h x accepted named = by accepted.is
    where
      by : ((o : Row) × IsIn o (rows c past) × (scan_row x ≡ scan_row o)) ⊎ ((t : TableQuery) × (e.query ≡ Q.Table t) × ((h : List ℕ) → IsIn h x.made.named → WasSigned c past e.reading h)) → IsHeld c (e ∷ past) h
      by (inl o) = old-held h (of-named c past h o.0 o.1 (subst (λ v. IsIn h v) (ap (λ (v : ScanRow). v.digests) o.2) named))
      by (inr new) =
          let s = new.2 h named in
          let l = s.later in
          new-held h new.0 s.signature new.1 s.digest_is (signed same c past allowed steady s.signature s.issued_before (omega arith))

  refs-next : (h : List ℕ) → IsIn h (refs c (e ∷ past)) → IsHeld c (e ∷ past) h
  refs-next h i =
      let n = named-of c (e ∷ past) h i in
      row-held h n.row (accepted-row c past e.reading e.query e.answer m.answered accepts n.row n.member) n.named

-- each digest that a held row names is held by some device
pub refs-held : (same : SameDigests) (c : Configuration) (past : Past) → IsAllowed c past → IsSteady c past → IsUnforged c past → (h : List ℕ) → IsIn h (refs c past) → IsHeld c past h
refs-held same c [] a s u h i = absurd i
refs-held same c (e ∷ past) a s u h i = refs-next same c past e a.1 a.0 s.1 u.1 (now-low past (e.reading + skew c) s.0) u.0 (refs-held same c past a.1 s.1 u.1) h i

-- ---- a device that holds a digest gives it
module _ (c : Configuration) (past : Past) (h : List ℕ) (allowed : IsAllowed c past) (d : ℕ) where
  fetch-gives : (reading : ℕ) (o : Option Stored) → replica_of h (device_after c d past) ≡ o → is_some o ≡ true → GivesBlock h (A.Device (line_at c d past reading (DQ.Fetch h)).answer)
  unfolding machine.fetch
  fetch-gives reading None is some = cc some
  fetch-gives reading (Some x) is some =
      let sound = found-sound (replica h) x (device_after c d past).held (device-facts c d past allowed).sound is in
      subst (λ o. GivesBlock h (A.Device (machine.fetched h (device_after c d past) o).answer)) (sym is) (block x (bytes_eq (md5 x.bytes) h) refl sound)
    where
      block : (x : Stored) (b : Bool) → bytes_eq (md5 x.bytes) h ≡ b → md5 x.bytes ≡ h → GivesBlock h (A.Device (reply_if b (machine.stays (D.Block x.bytes) (device_after c d past)) (machine.stays (D.Corrupt (md5 x.bytes)) (device_after c d past))).answer)
      block x true e same = same
      block x false e same = absurd (bytes-other (md5 x.bytes) h e same)

  pub gives : is_some (replica_of h (device_after c d past)) ≡ true → (e : Event) → e.query ≡ Q.Device d (DQ.Fetch h) → IsAllowed c (e ∷ past) → GivesBlock h e.answer
  gives some e is next = answer e.query e.answer is next.0.answered
    where
      answer : (q : Query) (a : Answer) → q ≡ Q.Device d (DQ.Fetch h) → IsAnswered c past e.reading q a → GivesBlock h a
      answer q a is h' = told a (subst (λ q. IsAnswered c past e.reading q a) is h')
        where
          told : (a : Answer) → IsAnswered c past e.reading (Q.Device d (DQ.Fetch h)) a → GivesBlock h a
          told (A.Device x) k = device x k.1
            where
              device : (x : DeviceAnswer) → (x ≡ (line_at c d past e.reading (DQ.Fetch h)).answer) ⊎ ((x ≡ D.StoreFault) × (machine.may_fault (DQ.Fetch h) ≡ true)) → GivesBlock h (A.Device x)
              device x (inl at) = subst (λ x. GivesBlock h (A.Device x)) (sym at) (fetch-gives e.reading (replica_of h (device_after c d past)) refl some)
              device x (inr at) = subst (λ x. GivesBlock h (A.Device x)) (sym at.0) tt
          told (A.Table x) k = absurd k

readable-of : (c : Configuration) (past : Past) (h : List ℕ) → IsAllowed c past → IsHeld c past h → IsReadable c past h
readable-of c past h allowed k = record {
  device = k.device;
  configured = k.configured;
  held = (device-facts c k.device past allowed).holds_is h ∙ k.held;
  fetched = gives c past h allowed k.device k.held;
}

live-parts : (c : Configuration) (past : Past) (s : Signature) → IsIn s (live c past) → IsIn s (issued c past) × (now past ≤ s.expiry * 10 ^ 9 + skew c)
live-parts c past s i = let p = in-filter (is_live c past) s (issued c past) i in (p.0, leb-true (now past) (s.expiry * 10 ^ 9 + skew c) p.1)

pub safe : (same : SameDigests) (c : Configuration) (past : Past) → IsAllowed c past → IsSteady c past → IsUnforged c past → IsSafe c past
safe same c past a s u h i = readable-of c past h a (by (in-either h (refs c past) (map (λ s. s.digest) (live c past)) i))
  where
    holder : (g : Signature) → HasHolder c past g → IsHeld c past g.digest
    holder g (inl p) = record { device = p.device; configured = p.configured; held = ap is_some p.there }
    holder g (inr p) = refs-held same c past a s u g.digest (of-named c past g.digest p.row p.member p.stays.named)

    by : IsIn h (refs c past) ⊎ IsIn h (map (λ (s : Signature). s.digest) (live c past)) → IsHeld c past h
    by (inl i) = refs-held same c past a s u h i
    by (inr i) =
        let m = in-map (λ (s : Signature). s.digest) h (live c past) i in
        let l = live-parts c past m.from m.member in
        subst (λ v. IsHeld c past v) (sym m.is) (holder m.from (signed same c past a s m.from l.0 l.1))

-- ---- each trash step leaves enough
module _ (c : Configuration) (past : Past) (e : Event) (allowed : IsAllowed c past) where
  -- a kept holder on another device holds it after the event
  still-holds : (k d : ℕ) (h : List ℕ) (x : DeviceQuery) (a : DeviceAnswer) → (k ≡ d → ⊥) → is_some (replica_of h (device_after c k past)) ≡ true → holds_after k h (Q.Device d x) (A.Device a) (holds k h past) ≡ true
  still-holds k d h x a other held = at-other d k (held_after h (digest_named x) a (holds k h past)) (holds k h past) (ne_eqb d k (λ e. other (sym e))) ∙ (device-facts c k past allowed).holds_is h ∙ held

  rows-given : (r : ℕ) (h : List ℕ) → IsGathered c (round_in r past) → wanted_in h (map scan_row (asked c r past)) ≤ wanted_in h (gathered_rows (round_in r past).scans)
  rows-given r h whole = wanted-more h (map scan_row (asked c r past)) (gathered_rows (round_in r past).scans)
      (λ x i. (let m = in-map scan_row x (asked c r past) i in subst (λ v. IsIn v (gathered_rows (round_in r past).scans)) (sym m.is) (asked-given c r past allowed (whole-linked (round_in r past).scans whole.scanned) m.from m.member)))

  goes-enough : (d : ℕ) (h : List ℕ) (x : DeviceQuery) → d < length c.devices → Goes (device_rules c d) e.reading h (device_after c d past) (line_at c d past e.reading x) → e.query ≡ Q.Device d x → e.answer ≡ A.Device (line_at c d past e.reading x).answer →
      wanted_in h (map scan_row (asked c (device_after c d past).round (e ∷ past))) ≤ copies c h (e ∷ past)
  goes-enough d h x configured goes query answer =
      let listed = listed-now c past e.reading d h x allowed configured goes in
      let ended = has-ended (device_after c d past).round past listed.whole.scanned in
      let given = rows-given (device_after c d past).round h listed.whole in
      let left = copies-left c past e.reading d h x allowed configured goes e (λ k s. event-holds k s.other s.held) in
      let is = ap (λ v. wanted_in h (map scan_row v)) (asked-stays c (device_after c d past).round e past ended.0 ended.1) in
      omega arith
    where
      event-holds : (k : ℕ) → (k ≡ d → ⊥) → is_some (replica_of h (device_after c k past)) ≡ true → holds_after k h e.query e.answer (holds k h past) ≡ true
      event-holds k other held = ap (λ q. holds_after k h q e.answer (holds k h past)) query ∙ ap (λ a. holds_after k h (Q.Device d x) a (holds k h past)) answer ∙ still-holds k d h x (line_at c d past e.reading x).answer other held

  trash-enough : (d : ℕ) (h : List ℕ) (x : DeviceQuery) (deadline r : ℕ) → d < length c.devices → (line_at c d past e.reading x).answer ≡ D.Trashed h deadline r → e.query ≡ Q.Device d x → e.answer ≡ A.Device (line_at c d past e.reading x).answer →
      wanted_in h (map scan_row (asked c r (e ∷ past))) ≤ copies c h (e ∷ past)
  trash-enough d h x deadline r configured is query answer = by (step-does (device_rules c d) e.reading (device_after c d past) (device-facts c d past allowed).sound.ascends h x)
    where
      by : Does (device_rules c d) e.reading (device_after c d past) (device-facts c d past allowed).sound.ascends h x (line_at c d past e.reading x) → wanted_in h (map scan_row (asked c r (e ∷ past))) ≤ copies c h (e ∷ past)
      by (inl k) = absurd (k.keeps deadline r is)
      by (inr (inl k)) = absurd (k.keeps h deadline r is)
      by (inr (inr k)) = subst (λ r. wanted_in h (map scan_row (asked c r (e ∷ past))) ≤ copies c h (e ∷ past)) (trashed-round h h k.deadline deadline (device_after c d past).round r (sym k.answered ∙ is)) (goes-enough d h x configured k query answer)

  -- an event that answers Trashed is a line of a device
  enough : (q : Query) (a : Answer) → e.query ≡ q → e.answer ≡ a → IsAnswered c past e.reading q a → LeavesEnough c past e a
  enough (Q.Device d x) (A.Device (D.Trashed h deadline r)) query answer is = by is.1
    where
      by : (D.Trashed h deadline r ≡ (line_at c d past e.reading x).answer) ⊎ ((D.Trashed h deadline r ≡ D.StoreFault) × (machine.may_fault x ≡ true)) → wanted_in h (map scan_row (asked c r (e ∷ past))) ≤ copies c h (e ∷ past)
      by (inl at) = trash-enough d h x deadline r is.0 (sym at) query (answer ∙ ap A.Device at)
      by (inr at) = cc at.0
  enough (Q.Table x) (A.Device (D.Trashed h deadline r)) query answer is = absurd is
  enough _ _ query answer is = tt

pub kept : (c : Configuration) (past : Past) → IsAllowed c past → IsKept c past
kept c [] a = tt
kept c (e ∷ past) a = (enough c past e a.1 e.query e.answer refl refl a.0.answered, kept c past a.1)

pub throughout : (same : SameDigests) (c : Configuration) (past : Past) → IsAllowed c past → IsSteady c past → IsUnforged c past → IsSafeThroughout c past
throughout same c [] a s u = safe same c [] a s u
throughout same c (e ∷ past) a s u = (safe same c (e ∷ past) a s u, throughout same c past a.1 s.1 u.1)

pub signature-lifetime : SameDigests → (c : Configuration) → SignatureLifetime c
signature-lifetime same c past a = (kept c past a, throughout same c past a)
