-- What is held but wasn't asked for by a round has a replica that the round can't trash: `after-scan`.
use Rattle.std.proofs.Common.{◌≡◌, ◌≤◌, ◌<◌, ◌+◌, ◌*◌, ◌^◌, ℕ, List, [], ◌∷◌, length, Bool, true, false, refl, sym, ◌∙◌, ap, subst, Option, None, Some, IfSome, arith, inl, inr, le_trans}
use Rattle.std.specs.Prelude.{◌⊎◌}
use Rattle.std.specs.Option.{option_map_or}
use Rattle.keep_spec.specs.Config.{Configuration}
use Rattle.keep_spec.specs.Times.{threshold}
use Rattle.keep_event.specs.Device as machine
use Rattle.keep_event.specs.Device.{replica_of}
use Rattle.keep_event.specs.declared.names.Stored.{Stored}
use Rattle.keep_event.specs.declared.device.DeviceQuery.{DeviceQuery}
use Rattle.keep_event.specs.declared.table.ScanRow.{ScanRow}
use Rattle.keep_event.specs.declared.table.TableQuery.{TableQuery}
use Rattle.keep_event.specs.declared.event.Event.{Event}
use Rattle.keep_event.specs.declared.event.Query.{Query}
use Rattle.keep_event.specs.declared.event.Query.TheVariants as Q
use Rattle.keep_event.specs.declared.event.Answer.{Answer}
use Rattle.keep_event.specs.declared.event.Answer.TheVariants as A
use Rattle.keep_safety.specs.Allowed.{IsAllowed, MayFollow}
use Rattle.keep_spec.specs.Members.{IsIn}
use Rattle.keep_event.specs.World.{device_rules}
use Rattle.keep_safety.specs.Past.{Past, left_by, device_after, IsAnswered}
use Rattle.keep_safety.specs.Rounds.{round_in}
use Rattle.keep_safety.specs.Rows.{Row, rows, refs, asked, scanned, first_of_two, is_last_scan, scan_row}
use Rattle.keep_safety.specs.Signatures.{Signature, IsUnforged, EventAcceptsIssued}
use Rattle.keep_safety.specs.Times.{now, skew, IsSteady}
use Rattle.keep_safety.proofs.Accepted.{WasSigned, IsAccepted, accepted-row}
use Rattle.keep_safety.proofs.Begun.{same-start, ended-stage, started-low}
use Rattle.keep_safety.proofs.Devices.{device-facts, Trashes, HasTrashed}
use Rattle.keep_safety.proofs.Expiries.{lifetime}
use Rattle.keep_safety.proofs.Kept.{item-now, listed-now}
use Rattle.keep_safety.proofs.Lines.{Goes, Does, step-does}
use Rattle.keep_order.proofs.Lists.{in-joined, joined-in}
use Rattle.keep_safety.proofs.Places.{line_at, left-line, left-fault, left-away, by-place}
use Rattle.keep_safety.proofs.Signed.{SameDigests, HasHolder, signed, now-low}

below-not : (a b : ℕ) → a < b → b ≤ a → ⊥
below-not a b lt le = omega arith

-- a row that names the digest
pub record IsNamed (h : List ℕ) (rs : List Row) : Type 0 where
  pub row : Row
  pub member : IsIn row rs
  pub named : IsIn h row.made.named

pub named-of : (c : Configuration) (past : Past) (h : List ℕ) → IsIn h (refs c past) → IsNamed h (rows c past)
named-of c past h i = let j = in-joined (λ (r : Row). r.made.named) h (rows c past) i in record { row = j.from; member = j.member; named = j.has }

pub of-named : (c : Configuration) (past : Past) (h : List ℕ) (x : Row) → IsIn x (rows c past) → IsIn h x.made.named → IsIn h (refs c past)
of-named c past h x i j = joined-in (λ (r : Row). r.made.named) x h (rows c past) i j

-- a replica whose time isn't below a threshold
pub record IsLate (c : Configuration) (past : Past) (h : List ℕ) (low : ℕ) : Type 0 where
  pub device : ℕ
  pub configured : device < length c.devices
  pub stored : Stored
  pub there : replica_of h (device_after c device past) ≡ Some stored
  pub late : low ≤ stored.mtime

-- no round above this one has trashed
abbrev pub NoneAbove : ℕ → Past → Type 0
NoneAbove r past = (d : ℕ) (h : List ℕ) (m : ℕ) → HasTrashed d h m past → m ≤ r

abbrev pub AllCleared : Configuration → ℕ → Past → Type 0
AllCleared c r past = (d : ℕ) → d < length c.devices → IsIn d (round_in r past).cleared

-- ---- such a replica stays while no round above trashes
module _ (c : Configuration) (past : Past) (reading r start : ℕ) (h : List ℕ) (allowed : IsAllowed c past) (cleared : AllCleared c r past) (began : IsIn start (round_in r past).started) where
  abbrev LateAt : ℕ → machine.State → Type 0
  LateAt d s = (x : Stored) × (replica_of h s ≡ Some x) × (threshold c.ttl c.skew start ≤ x.mtime)

  abbrev NotAbove : ℕ → Query → Answer → Type 0
  NotAbove d q a = (m : ℕ) → Trashes d h m q a → m ≤ r

  only-start : (m gs : ℕ) → m ≡ r → (round_in m past).started ≡ gs ∷ [] → start ≡ gs
  only-start m gs same is = by (subst (λ v. IsIn start v) (sym (ap (λ k. (round_in k past).started) same) ∙ is) began)
    where
      by : (start ≡ gs) ⊎ ⊥ → start ≡ gs
      by (inl e) = e
      by (inr i) = absurd i

  line-late : (d : ℕ) (x : DeviceQuery) → d < length c.devices → LateAt d (device_after c d past) → NotAbove d (Q.Device d x) (A.Device (line_at c d past reading x).answer) → LateAt d (line_at c d past reading x).state
  line-late d x configured late above = by (step-does (device_rules c d) reading (device_after c d past) (device-facts c d past allowed).sound.ascends h x)
    where
      later : (o : Option Stored) (y : Stored) → o ≡ Some late.0 → IfSome o (λ b. b.mtime ≤ y.mtime) → late.0.mtime ≤ y.mtime
      later None y e le = cc e
      later (Some z) y e le = let same : z ≡ late.0 = cc e in omega (arith, le, ap (λ (v : Stored). v.mtime) same)

      same-stored : (y : Stored) → replica_of h (device_after c d past) ≡ Some y → y ≡ late.0
      same-stored y e = cc (sym e ∙ late.1)

      too-old : Goes (device_rules c d) reading h (device_after c d past) (line_at c d past reading x) → ⊥
      too-old k =
          let high = above (device_after c d past).round (subst (λ a. Trashes d h (device_after c d past).round (Q.Device d x) (A.Device a)) (sym k.answered) (refl, refl, refl)) in
          let low = (device-facts c d past allowed).cleared r (cleared d configured) in
          let same : (device_after c d past).round ≡ r = omega arith in
          let listed = listed-now c past reading d h x allowed configured k in
          let other = item-now c past reading d h x allowed configured k in
          let start_is = only-start (device_after c d past).round listed.whole.start same listed.whole.began in
          let time : k.stored.mtime ≡ late.0.mtime = ap (λ (v : Stored). v.mtime) (same-stored k.stored k.was) in
          let old : k.item.mtime < threshold c.ttl c.skew start = subst (λ v. k.item.mtime < threshold c.ttl c.skew v) (sym start_is) other.old in
          let t = late.2 in
          let i = k.time in
          absurd (below-not k.item.mtime (threshold c.ttl c.skew start) old (subst (λ v. threshold c.ttl c.skew start ≤ v) (sym (i ∙ time)) t))

      by : Does (device_rules c d) reading (device_after c d past) (device-facts c d past allowed).sound.ascends h x (line_at c d past reading x) → LateAt d (line_at c d past reading x).state
      by (inl k) = (late.0, k.same ∙ late.1, late.2)
      by (inr (inl k)) = (k.stored, k.there, le_trans late.2 (later (replica_of h (device_after c d past)) k.stored late.1 k.later))
      by (inr (inr k)) = absurd (too-old k)

  late-next : (d : ℕ) → d < length c.devices → LateAt d (device_after c d past) → (q : Query) (a : Answer) → IsAnswered c past reading q a → NotAbove d q a → LateAt d (left_by c d reading q a (device_after c d past))
  late-next d configured late = by-place c d past reading (λ q a. NotAbove d q a → LateAt d (left_by c d reading q a (device_after c d past)))
      (λ x lt above. subst (λ s. LateAt d s) (sym (left-line c d past reading x)) (line-late d x configured late above))
      (λ x above. subst (λ s. LateAt d s) (sym (left-fault c d past reading x)) late)
      (λ n x a e above. subst (λ s. LateAt d s) (sym (left-away c d past reading n x a e)) late)
      (λ x a e above. late)

-- ---- each digest that is held
abbrev pub AskedOrLate : Configuration → Past → ℕ → ℕ → List ℕ → Type 0
AskedOrLate c past r start h = IsNamed h (asked c r past) ⊎ IsLate c past h (threshold c.ttl c.skew start)

-- the rows that a round asked for stay the same once its scans have ended
asked-by : (c : Configuration) (r : ℕ) (e : Event) (past p : Past) (o : Option Past) → scanned r past ≡ o → o ≡ Some p → (b : Bool) → option_map_or (rows c) (first_of_two o b (e ∷ past)) [] ≡ option_map_or (rows c) (scanned r past) []
asked-by c r e past p None is some b = cc some
asked-by c r e past p (Some x) is some b = ap (λ o. option_map_or (rows c) o []) (sym is)

pub asked-stays : (c : Configuration) (r : ℕ) (e : Event) (past p : Past) → scanned r past ≡ Some p → asked c r (e ∷ past) ≡ asked c r past
asked-stays c r e past p is = asked-by c r e past p (scanned r past) refl is (is_last_scan r e.query e.answer)

module _ (same : SameDigests) (c : Configuration) (past : Past) (e : Event) (r start : ℕ) (allowed : IsAllowed c past) (m : MayFollow c past e) (steady : IsSteady c past) (low : now past ≤ e.reading + skew c) (unforged : EventAcceptsIssued c past e.query e.answer)
    (cleared : AllCleared c r past) (began : IsIn start (round_in r past).started) (above : NoneAbove r (e ∷ past)) (before : (h : List ℕ) → IsIn h (refs c past) → AskedOrLate c past r start h) where
  -- what was so before is so after
  still-so : (h : List ℕ) → asked c r (e ∷ past) ≡ asked c r past → AskedOrLate c past r start h → AskedOrLate c (e ∷ past) r start h
  still-so h is (inl n) = inl (subst (λ v. IsNamed h v) (sym is) n)
  still-so h is (inr l) =
      let k = late-next c past e.reading r start h allowed cleared began l.device l.configured (l.stored, l.there, l.late) e.query e.answer m.answered (λ n t. above l.device h n (inl t)) in
      inr (record { device = l.device; configured = l.configured; stored = k.0; there = k.1; late = k.2 })

  -- a put that was signed is late enough
  signed-so : (h : List ℕ) → asked c r (e ∷ past) ≡ asked c r past → (s : Signature) → s.digest ≡ h → e.reading ≤ s.expiry * 10 ^ 9 → HasHolder c past s → AskedOrLate c (e ∷ past) r start h
  signed-so h is s digest later (inl p) =
      let begun = started-low c r start past allowed began in
      still-so h is (inr (record {
        device = p.device;
        configured = p.configured;
        stored = p.stored;
        there = ap (λ v. replica_of v (device_after c p.device past)) (sym digest) ∙ p.there;
        late = late-enough p.late begun;
      }))
    where
      late-enough : s.expiry * 10 ^ 9 ≤ p.stored.mtime + lifetime c → start ≤ now past → threshold c.ttl c.skew start ≤ p.stored.mtime
      late-enough late begun = omega arith
  signed-so h is s digest later (inr p) = still-so h is (before h (subst (λ v. IsIn v (refs c past)) digest (of-named c past s.digest p.row p.member p.stays.named)))

  row-so : (h : List ℕ) → asked c r (e ∷ past) ≡ asked c r past → (x : Row) → IsAccepted c past e.reading e.query x → IsIn h x.made.named → AskedOrLate c (e ∷ past) r start h
  row-so h is x accepted named = by accepted.is
    where
      by : ((o : Row) × IsIn o (rows c past) × (scan_row x ≡ scan_row o)) ⊎ ((t : TableQuery) × (e.query ≡ Q.Table t) × ((h : List ℕ) → IsIn h x.made.named → WasSigned c past e.reading h)) → AskedOrLate c (e ∷ past) r start h
      by (inl o) = still-so h is (before h (of-named c past h o.0 o.1 (subst (λ v. IsIn h v) (ap (λ (v : ScanRow). v.digests) o.2) named)))
      by (inr new) =
          let s = new.2 h named in
          let l = s.later in
          signed-so h is s.signature s.digest_is s.later (signed same c past allowed steady s.signature s.issued_before (omega arith))

  ref-so : (p : Past) → scanned r past ≡ Some p → (h : List ℕ) → IsIn h (refs c (e ∷ past)) → AskedOrLate c (e ∷ past) r start h
  ref-so p is h i =
      let n = named-of c (e ∷ past) h i in
      row-so h (asked-stays c r e past p is) n.row (accepted-row c past e.reading e.query e.answer m.answered unforged n.row n.member) n.named

-- at the end of the scans each digest that is held is asked for
asked-at : (c : Configuration) (r : ℕ) (e : Event) (past p : Past) → scanned r past ≡ None → scanned r (e ∷ past) ≡ Some p → asked c r (e ∷ past) ≡ rows c (e ∷ past)
asked-at c r e past p none some = by (scanned r past) none (is_last_scan r e.query e.answer) some
  where
    by : (o : Option Past) → o ≡ None → (b : Bool) → first_of_two o b (e ∷ past) ≡ Some p → option_map_or (rows c) (first_of_two o b (e ∷ past)) [] ≡ rows c (e ∷ past)
    by (Some x) e b f = cc e
    by None e true f = refl
    by None e false f = cc f

-- Each digest that is held was asked for by a round whose scans have ended and for which each device was cleared before; or, while no round above has trashed, some device holds it with a time that isn't below the round's threshold.
pub after-scan : (same : SameDigests) (c : Configuration) (r start : ℕ) (past p : Past) → IsAllowed c past → IsSteady c past → IsUnforged c past → scanned r past ≡ Some p → AllCleared c r past → IsIn start (round_in r past).started → NoneAbove r past →
    (h : List ℕ) → IsIn h (refs c past) → AskedOrLate c past r start h
after-scan same c r start [] p a s u is cleared began above h i = cc is
after-scan same c r start (e ∷ past) p a s u is cleared began above h i = by (scanned r past) refl (λ q was cleared began above h i. after-scan same c r start past q a.1 s.1 u.1 was cleared began above h i)
  where
    by : (o : Option Past) → scanned r past ≡ o → ((q : Past) → scanned r past ≡ Some q → AllCleared c r past → IsIn start (round_in r past).started → NoneAbove r past → (h : List ℕ) → IsIn h (refs c past) → AskedOrLate c past r start h) → AskedOrLate c (e ∷ past) r start h
    by None none rest = inl (subst (λ v. IsNamed h v) (sym (asked-at c r e past p none is)) (named-of c (e ∷ past) h i))
    by (Some q) some rest =
        let st = same-start r past e.query e.answer (ended-stage r past q some) a.0.in_order in
        let cleared_before : AllCleared c r past = λ d lt. subst (λ v. IsIn d v) st.cleared (cleared d lt) in
        let began_before : IsIn start (round_in r past).started = subst (λ v. IsIn start v) st.started began in
        let above_before : NoneAbove r past = λ d h m t. above d h m (inr t) in
        ref-so same c past e r start a.1 a.0 s.1 (now-low past (e.reading + skew c) s.0) u.0 cleared_before began_before above (rest q some cleared_before began_before above_before) q some h i
