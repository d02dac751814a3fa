-- When a round began, which devices were cleared for it and when its scans ended, once they have ended: `same-start`, `has-ended`, `started-low`.
use Rattle.std.proofs.Common.{◌≡◌, ◌≤◌, ◌<◌, ◌+◌, max, ℕ, List, [], ◌∷◌, Bool, true, false, ◌&&◌, refl, sym, ◌∙◌, ap, subst, Option, None, Some, arith, inl, inr, nat_eq}
use Rattle.std.specs.Prelude.{◌⊎◌}
use Rattle.std.proofs.lemmas.Bool.{eqb-true, eq-eqb, and_parts}
use Rattle.keep_spec.specs.Config.{Configuration}
use Rattle.keep_event.specs.Table as tables
use Rattle.keep_event.specs.declared.device.DeviceQuery.{DeviceQuery}
use Rattle.keep_event.specs.declared.device.DeviceQuery.TheVariants as DQ
use Rattle.keep_event.specs.declared.device.DeviceAnswer.{DeviceAnswer}
use Rattle.keep_event.specs.declared.device.DeviceAnswer.TheVariants as D
use Rattle.keep_event.specs.declared.table.TableQuery.{TableQuery}
use Rattle.keep_event.specs.declared.table.TableQuery.TheVariants as TQ
use Rattle.keep_event.specs.declared.table.TableAnswer.{TableAnswer}
use Rattle.keep_event.specs.declared.table.TableAnswer.TheVariants as T
use Rattle.keep_event.specs.declared.table.ScanRow.{ScanRow}
use Rattle.keep_event.specs.declared.event.Event.{Event}
use Rattle.keep_event.specs.declared.event.Query.{Query}
use Rattle.keep_event.specs.declared.event.Query.TheVariants as Q
use Rattle.keep_event.specs.declared.event.Answer.{Answer}
use Rattle.keep_event.specs.declared.event.Answer.TheVariants as A
use Rattle.keep_safety.specs.Allowed.{IsAllowed}
use Rattle.keep_spec.specs.Members.{IsIn}
use Rattle.keep_safety.specs.Past.{Past, table_after, IsAnswered}
use Rattle.keep_history.specs.Rounds.{Round, gave, device_gave, table_gave, with_cleared, with_page, with_started, with_scan}
use Rattle.keep_safety.specs.Rounds.{round_in, stage, at_stage, IsInOrder, AreWhole}
use Rattle.keep_safety.specs.Rows.{is_last_scan, first_of_two, scanned}
use Rattle.keep_safety.specs.Times.{now}
use Rattle.keep_safety.proofs.Scans.{AddsScan, adds-scan, round_if}
use Rattle.keep_safety.proofs.Settled.{HasStage, late}

-- ---- clears and beginnings stay once a scan has come
pub record SameStart (x g : Round) : Type 0 where
  pub started : x.started ≡ g.started
  pub cleared : x.cleared ≡ g.cleared

module _ (r : ℕ) (g : Round) where
  abbrev IsLater : Query → Answer → Type 0
  IsLater q a = (k : ℕ) → stage q a ≡ at_stage r k → 2 ≤ k

  same-if : (b : Bool) (x : Round) → SameStart x g → SameStart (round_if b x g) g
  same-if true x h = h
  same-if false x h = record { started = refl; cleared = refl }

  never-if : (n : ℕ) (b : Bool) (x : Round) → nat_eq n r ≡ b → (n ≡ r → ⊥) → SameStart (round_if b x g) g
  never-if n true x e never = absurd (never (eqb-true n r e))
  never-if n false x e never = record { started = refl; cleared = refl }

  not-now : (n j : ℕ) (q : Query) (a : Answer) → j < 2 → stage q a ≡ at_stage n j → IsLater q a → n ≡ r → ⊥
  not-now n j q a lt is l same = let high = l j (is ∙ ap (λ m. at_stage m j) same) in omega arith

  device-start : (d : ℕ) (q : DeviceQuery) (a : DeviceAnswer) → IsLater (Q.Device d q) (A.Device a) → SameStart (device_gave r d q a g) g
  device-start d (DQ.Clear n) a l = by a (not-now n 1 (Q.Device d (DQ.Clear n)) (A.Device a) (omega arith) refl l)
    where
      by : (a : DeviceAnswer) → (n ≡ r → ⊥) → SameStart (device_gave r d (DQ.Clear n) a g) g
      by D.Cleared never = never-if n (nat_eq n r) (with_cleared d g) refl never
      by _ never = record { started = refl; cleared = refl }
  device-start d (DQ.Page n prefix) a l = by a
    where
      by : (a : DeviceAnswer) → SameStart (device_gave r d (DQ.Page n prefix) a g) g
      by (D.Page entries) = same-if (nat_eq n r) (with_page (record { device = d; prefix = prefix; entries = entries }) g) (record { started = refl; cleared = refl })
      by _ = record { started = refl; cleared = refl }
  device-start d _ a l = record { started = refl; cleared = refl }

  table-start : (q : TableQuery) (a : TableAnswer) → IsLater (Q.Table q) (A.Table a) → SameStart (table_gave r q a g) g
  table-start TQ.BeginRound a l = by a l
    where
      by : (a : TableAnswer) → IsLater (Q.Table TQ.BeginRound) (A.Table a) → SameStart (table_gave r TQ.BeginRound a g) g
      by (T.Round n started) l = never-if n (nat_eq n r) (with_started started g) refl (not-now n 0 (Q.Table TQ.BeginRound) (A.Table (T.Round n started)) (omega arith) refl l)
      by _ l = record { started = refl; cleared = refl }
  table-start (TQ.Scan n after limit) a l = by a
    where
      by : (a : TableAnswer) → SameStart (table_gave r (TQ.Scan n after limit) a g) g
      by (T.Rows rows last) = same-if (nat_eq n r) (with_scan (record { after = after; rows = rows; last = last }) g) (record { started = refl; cleared = refl })
      by _ = record { started = refl; cleared = refl }
  table-start _ a l = record { started = refl; cleared = refl }

  start-stays : (q : Query) (a : Answer) → IsLater q a → SameStart (gave r q a g) g
  start-stays (Q.Device d q) (A.Device a) l = device-start d q a l
  start-stays (Q.Device d q) (A.Table a) l = record { started = refl; cleared = refl }
  start-stays (Q.Table q) (A.Table a) l = table-start q a l
  start-stays (Q.Table q) (A.Device a) l = record { started = refl; cleared = refl }

pub same-start : (r : ℕ) (past : Past) (q : Query) (a : Answer) → HasStage r 2 past → IsInOrder past q a → SameStart (gave r q a (round_in r past)) (round_in r past)
same-start r past q a h o = start-stays r (round_in r past) q a (λ k is. late r 2 k past q a h o is)

-- ---- scans that have ended
last-stage : (r : ℕ) (q : Query) (a : Answer) → is_last_scan r q a ≡ true → stage q a ≡ at_stage r 2
last-stage r (Q.Table (TQ.Scan n after limit)) (A.Table (T.Rows rows last)) e = ap (λ m. at_stage m 2) (eqb-true n r (and_parts (nat_eq n r) last e).0)
last-stage r _ _ e = cc e

ended-by : (r : ℕ) (e : Event) (past p : Past) (o : Option Past) → scanned r past ≡ o → (b : Bool) → is_last_scan r e.query e.answer ≡ b → first_of_two o b (e ∷ past) ≡ Some p → ((p : Past) → scanned r past ≡ Some p → HasStage r 2 past) → HasStage r 2 (e ∷ past)
ended-by r e past p (Some x) is b eb f rest = inr (rest x is)
ended-by r e past p None is true eb f rest = inl (last-stage r e.query e.answer eb)
ended-by r e past p None is false eb f rest = cc f

pub ended-stage : (r : ℕ) (past p : Past) → scanned r past ≡ Some p → HasStage r 2 past
ended-stage r [] p is = cc is
ended-stage r (e ∷ past) p is = ended-by r e past p (scanned r past) refl (is_last_scan r e.query e.answer) refl is (ended-stage r past)

-- what led to them was allowed
allowed-by : (c : Configuration) (r : ℕ) (e : Event) (past p : Past) (o : Option Past) → scanned r past ≡ o → (b : Bool) → first_of_two o b (e ∷ past) ≡ Some p → IsAllowed c (e ∷ past) → ((p : Past) → scanned r past ≡ Some p → IsAllowed c p) → IsAllowed c p
allowed-by c r e past p (Some x) is b f a rest = rest p (is ∙ f)
allowed-by c r e past p None is true f a rest = subst (λ o. IsAllowed c o) (some-past (e ∷ past) p f) a
  where
    some-past : (p q : Past) → Some p ≡ Some q → p ≡ q
    some-past p q e = cc e
allowed-by c r e past p None is false f a rest = cc f

pub ended-allowed : (c : Configuration) (r : ℕ) (past p : Past) → IsAllowed c past → scanned r past ≡ Some p → IsAllowed c p
ended-allowed c r [] p a is = cc is
ended-allowed c r (e ∷ past) p a is = allowed-by c r e past p (scanned r past) refl (is_last_scan r e.query e.answer) is a (λ p. ended-allowed c r past p a.1)

-- a round that is whole has ended its scans
has-ended-by : (o : Option Past) (b : Bool) (past : Past) → b ≡ true → (p : Past) × (first_of_two o b past ≡ Some p)
has-ended-by (Some x) b past e = (x, refl)
has-ended-by None true past e = (past, refl)
has-ended-by None false past e = cc e

still-ended-by : (o : Option Past) (b : Bool) (past p : Past) → o ≡ Some p → (p : Past) × (first_of_two o b past ≡ Some p)
still-ended-by None b past p e = cc e
still-ended-by (Some x) b past p e = (x, refl)

this-ends : (r after limit : ℕ) (rows : List ScanRow) (last : Bool) (q : Query) (a : Answer) → q ≡ Q.Table (TQ.Scan r after limit) → a ≡ A.Table (T.Rows rows last) → last ≡ true → is_last_scan r q a ≡ true
this-ends r after limit rows last q a asked is e =
    ap (λ q. is_last_scan r q a) asked ∙ ap (is_last_scan r (Q.Table (TQ.Scan r after limit))) is ∙ ap (λ b. b && last) (eq-eqb r r refl) ∙ e

pub has-ended : (r : ℕ) (past : Past) → AreWhole (round_in r past).scans → (p : Past) × (scanned r past ≡ Some p)
has-ended r [] w = absurd w
has-ended r (e ∷ past) w = by (adds-scan r e.query e.answer (round_in r past)) w (has-ended r past)
  where
    by : ((gave r e.query e.answer (round_in r past)).scans ≡ (round_in r past).scans) ⊎ AddsScan r e.query e.answer (round_in r past) → AreWhole (gave r e.query e.answer (round_in r past)).scans → (AreWhole (round_in r past).scans → (p : Past) × (scanned r past ≡ Some p)) → (p : Past) × (first_of_two (scanned r past) (is_last_scan r e.query e.answer) (e ∷ past) ≡ Some p)
    by (inl same) w rest = let p = rest (subst AreWhole same w) in still-ended-by (scanned r past) (is_last_scan r e.query e.answer) (e ∷ past) p.0 p.1
    by (inr s) w rest = has-ended-by (scanned r past) (is_last_scan r e.query e.answer) (e ∷ past) (this-ends r s.after s.limit s.rows s.last e.query e.answer s.asked s.answered (subst AreWhole s.scans w).0)

-- ---- a round began at a reading
pub record Begins (r start : ℕ) (q : Query) (a : Answer) : Type 0 where
  pub asked : q ≡ Q.Table TQ.BeginRound
  pub answered : a ≡ A.Table (T.Round r start)

begins-if : (r n started start : ℕ) (g : Round) (b : Bool) → nat_eq n r ≡ b → IsIn start (round_if b (with_started started g) g).started → IsIn start g.started ⊎ Begins r start (Q.Table TQ.BeginRound) (A.Table (T.Round n started))
begins-if r n started start g true e (inl same) = inr (record { asked = refl; answered = ap (λ m. A.Table (T.Round m started)) (eqb-true n r e) ∙ ap (λ m. A.Table (T.Round r m)) (sym same) })
begins-if r n started start g true e (inr i) = inl i
begins-if r n started start g false e i = inl i

started-if : (b : Bool) (x g : Round) (start : ℕ) → x.started ≡ g.started → IsIn start (round_if b x g).started → IsIn start g.started
started-if true x g start e i = subst (λ v. IsIn start v) e i
started-if false x g start e i = i

device-begins : (r start d : ℕ) (q : DeviceQuery) (a : DeviceAnswer) (g : Round) → IsIn start (device_gave r d q a g).started → IsIn start g.started
device-begins r start d (DQ.Clear n) a g = by a
  where
    by : (a : DeviceAnswer) → IsIn start (device_gave r d (DQ.Clear n) a g).started → IsIn start g.started
    by D.Cleared i = started-if (nat_eq n r) (with_cleared d g) g start refl i
    by _ i = i
device-begins r start d (DQ.Page n prefix) a g = by a
  where
    by : (a : DeviceAnswer) → IsIn start (device_gave r d (DQ.Page n prefix) a g).started → IsIn start g.started
    by (D.Page entries) i = started-if (nat_eq n r) (with_page (record { device = d; prefix = prefix; entries = entries }) g) g start refl i
    by _ i = i
device-begins r start d _ a g = λ i. i

table-begins : (r start : ℕ) (q : TableQuery) (a : TableAnswer) (g : Round) → IsIn start (table_gave r q a g).started → IsIn start g.started ⊎ Begins r start (Q.Table q) (A.Table a)
table-begins r start TQ.BeginRound a g = by a
  where
    by : (a : TableAnswer) → IsIn start (table_gave r TQ.BeginRound a g).started → IsIn start g.started ⊎ Begins r start (Q.Table TQ.BeginRound) (A.Table a)
    by (T.Round n started) i = begins-if r n started start g (nat_eq n r) refl i
    by _ i = inl i
table-begins r start (TQ.Scan n after limit) a g = by a
  where
    by : (a : TableAnswer) → IsIn start (table_gave r (TQ.Scan n after limit) a g).started → IsIn start g.started ⊎ Begins r start (Q.Table (TQ.Scan n after limit)) (A.Table a)
    by (T.Rows rows last) i = inl (started-if (nat_eq n r) (with_scan (record { after = after; rows = rows; last = last }) g) g start refl i)
    by _ i = inl i
table-begins r start _ a g = λ i. inl i

begins : (r start : ℕ) (q : Query) (a : Answer) (g : Round) → IsIn start (gave r q a g).started → IsIn start g.started ⊎ Begins r start q a
begins r start (Q.Device d q) (A.Device a) g i = inl (device-begins r start d q a g i)
begins r start (Q.Device d q) (A.Table a) g i = inl i
begins r start (Q.Table q) (A.Table a) g i = table-begins r start q a g i
begins r start (Q.Table q) (A.Device a) g i = inl i

begun-now : (c : Configuration) (past : Past) (reading r start : ℕ) (q : Query) (a : Answer) → q ≡ Q.Table TQ.BeginRound → a ≡ A.Table (T.Round r start) → IsAnswered c past reading q a → start ≡ reading
unfolding tables.begin_round
begun-now c past reading r start q a asked is h =
    let k : IsAnswered c past reading (Q.Table TQ.BeginRound) (A.Table (T.Round r start)) = subst (λ a. IsAnswered c past reading (Q.Table TQ.BeginRound) a) is (subst (λ q. IsAnswered c past reading q a) asked h) in
    told r ((table_after c past).rounds + 1) start reading k
  where
    told : (m n x y : ℕ) → T.Round m x ≡ T.Round n y → x ≡ y
    told m n x y e = cc e

pub started-low : (c : Configuration) (r start : ℕ) (past : Past) → IsAllowed c past → IsIn start (round_in r past).started → start ≤ now past
started-low c r start [] a i = absurd i
started-low c r start (e ∷ past) a i = by (begins r start e.query e.answer (round_in r past) i) (started-low c r start past a.1)
  where
    by : IsIn start (round_in r past).started ⊎ Begins r start e.query e.answer → (IsIn start (round_in r past).started → start ≤ now past) → start ≤ max e.reading (now past)
    by (inl i) rest = let le = rest i in omega arith
    by (inr b) rest = let same = begun-now c past e.reading r start e.query e.answer b.asked b.answered a.0.answered in omega arith
