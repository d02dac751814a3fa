-- What a balance task asks next, phase by phase, and what an answer to it adds to the round.
use Rattle.std.proofs.Common.{◌≡◌, ◌<◌, ℕ, List, [], ◌∷◌, Bool, true, false, max, refl, sym, ap, subst, Option, None, Some, if◌then◌else◌}
use Rattle.std.specs.Prelude.{nat_lt}
use Rattle.std.proofs.lemmas.Bool.{eq-eqb, lt-ltb}
use Rattle.keep_spec.specs.Config.{Configuration}
use Rattle.keep_event.specs.declared.lists.Entry.{Entry}
use Rattle.keep_event.specs.declared.lists.Lists.{Lists}
use Rattle.keep_event.specs.declared.table.ScanRow.{ScanRow}
use Rattle.keep_event.specs.declared.device.DeviceQuery.{DeviceQuery}
use Rattle.keep_event.specs.declared.device.DeviceQuery.TheVariants as DQ
use Rattle.keep_event.specs.declared.device.DeviceAnswer.{DeviceAnswer}
use Rattle.keep_event.specs.declared.device.DeviceAnswer.TheVariants as D
use Rattle.keep_event.specs.declared.table.TableQuery.{TableQuery}
use Rattle.keep_event.specs.declared.table.TableQuery.TheVariants as TQ
use Rattle.keep_event.specs.declared.table.TableAnswer.{TableAnswer}
use Rattle.keep_event.specs.declared.table.TableAnswer.TheVariants as T
use Rattle.keep_event.specs.declared.event.Query.{Query}
use Rattle.keep_event.specs.declared.event.Query.TheVariants as Q
use Rattle.keep_event.specs.declared.event.Answer.{Answer}
use Rattle.keep_event.specs.declared.event.Answer.TheVariants as A
use Rattle.keep_history.specs.Rounds.{Round, gave, with_cleared, with_page, with_scan}
use Rattle.keep_event.specs.Plan.{reached}
use Rattle.keep_history.specs.Next.{Next, asks, ends, ends_or}
use Rattle.keep_history.specs.declared.task.Outcome.{Outcome}
use Rattle.keep_history.specs.declared.task.Outcome.TheVariants.{Disordered}
use Rattle.keep_history.specs.Balance.{page_on, to_clear, to_page, to_accept, round_next, clear_next, page_next, scan_next, accept_next, cleared_after, round_refused, disordered, page_end, balance_end}
use Rattle.keep_event.specs.Plan.{has_ended}
use Rattle.keep_rounds.specs.Balance.{lists_for}

-- ---- the phases
pub data Asked (c : Configuration) (n : Option ℕ) (g : Round) (k : List Bool) (q : Query) : Type 0 where
  begins : n ≡ None → q ≡ Q.Table TQ.BeginRound → Asked c n g k q
  clears : (r d : ℕ) (ds : List ℕ) → n ≡ Some r → to_clear c g ≡ d ∷ ds → q ≡ Q.Device d (DQ.Clear r) → Asked c n g k q
  pages : (r d : ℕ) (prefix : List ℕ) (xs : List (ℕ × List ℕ)) → n ≡ Some r → to_clear c g ≡ [] → to_page c g ≡ page_on d prefix ∷ xs → q ≡ Q.Device d (DQ.Page r prefix) → Asked c n g k q
  scans : (r : ℕ) → n ≡ Some r → to_clear c g ≡ [] → to_page c g ≡ [] → has_ended g.scans ≡ false → q ≡ Q.Table (TQ.Scan r (reached g.scans) c.scan_limit) → Asked c n g k q
  accepts : (r d : ℕ) (ds : List ℕ) → n ≡ Some r → to_clear c g ≡ [] → to_page c g ≡ [] → has_ended g.scans ≡ true → to_accept c k ≡ d ∷ ds → q ≡ Q.Device d (DQ.Accept r (lists_for c r g d)) → Asked c n g k q

abbrev query_of : Next → Query
query_of (asks q) = q
query_of (ends o) = Q.Table TQ.BeginRound

module _ (c : Configuration) (g : Round) (k : List Bool) (q : Query) where
  by-accept : (r : ℕ) (ds : List ℕ) → to_clear c g ≡ [] → to_page c g ≡ [] → has_ended g.scans ≡ true → to_accept c k ≡ ds → accept_next c r g k ds ≡ asks q → Asked c (Some r) g k q
  by-accept r [] u v w x e = cc e
  by-accept r (d ∷ ds) u v w x e = accepts r d ds refl u v w x (sym (ap query_of e))

  by-scan : (r : ℕ) (b : Bool) → to_clear c g ≡ [] → to_page c g ≡ [] → has_ended g.scans ≡ b → scan_next c r g k b ≡ asks q → Asked c (Some r) g k q
  by-scan r true u v w e = by-accept r (to_accept c k) u v w refl e
  by-scan r false u v w e = scans r refl u v w (sym (ap query_of e))

  by-page : (r : ℕ) (ps : List (ℕ × List ℕ)) → to_clear c g ≡ [] → to_page c g ≡ ps → page_next c r g k ps ≡ asks q → Asked c (Some r) g k q
  by-page r [] u v e = by-scan r (has_ended g.scans) u v refl e
  by-page r (x ∷ xs) u v e = pages r x.0 x.1 xs refl u v (sym (ap query_of e))

  by-clear : (r : ℕ) (ds : List ℕ) → to_clear c g ≡ ds → clear_next c r g k ds ≡ asks q → Asked c (Some r) g k q
  by-clear r [] u e = by-page r (to_page c g) u refl e
  by-clear r (d ∷ ds) u e = clears r d ds refl u (sym (ap query_of e))

  by-number : (n : Option ℕ) → round_next c n g k ≡ asks q → Asked c n g k q
  by-number None e = begins refl (sym (ap query_of e))
  by-number (Some r) e = by-clear r (to_clear c g) refl e

  pub asked-next : (o : Option Outcome) (n : Option ℕ) → ends_or o (round_next c n g k) ≡ asks q → Asked c n g k q
  asked-next None n e = by-number n e
  asked-next (Some x) n e = cc e

-- ---- what an answer adds
module _ (r d : ℕ) (g : Round) where
  pub clear-case : (P : Round → ℕ → Type 0) (tick before : ℕ) → P (with_cleared d g) (max before tick) → P g before → (a : Answer) →
      P (gave r (Q.Device d (DQ.Clear r)) a g) (cleared_after tick (Q.Device d (DQ.Clear r)) a before)
  clear-case P tick before adds stays (A.Table a) = stays
  clear-case P tick before adds stays (A.Device a) = by a
    where
      by : (a : DeviceAnswer) → P (gave r (Q.Device d (DQ.Clear r)) (A.Device a) g) (cleared_after tick (Q.Device d (DQ.Clear r)) (A.Device a) before)
      by D.Cleared = subst (λ b. P (if b then with_cleared d g else g) (max before tick)) (sym (eq-eqb r r refl)) adds
      by _ = stays

  pub page-case : (prefix : List ℕ) (P : Round → Type 0) → ((entries : List Entry) → P (with_page (record { device = d; prefix = prefix; entries = entries }) g)) → P g → (a : Answer) →
      P (gave r (Q.Device d (DQ.Page r prefix)) a g)
  page-case prefix P adds stays (A.Table a) = stays
  page-case prefix P adds stays (A.Device a) = by a
    where
      by : (a : DeviceAnswer) → P (gave r (Q.Device d (DQ.Page r prefix)) (A.Device a) g)
      by (D.Page entries) = subst (λ b. P (if b then with_page (record { device = d; prefix = prefix; entries = entries }) g else g)) (sym (eq-eqb r r refl)) (adds entries)
      by _ = stays

  pub scan-case : (after limit : ℕ) (P : Round → Type 0) → ((rows : List ScanRow) (last : Bool) → P (with_scan (record { after = after; rows = rows; last = last }) g)) → P g → (a : Answer) →
      P (gave r (Q.Table (TQ.Scan r after limit)) a g)
  scan-case after limit P adds stays (A.Device a) = stays
  scan-case after limit P adds stays (A.Table a) = by a
    where
      by : (a : TableAnswer) → P (gave r (Q.Table (TQ.Scan r after limit)) (A.Table a) g)
      by (T.Rows rows last) = subst (λ b. P (if b then with_scan (record { after = after; rows = rows; last = last }) g else g)) (sym (eq-eqb r r refl)) (adds rows last)
      by _ = stays

  pub accept-case : (lists : Lists) (P : Round → Type 0) → P g → (a : Answer) → P (gave r (Q.Device d (DQ.Accept r lists)) a g)
  accept-case lists P stays (A.Table a) = stays
  accept-case lists P stays (A.Device a) = stays

-- ---- ticks in order
module _ (earlier later x y : ℕ) where
  rising : earlier < later → disordered earlier later ≡ Some (Disordered x y) → ⊥
  rising lt e = by (nat_lt earlier later) (lt-ltb earlier later lt) e
    where
      by : (b : Bool) → b ≡ true → (if b then None else Some (Disordered earlier later)) ≡ Some (Disordered x y) → ⊥
      by true is e = cc e
      by false is e = cc is

  refused-other : (d : ℕ) (a : DeviceAnswer) → round_refused d a ≡ Some (Disordered x y) → ⊥
  refused-other d (D.Stale held) e = cc e
  refused-other d D.StoreFault e = cc e
  refused-other d _ e = cc e

  page-other : (d : ℕ) (a : DeviceAnswer) → earlier < later → page_end earlier later d a ≡ Some (Disordered x y) → ⊥
  page-other d (D.Page entries) lt e = rising lt e
  page-other d a lt e = refused-other d a e

  device-ordered : (d : ℕ) (q : DeviceQuery) (a : DeviceAnswer) → earlier < later → balance_end earlier later (Q.Device d q) (A.Device a) ≡ Some (Disordered x y) → ⊥
  device-ordered d (DQ.Clear round) a lt e = refused-other d a e
  device-ordered d (DQ.Page round prefix) a lt e = page-other d a lt e
  device-ordered d _ a lt e = cc e

  table-ordered : (q : TableQuery) (a : TableAnswer) → earlier < later → balance_end earlier later (Q.Table q) (A.Table a) ≡ Some (Disordered x y) → ⊥
  table-ordered (TQ.Scan round after limit) a lt e = by a e
    where
      by : (a : TableAnswer) → balance_end earlier later (Q.Table (TQ.Scan round after limit)) (A.Table a) ≡ Some (Disordered x y) → ⊥
      by (T.Rows rows last) e = rising lt e
      by _ e = cc e
  table-ordered _ a lt e = cc e

  other-ordered : (d : ℕ) (q : DeviceQuery) (a : TableAnswer) → balance_end earlier later (Q.Device d q) (A.Table a) ≡ Some (Disordered x y) → ⊥
  other-ordered d (DQ.Clear round) a e = cc e
  other-ordered d (DQ.Page round prefix) a e = cc e
  other-ordered d _ a e = cc e

  else-ordered : (q : TableQuery) (a : DeviceAnswer) → balance_end earlier later (Q.Table q) (A.Device a) ≡ Some (Disordered x y) → ⊥
  else-ordered (TQ.Scan round after limit) a e = cc e
  else-ordered _ a e = cc e

  pub ordered-end : (q : Query) (a : Answer) → earlier < later → balance_end earlier later q a ≡ Some (Disordered x y) → ⊥
  ordered-end (Q.Device d q) (A.Device a) lt e = device-ordered d q a lt e
  ordered-end (Q.Device d q) (A.Table a) lt e = other-ordered d q a e
  ordered-end (Q.Table q) (A.Table a) lt e = table-ordered q a lt e
  ordered-end (Q.Table q) (A.Device a) lt e = else-ordered q a e
