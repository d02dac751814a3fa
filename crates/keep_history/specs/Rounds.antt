-- What a round gathers: from which devices and when it was given what. The plan of the round is computed from it. This is the project's own rule.
use Rattle.std.specs.Prelude.{ℕ, zero, suc, ◌==◌, List, [], ◌∷◌, ◌++◌, map, if◌then◌else◌}
use Rattle.std.specs.List.{flat_map}
use Rattle.keep_event.specs.declared.device.DeviceQuery.{DeviceQuery}
use Rattle.keep_event.specs.declared.device.DeviceQuery.TheVariants.{Clear, Page}
use Rattle.keep_event.specs.declared.device.DeviceAnswer.{DeviceAnswer}
use Rattle.keep_event.specs.declared.device.DeviceAnswer.TheVariants as D
use Rattle.keep_event.specs.Plan as plan
use Rattle.keep_event.specs.Plan.{Gathered}
use Rattle.keep_event.specs.declared.lists.Entry.{Entry}
use Rattle.keep_event.specs.declared.table.TableQuery.{TableQuery}
use Rattle.keep_event.specs.declared.table.TableQuery.TheVariants.{BeginRound, Scan}
use Rattle.keep_event.specs.declared.table.TableAnswer.{TableAnswer}
use Rattle.keep_event.specs.declared.table.TableAnswer.TheVariants as T
use Rattle.keep_event.specs.declared.event.Query.{Query}
use Rattle.keep_event.specs.declared.event.Query.TheVariants as Q
use Rattle.keep_event.specs.declared.event.Answer.{Answer}
use Rattle.keep_event.specs.declared.event.Answer.TheVariants as A

-- a page that a device gave, and the prefix that was asked for
pub record Given : Type 0 where
  pub device : ℕ
  pub prefix : List ℕ
  pub entries : List Entry

-- what a round was given, each list with the latest first: when it began, which devices were cleared, pages and scans
pub record Round : Type 0 where
  pub started : List ℕ
  pub cleared : List ℕ
  pub pages : List Given
  pub scans : List plan.Scan

abbrev pub no_round : Round
no_round = record { started = []; cleared = []; pages = []; scans = [] }

abbrev pub with_started : ℕ → Round → Round
with_started reading g = record { started = reading ∷ g.started; cleared = g.cleared; pages = g.pages; scans = g.scans }

abbrev pub with_cleared : ℕ → Round → Round
with_cleared d g = record { started = g.started; cleared = d ∷ g.cleared; pages = g.pages; scans = g.scans }

abbrev pub with_page : Given → Round → Round
with_page p g = record { started = g.started; cleared = g.cleared; pages = p ∷ g.pages; scans = g.scans }

abbrev pub with_scan : plan.Scan → Round → Round
with_scan s g = record { started = g.started; cleared = g.cleared; pages = g.pages; scans = s ∷ g.scans }

abbrev pub device_gave : ℕ → ℕ → DeviceQuery → DeviceAnswer → Round → Round
device_gave round d (Clear r) D.Cleared g = if r == round then with_cleared d g else g
device_gave round d (Page r prefix) (D.Page entries) g = if r == round then with_page (record { device = d; prefix = prefix; entries = entries }) g else g
device_gave round d _ _ g = g

abbrev pub table_gave : ℕ → TableQuery → TableAnswer → Round → Round
table_gave round BeginRound (T.Round r started) g = if r == round then with_started started g else g
table_gave round (Scan r after limit) (T.Rows rows last) g = if r == round then with_scan (record { after = after; rows = rows; last = last }) g else g
table_gave round _ _ g = g

abbrev pub gave : ℕ → Query → Answer → Round → Round
gave round (Q.Device d q) (A.Device a) g = device_gave round d q a g
gave round (Q.Table q) (A.Table a) g = table_gave round q a g
gave round (Q.Device d q) (A.Table a) g = g
gave round (Q.Table q) (A.Device a) g = g

-- the same as the plan takes it
abbrev pub page_of : Given → plan.Page
page_of p = record { device = p.device; entries = p.entries }

abbrev pub gathered : ℕ → ℕ → Round → Gathered
gathered round start g = record { round = round; started = start; pages = map page_of g.pages; scans = g.scans }

-- ---- the pages that a round asks for

abbrev pub digits : List ℕ
digits = 48 ∷ 49 ∷ 50 ∷ 51 ∷ 52 ∷ 53 ∷ 54 ∷ 55 ∷ 56 ∷ 57 ∷ 97 ∷ 98 ∷ 99 ∷ 100 ∷ 101 ∷ 102 ∷ []

abbrev pub longer : List (List ℕ) → List (List ℕ)
longer ps = flat_map (λ p. map (λ x. p ++ x ∷ []) digits) ps

-- the prefixes that a round asks for: all texts of so many digits, ascending
abbrev pub prefixes : ℕ → List (List ℕ)
prefixes zero = [] ∷ []
prefixes (suc n) = longer (prefixes n)
