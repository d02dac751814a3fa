-- The rounds of a past: what each gathered, when it is whole, and the order of its events.
use Rattle.std.specs.Prelude.{◌≡◌, ◌≤◌, ◌<◌, ℕ, ◌==◌, List, [], ◌∷◌, length, count_by, Bool, true, false, Option, None, Some, ⊤, if◌then◌else◌}
use Rattle.std.specs.List.{AllByRecursion}
use Rattle.std.specs.Str.{bytes_eq}
use Rattle.keep_spec.specs.Config.{Configuration}
use Rattle.keep_spec.specs.Members.{IsIn}
use Rattle.keep_event.specs.declared.device.DeviceQuery.{DeviceQuery}
use Rattle.keep_event.specs.declared.device.DeviceQuery.TheVariants.{Clear, Page, Accept}
use Rattle.keep_event.specs.Plan as plan
use Rattle.keep_event.specs.Plan.{reached}
use Rattle.keep_event.specs.declared.table.TableQuery.{TableQuery}
use Rattle.keep_event.specs.declared.table.TableQuery.TheVariants.{BeginRound, Scan}
use Rattle.keep_event.specs.declared.table.TableAnswer.TheVariants as T
use Rattle.keep_event.specs.declared.event.Query.{Query}
use Rattle.keep_event.specs.declared.event.Query.TheVariants as Q
use Rattle.keep_event.specs.declared.event.Answer.{Answer}
use Rattle.keep_event.specs.declared.event.Answer.TheVariants as A
use Rattle.keep_history.specs.Rounds.{Given, Round, no_round, gave, prefixes}
use Rattle.keep_safety.specs.Past.{Past}

-- what the events of a round gave
abbrev pub round_in : ℕ → Past → Round
round_in round [] = no_round
round_in round (e ∷ past) = gave round e.query e.answer (round_in round past)

-- ---- a round that is whole

abbrev pub is_page_of : ℕ → List ℕ → Given → Bool
is_page_of d prefix p = if p.device == d then bytes_eq p.prefix prefix else false

-- scans that go on one from another, none of them the last
abbrev pub AreChained : List plan.Scan → Type 0
AreChained [] = ⊤
AreChained (s ∷ earlier) = (s.last ≡ false) × (s.after ≡ reached earlier) × AreChained earlier

-- and a last one
abbrev pub AreWhole : List plan.Scan → Type 0
AreWhole [] = ⊥
AreWhole (s ∷ earlier) = (s.last ≡ true) × (s.after ≡ reached earlier) × AreChained earlier

-- A round began once, each device was cleared for it once and gave one page for each prefix, and the scans came to the end.
pub record IsGathered (c : Configuration) (g : Round) : Type 0 where
  pub start : ℕ
  pub began : g.started ≡ start ∷ []
  pub cleared : (d : ℕ) → d < length c.devices → count_by (λ x. x == d) g.cleared ≡ 1
  pub paged : (d : ℕ) → d < length c.devices → (prefix : List ℕ) → IsIn prefix (prefixes c.index_digits) → count_by (is_page_of d prefix) g.pages ≡ 1
  pub asked : AllByRecursion (λ p. IsIn p.prefix (prefixes c.index_digits)) g.pages
  pub scanned : AreWhole g.scans

-- ---- the order of a round's events

-- the round of an event, and its stage in it
pub record Stage : Type 0 where
  pub round : ℕ
  pub place : ℕ

abbrev pub at_stage : ℕ → ℕ → Option Stage
at_stage round place = Some (record { round = round; place = place })

abbrev pub device_stage : DeviceQuery → Option Stage
device_stage (Clear round) = at_stage round 1
device_stage (Page round prefix) = at_stage round 2
device_stage (Accept round lists) = at_stage round 3
device_stage _ = None

abbrev pub table_stage : TableQuery → Answer → Option Stage
table_stage BeginRound (A.Table (T.Round round started)) = at_stage round 0
table_stage (Scan round after limit) a = at_stage round 2
table_stage _ a = None

abbrev pub stage : Query → Answer → Option Stage
stage (Q.Device d q) a = device_stage q
stage (Q.Table q) a = table_stage q a

-- BeginRound, then Clear, then Page and Scan in any mixture, then Accept
abbrev pub MayPrecede : Option Stage → Option Stage → Type 0
MayPrecede (Some x) (Some y) = x.round ≡ y.round → x.place ≤ y.place
MayPrecede (Some x) None = ⊤
MayPrecede None y = ⊤

abbrev pub IsInOrder : Past → Query → Answer → Type 0
IsInOrder past q a = AllByRecursion (λ x. MayPrecede (stage x.query x.answer) (stage q a)) past
