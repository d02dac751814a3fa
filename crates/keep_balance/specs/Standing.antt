-- Where a balance task stands after its answers, as its fields show it. For private clauses.
use Rattle.std.specs.Prelude.{◌≡◌, ◌≤◌, ◌+◌, ℕ, List, [], ◌∷◌, ◌++◌, length, map, flat_map, drop, reverse, count_by, sum_by, Bool, true, false, Option, None, Some}
use Rattle.keep_spec.specs.Config.{Configuration}
use Rattle.keep_spec.specs.Members.{numbers_from}
use Rattle.keep_spec.specs.Times.{threshold}
use Rattle.keep_event.specs.Plan.{Gathered, nothing_gathered, planned, planned_lists, lost, reached, has_ended, last_revision, with_scan}
use Rattle.keep_event.specs.declared.device.DeviceQuery.TheVariants as DQ
use Rattle.keep_event.specs.declared.table.TableQuery.TheVariants as TQ
use Rattle.keep_event.specs.declared.event.Query.{Query}
use Rattle.keep_event.specs.declared.event.Query.TheVariants as Q
use Rattle.keep_event.specs.declared.event.Answer.{Answer}
use Rattle.keep_event.specs.declared.event.Answer.TheVariants as A
use Rattle.keep_event.specs.declared.lists.Lists.{Lists}
use Rattle.keep_event.specs.declared.table.ScanRow.{ScanRow}
use Rattle.keep_history.specs.Next.{Answered, Next, ends, GoesFrom}
use Rattle.keep_history.specs.Rounds.{Round, prefixes}
use Rattle.keep_history.specs.Balance.{Balancing, new_balance, balance_next, balance_after, all_gathered, start_of, page_on, to_clear, to_page, to_accept, round_refused}
use Rattle.keep_history.specs.declared.task.Outcome.{Outcome}
use Rattle.keep_history.specs.declared.task.Outcome.TheVariants as O
use Rattle.keep_balance.specs.declared.task.BalanceTask.{BalanceTask}
use Rattle.keep_balance.specs.declared.task.Place.{Place}
use Rattle.keep_balance.specs.declared.task.Place.TheVariants.{Begin, Clear, Page, Scan, Accept}

-- an answer, with the number of its event
abbrev pub given : ℕ → Answer → Answered
given tick answer = record { tick = tick; answer = answer }

-- how an answer to a clear, or to a page where it has none, ends the task
abbrev pub refused_by : ℕ → Answer → Option Outcome
refused_by d (A.Device answer) = round_refused d answer
refused_by d (A.Table answer) = None

-- ---- what is missing

-- pages of one device by these prefixes, and then those of the devices after it
abbrev pub pages_from : List (List ℕ) → ℕ → ℕ → List (List ℕ) → List (ℕ × List ℕ)
pages_from texts d left rest = map (page_on d) rest ++ flat_map (λ d. map (page_on d) texts) (numbers_from (d + 1) left)

-- the page of a device by a prefix is the first of these; `next` is the number of the prefix after it
pub record IsPage (texts : List (List ℕ)) (devices round : ℕ) (missing : List (ℕ × List ℕ)) (d next : ℕ) (query : Query) : Type 0 where
  pub prefix : List ℕ
  pub left : ℕ
  pub all : d + 1 + left ≡ devices
  pub missing_is : missing ≡ page_on d prefix ∷ pages_from texts d left (drop next texts)
  pub query_is : query ≡ Q.Device d (DQ.Page round prefix)

-- the first page of these is asked, or without one the first rows
abbrev pub AsksPage : List (List ℕ) → ℕ → ℕ → ℕ → List (ℕ × List ℕ) → Place → Query → Type 0
AsksPage texts devices round limit missing (Page d next) query = IsPage texts devices round missing d next query
AsksPage texts devices round limit missing Scan query = (missing ≡ []) × (query ≡ Q.Table (TQ.Scan round 0 limit))
AsksPage texts devices round limit missing _ query = ⊥

-- ---- while the round is gathered

-- the gather has what the round was given
pub record Gathers (g : Gathered) (cleared_at : ℕ) (s : Balancing) : Type 0 where
  pub number : s.number ≡ Some g.round
  pub gather : g ≡ all_gathered g.round s.round
  pub tick : s.cleared_at ≡ cleared_at
  pub none_refused : s.refusals ≡ []
  pub still : s.ended ≡ None

pub record IsClearing (t : BalanceTask) (d : ℕ) (s : Balancing) : Type 0 where
  pub gathers : Gathers t.gather t.cleared_at s
  pub left : ℕ
  pub all : d + 1 + left ≡ length t.config.devices
  pub missing : to_clear t.config s.round ≡ d ∷ numbers_from (d + 1) left
  pub no_pages : s.round.pages ≡ []
  pub no_scans : s.round.scans ≡ []
  pub query : t.query ≡ Q.Device d (DQ.Clear t.gather.round)

pub record IsPaging (t : BalanceTask) (d next : ℕ) (s : Balancing) : Type 0 where
  pub gathers : Gathers t.gather t.cleared_at s
  pub cleared : to_clear t.config s.round ≡ []
  pub page : IsPage t.prefixes.items (length t.config.devices) t.gather.round (to_page t.config s.round) d next t.query
  pub no_scans : s.round.scans ≡ []

pub record IsScanning (t : BalanceTask) (s : Balancing) : Type 0 where
  pub gathers : Gathers t.gather t.cleared_at s
  pub cleared : to_clear t.config s.round ≡ []
  pub paged : to_page t.config s.round ≡ []
  pub more : has_ended s.round.scans ≡ false
  pub query : t.query ≡ Q.Table (TQ.Scan t.gather.round (reached s.round.scans) t.config.scan_limit)

-- ---- once it is planned

abbrev pub lists_for : Configuration → ℕ → Round → ℕ → Lists
lists_for c number g d = planned c (all_gathered number g) (threshold c.ttl c.skew (start_of g.started)) d

pub record IsAccepting (t : BalanceTask) (d : ℕ) (s : Balancing) : Type 0 where
  pub number : s.number ≡ Some t.gather.round
  pub still : s.ended ≡ None
  pub cleared : to_clear t.config s.round ≡ []
  pub paged : to_page t.config s.round ≡ []
  pub scanned : has_ended s.round.scans ≡ true
  pub left : ℕ
  pub all : d + 1 + left ≡ length t.config.devices
  pub missing : to_accept t.config s.refusals ≡ d ∷ numbers_from (d + 1) left
  pub lists : reverse t.left.items ≡ map (lists_for t.config t.gather.round s.round) (numbers_from (d + 1) left)
  pub query : t.query ≡ Q.Device d (DQ.Accept t.gather.round (lists_for t.config t.gather.round s.round d))
  pub trash : t.trash ≡ sum_by (λ lists. length lists.trash) (planned_lists t.config (all_gathered t.gather.round s.round))
  pub pull : t.pull ≡ sum_by (λ lists. length lists.pull) (planned_lists t.config (all_gathered t.gather.round s.round))
  pub lost : t.lost ≡ length (lost t.config (all_gathered t.gather.round s.round))
  pub stale : t.stale ≡ count_by (λ refused. refused) s.refusals
  pub few : t.stale ≤ d

-- all pages and rows are gathered
pub record IsGathered (t : BalanceTask) (s : Balancing) : Type 0 where
  pub texts : t.prefixes.items ≡ prefixes t.config.index_digits
  pub gathers : Gathers t.gather t.cleared_at s
  pub cleared : to_clear t.config s.round ≡ []
  pub paged : to_page t.config s.round ≡ []
  pub scanned : has_ended s.round.scans ≡ true

-- it is planned, and each device from k on is still to take its lists
pub record IsHanding (t : BalanceTask) (k : ℕ) (s : Balancing) : Type 0 where
  pub texts : t.prefixes.items ≡ prefixes t.config.index_digits
  pub number : s.number ≡ Some t.gather.round
  pub still : s.ended ≡ None
  pub cleared : to_clear t.config s.round ≡ []
  pub paged : to_page t.config s.round ≡ []
  pub scanned : has_ended s.round.scans ≡ true
  pub left : ℕ
  pub all : k + left ≡ length t.config.devices
  pub missing : to_accept t.config s.refusals ≡ numbers_from k left
  pub lists : reverse t.left.items ≡ map (lists_for t.config t.gather.round s.round) (numbers_from k left)
  pub trash : t.trash ≡ sum_by (λ lists. length lists.trash) (planned_lists t.config (all_gathered t.gather.round s.round))
  pub pull : t.pull ≡ sum_by (λ lists. length lists.pull) (planned_lists t.config (all_gathered t.gather.round s.round))
  pub lost : t.lost ≡ length (lost t.config (all_gathered t.gather.round s.round))
  pub stale : t.stale ≡ count_by (λ refused. refused) s.refusals
  pub few : t.stale ≤ k

-- what a round gathered is planned: the lists of all devices are left, and what was gathered is let go
pub record HasPlan (old new : BalanceTask) : Type 0 where
  pub lists : reverse new.left.items ≡ planned_lists old.config old.gather
  pub new_is : new ≡ record old {
    gather = nothing_gathered old.gather.round old.gather.started;
    left = new.left;
    trash = sum_by (λ lists. length lists.trash) (planned_lists old.config old.gather);
    pull = sum_by (λ lists. length lists.pull) (planned_lists old.config old.gather);
    lost = length (lost old.config old.gather);
    stale = 0;
  }

-- a device is asked to take the first of the lists that are left
pub record IsHanded (d : ℕ) (old new : BalanceTask) : Type 0 where
  pub first : Lists
  pub lists : reverse old.left.items ≡ first ∷ reverse new.left.items
  pub new_is : new ≡ record old { place = Accept d; query = Q.Device d (DQ.Accept old.gather.round first); left = new.left }

-- it is asked so, or where no lists are left the round has ended
abbrev pub HandsOn : ℕ → BalanceTask → BalanceTask → Option Outcome → Type 0
HandsOn d old new (Some outcome) = (old.left.items ≡ []) × (new.query ≡ old.query) × (outcome ≡ O.Balanced old.gather.round old.trash old.pull old.lost old.stale)
HandsOn d old new None = IsHanded d old new

-- it is planned, and the first device is asked to take its lists
pub record IsPlanned (old new : BalanceTask) (end : Option Outcome) : Type 0 where
  pub with_plan : BalanceTask
  pub planned : HasPlan old with_plan
  pub handed : HandsOn 0 with_plan new end

-- ---- the task

abbrev pub ShowsAt : Place → BalanceTask → Balancing → Type 0
ShowsAt Begin t s = (s ≡ new_balance) × (t.query ≡ Q.Table TQ.BeginRound)
ShowsAt (Clear d) t s = IsClearing t d s
ShowsAt (Page d next) t s = IsPaging t d next s
ShowsAt Scan t s = IsScanning t s
ShowsAt (Accept d) t s = IsAccepting t d s

-- the task's fields show that it stands there, and hasn't ended
pub record Shows (t : BalanceTask) (s : Balancing) : Type 0 where
  pub texts : t.prefixes.items ≡ prefixes t.config.index_digits
  pub at : ShowsAt t.place t s

-- it has ended as one that stands there has, or stands there
abbrev pub IsAt : BalanceTask → Balancing → BalanceTask → Option Outcome → Type 0
IsAt old s new (Some outcome) = (balance_next old.config s ≡ ends outcome) × (new.query ≡ old.query)
IsAt old s new None = Shows new s

-- so after an answer
abbrev pub IsAfter : BalanceTask → Answered → Balancing → BalanceTask → Option Outcome → Type 0
IsAfter old a s new end = IsAt old (balance_after old.query a s) new end

-- the task with rows more
abbrev pub with_rows : List ScanRow → Bool → BalanceTask → BalanceTask
with_rows rows last t = record t { gather = with_scan (record { after = reached t.gather.scans; rows = rows; last = last }) t.gather }

-- after the last rows it is planned, after others the next are asked for
abbrev pub IsRead : Bool → List ScanRow → BalanceTask → BalanceTask → Option Outcome → Type 0
IsRead true rows old new end = IsPlanned (with_rows rows true old) new end
IsRead false rows old new end =
    (end ≡ None) × (new ≡ record (with_rows rows false old) { query = Q.Table (TQ.Scan old.gather.round (last_revision (reached old.gather.scans) rows) old.config.scan_limit) })

-- a task that goes by `next` stands after its answers where this one does
pub record Stands (t : BalanceTask) (next : List Answered → Next) (answers : List Answered) : Type 0 where
  pub state : Balancing
  pub shows : Shows t state
  pub goes : GoesFrom (balance_next t.config) balance_after state next answers
