-- What an answer makes of a balance task while its round is gathered. For private clauses.
use Rattle.std.specs.Prelude.{◌≡◌, ◌+◌, ◌<◌, ◌≤◌, ◌⊎◌, max, ℕ, suc, List, [], length, flat_map, map, drop, Bool, true, false, Option, None, Some}
use Rattle.keep_spec.specs.Members.{numbers_from}
use Rattle.keep_event.specs.Plan.{Gathered, nothing_gathered, with_page}
use Rattle.keep_event.specs.Port.{MayAsk}
use Rattle.keep_event.specs.declared.device.DeviceQuery.TheVariants as DQ
use Rattle.keep_event.specs.declared.device.DeviceAnswer.TheVariants as D
use Rattle.keep_event.specs.declared.table.TableQuery.TheVariants as TQ
use Rattle.keep_event.specs.declared.table.TableAnswer.TheVariants as T
use Rattle.keep_event.specs.declared.event.Query.{Query}
use Rattle.keep_event.specs.declared.event.Query.TheVariants as Q
use Rattle.keep_event.specs.declared.event.Answer.{Answer}
use Rattle.keep_event.specs.declared.event.Answer.TheVariants as A
use Rattle.keep_event.specs.declared.lists.Entry.{Entry}
use Rattle.keep_history.specs.Balance.{Balancing, disordered, page_on}
use Rattle.keep_history.specs.declared.task.Outcome.{Outcome}
use Rattle.keep_balance.specs.Standing.{AsksPage, Shows, pages_from, refused_by}
use Rattle.keep_balance.specs.declared.task.BalanceTask.{BalanceTask}
use Rattle.keep_balance.specs.declared.task.Place.{Place}
use Rattle.keep_balance.specs.declared.task.Place.TheVariants.{Accept, Begin, Clear, Scan}

-- ---- what comes next

-- the page of a device by the number of its prefix, or the first that comes after it, or without one the first rows
abbrev pub IsPageFrom : BalanceTask → ℕ → ℕ → Place → Query → Type 0
IsPageFrom t d next place query = (left : ℕ) → d + 1 + left ≡ length t.config.devices → t.gather.scans ≡ []
    → AsksPage t.prefixes.items (length t.config.devices) t.gather.round t.config.scan_limit (pages_from t.prefixes.items d left (drop next t.prefixes.items)) place query

-- the first page of a device, or without one the first rows
abbrev pub IsFirstPage : BalanceTask → ℕ → Place → Query → Type 0
IsFirstPage t d place query = (left : ℕ) → d + 1 + left ≡ length t.config.devices → t.gather.scans ≡ []
    → AsksPage t.prefixes.items (length t.config.devices) t.gather.round t.config.scan_limit (flat_map (λ d. map (page_on d) t.prefixes.items) (numbers_from d (suc left))) place query

-- the device after this one is to be cleared, or without one the first page is asked
abbrev pub IsClearAfter : BalanceTask → ℕ → Place → Query → Type 0
IsClearAfter t d place query =
    ((place ≡ Clear (d + 1)) × ((d + 1 < length t.config.devices) × (query ≡ Q.Device (d + 1) (DQ.Clear t.gather.round))))
    ⊎ ((length t.config.devices ≤ d + 1) × IsPageFrom t 0 0 place query)

-- the first device is to be cleared, or without one the first rows are asked
abbrev pub IsClearFirst : ℕ → ℕ → ℕ → Place → Query → Type 0
IsClearFirst devices round limit (Clear d) query = (d ≡ 0) × ((0 < devices) × (query ≡ Q.Device 0 (DQ.Clear round)))
IsClearFirst devices round limit Scan query = (devices ≡ 0) × (query ≡ Q.Table (TQ.Scan round 0 limit))
IsClearFirst devices round limit place query = ⊥

-- ---- what an answer makes of it

-- it has gathered this, and its clears came to this tick
pub record HasMoved (old new : BalanceTask) (gather : Gathered) (cleared_at : ℕ) : Type 0 where
  pub config : new.config ≡ old.config
  pub prefixes : new.prefixes.items ≡ old.prefixes.items
  pub gather_is : new.gather ≡ gather
  pub tick : new.cleared_at ≡ cleared_at

abbrev pub TakesBegun : Answer → BalanceTask → BalanceTask → Type 0
TakesBegun (A.Table (T.Round round started)) old new =
    HasMoved old new (nothing_gathered round started) 0 × IsClearFirst (length old.config.devices) round old.config.scan_limit new.place new.query
TakesBegun answer old new = new ≡ old

abbrev pub TakesCleared : ℕ → ℕ → Answer → BalanceTask → BalanceTask → Option Outcome → Type 0
TakesCleared d tick (A.Device D.Cleared) old new end =
    (end ≡ None) × (HasMoved old new old.gather (max old.cleared_at tick) × IsClearAfter old d new.place new.query)
TakesCleared d tick answer old new end = (end ≡ refused_by d answer) × (new ≡ old)

-- a page that came with a tick above that of the clears is kept
abbrev pub KeepsPage : ℕ → ℕ → List Entry → BalanceTask → BalanceTask → Type 0
KeepsPage d next entries old new = HasMoved old new (with_page (record { device = d; entries = entries }) old.gather) old.cleared_at × IsPageFrom old d next new.place new.query

abbrev pub TakesPage : ℕ → ℕ → List Entry → Option Outcome → BalanceTask → BalanceTask → Option Outcome → Type 0
TakesPage d next entries (Some outcome) old new end = (end ≡ Some outcome) × (new ≡ old)
TakesPage d next entries None old new end = (end ≡ None) × KeepsPage d next entries old new

abbrev pub TakesPaged : ℕ → ℕ → ℕ → Answer → BalanceTask → BalanceTask → Option Outcome → Type 0
TakesPaged d next tick (A.Device (D.Page entries)) old new end = TakesPage d next entries (disordered old.cleared_at tick) old new end
TakesPaged d next tick answer old new end = (end ≡ refused_by d answer) × (new ≡ old)

-- ---- what it may ask

-- where it draws its number or hands lists on: what comes of the answer wants no memory
abbrev pub is_sure : Place → Bool
is_sure Begin = true
is_sure (Accept d) = true
is_sure _ = false

-- a port of so many devices has those that it asks, and a page of a scan has room for a row
pub record BalanceMayAsk (t : BalanceTask) (n : ℕ) : Type 0 where
  pub devices : length t.config.devices ≡ n
  pub query : MayAsk n t.query
  pub limit : 0 < t.config.scan_limit
  pub stands : t.ended ≡ false → (s : Balancing) × Shows t s
