-- Where a pull worker stands after its answers. For private clauses.
use Rattle.std.specs.Prelude.{◌≡◌, ◌+◌, ◌<◌, ◌≤◌, ℕ, List, All, Bool, true, false, filter, length, nat_lt, Option, None, Some, if◌then◌else◌}
use Rattle.keep_event.specs.Port.{MayAsk}
use Rattle.keep_event.specs.declared.device.DeviceAnswer.{DeviceAnswer}
use Rattle.keep_event.specs.declared.device.DeviceAnswer.TheVariants as A
use Rattle.keep_event.specs.declared.device.DeviceQuery.TheVariants as Q
use Rattle.keep_event.specs.declared.event.Query.{Query}
use Rattle.keep_event.specs.declared.event.Query.TheVariants as Query
use Rattle.keep_spec.specs.Config.{Configuration}
use Rattle.keep_history.specs.declared.task.Outcome.{Outcome}
use Rattle.keep_history.specs.Next.{Answered, GoesFrom, Next, ends}
use Rattle.keep_history.specs.Workers.{Phase, Pulling, fetching, items_max, pull_after, pull_next, taking, writing}
use Rattle.keep_workers.specs.declared.pull.PullWorker.{PullWorker}

-- what is asked in a phase, and which sources are left in it
abbrev pub IsInPhase : PullWorker → Phase → Type 0
IsInPhase w taking = w.query ≡ Query.Device w.device Q.PullNext
IsInPhase w (fetching hash source sources) = (w.query ≡ Query.Device source (Q.Fetch hash)) × (w.sources.items ≡ sources)
IsInPhase w (writing bytes) = w.query ≡ Query.Device w.device (Q.Write bytes None)

-- a phase, after items that were done and that failed
abbrev pub pulling : Phase → PullWorker → Pulling
pulling phase w = record { phase = phase; done = w.done; failed = w.failed; ended = None }

-- fewer items were dealt with than a worker may deal with
abbrev pub IsPullingFew : PullWorker → Type 0
IsPullingFew w = w.done + w.failed < items_max

-- it takes, fetches or writes an item
pub record IsPulling (w : PullWorker) (next : List Answered → Next) (answers : List Answered) : Type 0 where
  pub config : Configuration
  pub phase : Phase
  pub devices_are : w.devices ≡ length config.devices
  pub in_phase : IsInPhase w phase
  pub few : IsPullingFew w
  pub goes : GoesFrom (pull_next w.device) (pull_after config) (pulling phase w) next answers

-- Where an answer took the rule to `s`, the worker ends as the rule does there, or stands there.
abbrev pub PullMoves : Pulling → PullWorker → Option Outcome → Type 0
PullMoves s w None = IsInPhase w s.phase × (pulling s.phase w ≡ s) × IsPullingFew w
PullMoves s w (Some outcome) = (device : ℕ) → pull_next device s ≡ ends outcome

-- a port of so many devices has that which is asked, the sources that are left, the worker's own, and those that a source may be of
pub record PullMayAsk (w : PullWorker) (n : ℕ) : Type 0 where
  pub query : MayAsk n w.query
  pub sources : All (λ d. d < n) w.sources.items
  pub own : w.device < n
  pub known : w.devices ≤ n

-- it is asked to write: what comes of that wants no memory
abbrev pub is_write : Query → Bool
is_write (Query.Device d (Q.Write block token)) = true
is_write _ = false

-- the worker's device, and the number of devices of the configuration, stay
abbrev pub SamePlace : PullWorker → PullWorker → Type 0
SamePlace old new = (new.device ≡ old.device) × (new.devices ≡ old.devices)

-- the block that a source answers, where it isn't too long for one
abbrev pub block_in : DeviceAnswer → Option (List ℕ)
block_in (A.Block bytes) = if nat_lt 67108864 (length bytes) then None else Some bytes
block_in _ = None

-- the sources that are below the number of devices
abbrev pub known_sources : ℕ → List ℕ → List ℕ
known_sources devices sources = filter (λ d. nat_lt d devices) sources
