-- Where an empty worker stands after its answers. For private clauses.
use Rattle.std.specs.Prelude.{◌≡◌, ◌<◌, ℕ, List, Option, None, Some}
use Rattle.keep_event.specs.declared.device.DeviceQuery.TheVariants as Q
use Rattle.keep_event.specs.declared.event.Query.TheVariants as Query
use Rattle.keep_history.specs.declared.task.Outcome.{Outcome}
use Rattle.keep_history.specs.Next.{Answered, GoesFrom, Next, ends}
use Rattle.keep_history.specs.Workers.{Emptying, empty_after, empty_next, items_max}
use Rattle.keep_workers.specs.declared.empty.EmptyWorker.{EmptyWorker}

-- so many copies were removed, and no answer was an end
abbrev pub with_removed : ℕ → Emptying
with_removed removed = record { removed = removed; ended = None }

-- where the rule has the worker
abbrev pub emptying : EmptyWorker → Emptying
emptying w = with_removed w.removed

-- it asks the device for one copy more
pub record IsEmptying (w : EmptyWorker) (next : List Answered → Next) (answers : List Answered) : Type 0 where
  pub device : ℕ
  pub query_is : w.query ≡ Query.Device device Q.EmptyNext
  pub few : w.removed < items_max
  pub goes : GoesFrom (empty_next device) empty_after (emptying w) next answers

-- Where an answer took the rule to `s`, the worker ends as the rule does there, or stands there.
abbrev pub EmptyMoves : Emptying → EmptyWorker → Option Outcome → Type 0
EmptyMoves s w None = (emptying w ≡ s) × (w.removed < items_max)
EmptyMoves s w (Some outcome) = (device : ℕ) → empty_next device s ≡ ends outcome
