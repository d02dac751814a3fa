-- Where a trash worker stands after its answers. For private clauses.
use Rattle.std.specs.Prelude.{◌≡◌, ◌<◌, ◌≤◌, ℕ, List, Option, None, Some}
use Rattle.keep_event.specs.declared.device.DeviceQuery.TheVariants as Q
use Rattle.keep_event.specs.declared.event.Query.TheVariants as Query
use Rattle.keep_history.specs.declared.task.Outcome.{Outcome}
use Rattle.keep_history.specs.Next.{Answered, GoesFrom, Next, ends}
use Rattle.keep_history.specs.Workers.{Trashing, items_max, trash_after, trash_next}
use Rattle.keep_workers.specs.declared.trash.TrashWorker.{TrashWorker}

-- so many items were taken and replicas trashed, and no answer was an end
abbrev pub after_items : ℕ → ℕ → Trashing
after_items taken trashed = record { taken = taken; trashed = trashed; ended = None }

-- where the rule has the worker
abbrev pub trashing : TrashWorker → Trashing
trashing w = after_items w.taken w.trashed

-- it has taken fewer items than a worker may, and trashed no more than it took
abbrev pub IsTrashingFew : TrashWorker → Type 0
IsTrashingFew w = (w.taken < items_max) × (w.trashed ≤ w.taken)

-- it asks the device for one item more
pub record IsTrashing (w : TrashWorker) (next : List Answered → Next) (answers : List Answered) : Type 0 where
  pub device : ℕ
  pub query_is : w.query ≡ Query.Device device Q.TrashNext
  pub few : IsTrashingFew w
  pub goes : GoesFrom (trash_next device) trash_after (trashing w) next answers

-- Where an answer took the rule to `s`, the worker ends as the rule does there, or stands there.
abbrev pub TrashMoves : Trashing → TrashWorker → Option Outcome → Type 0
TrashMoves s w None = (trashing w ≡ s) × IsTrashingFew w
TrashMoves s w (Some outcome) = (device : ℕ) → trash_next device s ≡ ends outcome
