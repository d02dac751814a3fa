-- Openings that ask the table; the task that an opening makes, and its devices.
use Rattle.std.specs.Prelude.{Result, Ok, Err, ⊤}
use Rattle.keep_history.specs.declared.task.Opening.{Opening}
use Rattle.keep_history.specs.declared.task.Opening.TheVariants as Open
use Rattle.keep_history.specs.declared.task.Outcome.{Outcome}
use Rattle.keep_history.specs.declared.task.Task.{Task}

-- an opening that asks the table
abbrev pub AsksTable : Opening → Type 0
AsksTable (Open.Put token server bytes hash) = ⊥
AsksTable (Open.Get token server locator) = ⊥
AsksTable (Open.Touch token server locator) = ⊥
AsksTable (Open.Untrash token server hash) = ⊥
AsksTable (Open.Restart device) = ⊥
AsksTable Open.Balance = ⊥
AsksTable (Open.TrashWorker device) = ⊥
AsksTable (Open.PullWorker device) = ⊥
AsksTable (Open.EmptyWorker device) = ⊥
AsksTable other = ⊤

-- an opening of a client's task, or of a restart: neither a balance nor a worker
abbrev pub IsOfClient : Opening → Type 0
IsOfClient Open.Balance = ⊥
IsOfClient (Open.TrashWorker device) = ⊥
IsOfClient (Open.PullWorker device) = ⊥
IsOfClient (Open.EmptyWorker device) = ⊥
IsOfClient other = ⊤

-- the task that is made of what an opening goes on with, or the end at once
abbrev pub made : {X : Type 0} → (X → Task) → Result X Outcome → Result Task Outcome
made make (Ok x) = Ok (make x)
made make (Err outcome) = Err outcome
