-- What openings make: `ended-at-once` and `task-made`, and `task-of` and `may-ask` the other way round; `of-kind` on an opening of one kind as one of any.
use Rattle.std.proofs.Common.{◌≡◌, ℕ, Bool, List, length, Result, Ok, Err, refl, sym, subst}
use Rattle.keep_spec.specs.Config.{Configuration}
use Rattle.keep_history.specs.declared.task.Outcome.{Outcome}
use Rattle.keep_history.specs.declared.task.Task.{Task}
use Rattle.keep_history.specs.Next.{Answered, Next}
use Rattle.keep_steps.specs.Steps.{IsOpened, IsReady, opened_map}
use Rattle.keep_steps.specs.declared.steps.Opened.{Opened}

pub ended-at-once : {T : Type 0} (Stands : T → Task → Type 0) (r : Result Task Outcome) (outcome : Outcome) → r ≡ Err outcome → IsOpened r (Opened.Ended outcome) Stands
ended-at-once Stands r outcome e = rw e refl

pub task-made : {T : Type 0} (Stands : T → Task → Type 0) (r : Result Task Outcome) (t : T) (task : Task) → r ≡ Ok task → Stands t task → IsOpened r (Opened.Task t) Stands
task-made Stands r t task e h = rw e h

pub task-of : {T : Type 0} (Stands : T → Task → Type 0) (r : Result Task Outcome) (t : T) → IsOpened r (Opened.Task t) Stands → (task : Task) × Stands t task
task-of Stands (Ok task) t h = (task, h)
task-of Stands (Err outcome) t h = absurd h

-- a task that was opened may ask a port of the configuration's devices
pub may-ask : {T : Type 0} (ended : T → Bool) (stands : T → (List Answered → Next) → List Answered → Type 0) (asks : T → ℕ → Type 0) (c : Configuration) (r : Result Task Outcome) (t : T) (n : ℕ)
    → IsOpened r (Opened.Task t) (λ t task. IsReady (ended t) (stands t) (asks t) c task) → n ≡ length c.devices → asks t n
may-ask ended stands asks c r t n h e = subst (asks t) (sym e) (task-of (λ t task. IsReady (ended t) (stands t) (asks t) c task) r t h).1.1.1

-- an opening that is right for a task of its kind is right for one of any
pub of-kind : {T U : Type 0} (kind : T → U) (Stands : T → Task → Type 0) (Known : U → Task → Type 0) (r : Result Task Outcome) (o : Opened T) (any : Opened U)
    → any ≡ opened_map kind o → IsOpened r o Stands → ((t : T) (task : Task) → Stands t task → Known (kind t) task) → IsOpened r any Known
of-kind kind Stands Known (Ok task) (Opened.Task t) any e h same = rw e (same t task h)
of-kind kind Stands Known (Ok task) (Opened.Ended outcome) any e h same = absurd h
of-kind kind Stands Known (Err end) (Opened.Ended outcome) any e h same = rw e h
of-kind kind Stands Known (Err end) (Opened.Task t) any e h same = absurd h
