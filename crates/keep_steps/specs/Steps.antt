-- A step of a task: what it asks of a port, and how it ends. These stand in public clauses.
use Rattle.std.specs.Prelude.{◌≡◌, ℕ, List, [], length, Option, None, Some, IfOk, IfSome, Bool, true, false, ◌⊎◌, Result, Ok, Err}
use Rattle.keep_event.specs.Answers.{IsAnswerOf}
use Rattle.keep_event.specs.Port.{told_after, IsWorldAfter, Stamp, IsStamped, HasFailed, HasSpent, HasStoreFault, NoneFalls, FaultPlan, FollowsPlan}
use Rattle.keep_event.specs.World.{World}
use Rattle.keep_event.specs.declared.event.Event.{Event}
use Rattle.keep_event.specs.declared.event.Query.{Query}
use Rattle.keep_event.specs.declared.port.PortError.{PortError}
use Rattle.keep_event.specs.declared.port.PortError.TheVariants as E
use Rattle.keep_event.specs.declared.port.Reply.{Reply}
use Rattle.keep_history.specs.declared.task.Outcome.{Outcome}
use Rattle.keep_history.specs.declared.task.Task.{Task}
use Rattle.keep_history.specs.Next.{Answered, Next, ends}
use Rattle.keep_history.specs.Tasks.{next}
use Rattle.keep_spec.specs.Config.{Configuration}
use Rattle.keep_steps.specs.declared.steps.Opened.{Opened}
use Rattle.keep_steps.specs.declared.steps.Opened.TheVariants as O
use Rattle.keep_steps.specs.declared.steps.Step.{Step}

-- a reply, as a task is given it
abbrev pub answered : Reply → Answered
answered reply = record { tick = reply.tick; answer = reply.answer }

-- what a port tells and counts, and which of its calls are to fail
pub record PortView : Type 0 where
  pub told : Option (List Event)
  pub world : Option World
  pub stamp : Option Stamp
  pub faults : ℕ
  pub spent : ℕ
  pub store_faults : ℕ → ℕ
  pub devices : ℕ
  pub fault_plan : Option FaultPlan

abbrev pub view : {P : Type 0} → (P → Option (List Event)) → (P → Option World) → (P → Option Stamp) → (P → ℕ) → (P → ℕ) → (P → ℕ → ℕ) → (P → ℕ) → (P → Option FaultPlan) → P → PortView
view told world stamp faults spent store_faults devices fault_plan p = record {
  told = told p;
  world = world p;
  stamp = stamp p;
  faults = faults p;
  spent = spent p;
  store_faults = store_faults p;
  devices = devices p;
  fault_plan = fault_plan p;
}

-- the port was asked this one query
pub record IsAsked (actor : ℕ) (query : Query) (old new : PortView) (r : Result Reply PortError) : Type 0 where
  pub told : new.told ≡ told_after actor query old.told r
  pub listed : IfOk r (λ reply. IsAnswerOf query reply.answer)
  pub world : IfSome old.world (λ w. IsWorldAfter w new.world query r)
  pub stamped : IfSome old.stamp (λ s. IsStamped s new.stamp r)
  pub failed : HasFailed old.faults new.faults r
  pub spent : HasSpent old.spent new.spent r
  pub store_failed : HasStoreFault old.store_faults new.store_faults query r
  pub store_faults_stay : NoneFalls old.store_faults new.store_faults
  pub planned : FollowsPlan old.fault_plan new.fault_plan r
  pub devices_stay : new.devices ≡ old.devices

-- a step returns the reply; or the port's error; or where the end of a reply wants memory, the want of it
abbrev pub IsReturned : Bool → Result Reply PortError → Result Step PortError → Type 0
IsReturned sure r (Ok step) = r ≡ Ok step.reply
IsReturned true r (Err e) = r ≡ Err e
IsReturned false r (Err e) = (r ≡ Err e) ⊎ ((reply : Reply) × ((r ≡ Ok reply) × (e ≡ E.NoMemory)))

-- exactly this query was asked, and none besides
abbrev pub AsksOnce : Bool → ℕ → Query → PortView → PortView → Result Step PortError → Type 0
AsksOnce sure actor query old new result = (r : Result Reply PortError) × (IsAsked actor query old new r × IsReturned sure r result)

-- after these answers the task has ended, exactly where `next` says so, or goes on with them
abbrev pub IsTaken : (List Answered → Next) → List Answered → Option Outcome → (List Answered → Type 0) → Type 0
IsTaken next answers (Some outcome) Goes = next answers ≡ ends outcome
IsTaken next answers None Goes = Goes answers

-- an opening ends at once, or makes a task that stands for it before any answer
abbrev pub IsOpened : {T : Type 0} → Result Task Outcome → Opened T → (T → Task → Type 0) → Type 0
IsOpened (Err outcome) (O.Ended ended) Stands = ended ≡ outcome
IsOpened (Ok task) (O.Task t) Stands = Stands t task
IsOpened _ _ Stands = ⊥

-- a task that has asked nothing stands before any answer, and may ask a port that has the configuration's devices
abbrev pub IsReady : Bool → ((List Answered → Next) → List Answered → Type 0) → (ℕ → Type 0) → Configuration → Task → Type 0
IsReady ended stands may_ask c task = (ended ≡ false) × (stands (next c task) [] × may_ask (length c.devices))

-- what an opening makes, with another task made of its task
abbrev pub opened_map : {T U : Type 0} → (T → U) → Opened T → Opened U
opened_map kind (O.Task t) = O.Task (kind t)
opened_map kind (O.Ended outcome) = O.Ended outcome
