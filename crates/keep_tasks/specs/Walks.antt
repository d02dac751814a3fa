-- What a walk over devices stands for: the devices that are left, and what was answered so far. For private clauses.
use Rattle.std.specs.Prelude.{◌≡◌, ◌<◌, ◌+◌, ◌-◌, ◌^◌, ℕ, List, ◌∷◌, ◌++◌, length, All, Option, Bool, true, false}
use Rattle.keep_event.specs.Port.{MayAsk}
use Rattle.keep_event.specs.declared.event.Answer.{Answer}
use Rattle.keep_event.specs.declared.event.Query.{Query}
use Rattle.keep_event.specs.declared.event.Query.TheVariants as Q
use Rattle.keep_event.specs.declared.device.DeviceQuery.{DeviceQuery}
use Rattle.keep_history.specs.declared.task.Outcome.{Outcome}
use Rattle.keep_history.specs.Next.{Answered, Next}
use Rattle.keep_history.specs.Tasks.{walk, any_fault, first_found, copies_back, any_present}
use Rattle.keep_tasks.specs.declared.seen.Seen.{Seen}
use Rattle.keep_tasks.specs.declared.walk.Walk.{Walk}

abbrev pub seen_of : List Answer → Seen
seen_of answers = record { fault = any_fault answers; found = first_found answers; back = copies_back answers; present = any_present answers }

-- one more where it counts
abbrev pub count_if : Bool → ℕ → ℕ
count_if true n = n + 1
count_if false n = n

-- the query to another device
abbrev pub at_device : ℕ → Query → Query
at_device device (Q.Device d query) = Q.Device device query
at_device device (Q.Table query) = Q.Table query

-- the walk asks the first of these devices the query, then the others, after these answers
pub record IsAt (w : Walk) (query : DeviceQuery) (seen : List Answer) (devices : List ℕ) : Type 0 where
  pub first : ℕ
  pub devices_are : devices ≡ first ∷ w.left.items
  pub query_is : w.query ≡ Q.Device first query
  pub seen_is : w.seen ≡ seen_of seen
  pub few : length seen + length devices < 2 ^ 64 - 1

-- the last device has answered
pub record IsOver (w : Walk) (query : DeviceQuery) (seen : List Answer) : Type 0 where
  pub last : ℕ
  pub query_is : w.query ≡ Q.Device last query
  pub seen_is : w.seen ≡ seen_of seen

-- the walk's devices are below a number
pub record AreBelow (n : ℕ) (w : Walk) : Type 0 where
  pub next : MayAsk n w.query
  pub left : All (λ d. d < n) w.left.items

-- A task that goes by `next` is in a walk: after its answers it goes on as the walk does from here.
pub record IsWalking (query : DeviceQuery) (end : Answer → Option Outcome) (after : List Answer → List Answered → Next) (w : Walk) (next : List Answered → Next) (answers : List Answered) : Type 0 where
  pub seen : List Answer
  pub devices : List ℕ
  pub at : IsAt w query seen devices
  pub goes : (more : List Answered) → next (answers ++ more) ≡ walk query end after seen devices more
