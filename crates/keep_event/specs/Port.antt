-- What may be asked of a port, and what an ask leaves of what the port tells.
use Rattle.std.specs.Prelude.{◌≡◌, ◌<◌, ◌≤◌, ⊤, ℕ, ◌+◌, ◌^◌, Bool, true, false, List, [], ◌∷◌, ◌++◌, Option, None, Some, option_map, Result, Ok, Err}
use Rattle.keep_spec.specs.Causes.{Rose, counted, is_failing}
use Rattle.keep_event.specs.Requests.{MayAskTable}
use Rattle.keep_event.specs.World.{World, asked}
use Rattle.keep_event.specs.declared.event.Event.{Event}
use Rattle.keep_event.specs.declared.event.Query.{Query}
use Rattle.keep_event.specs.declared.event.Query.TheVariants as Q
use Rattle.keep_event.specs.declared.event.Answer.TheVariants as An
use Rattle.keep_event.specs.declared.device.DeviceAnswer.TheVariants.{StoreFault}
use Rattle.keep_event.specs.declared.port.Reply.{Reply}
use Rattle.keep_event.specs.declared.port.PortError.{PortError}
use Rattle.keep_event.specs.declared.port.PortError.TheVariants as E

-- the device is one of so many; a time that is set is a reading, and a page of a scan has room for a row
abbrev pub MayAsk : ℕ → Query → Type 0
MayAsk devices (Q.Device device query) = device < devices
MayAsk devices (Q.Table query) = MayAskTable query

-- ---- what is told

abbrev pub event_of : ℕ → Query → Reply → Event
event_of actor query reply = record { tick = reply.tick; reading = reply.reading; actor = actor; query = query; answer = reply.answer }

-- the events so far grow by this one where there is a reply, and else by none
abbrev pub told_after : ℕ → Query → Option (List Event) → Result Reply PortError → Option (List Event)
told_after actor query told (Ok reply) = option_map (λ es. es ++ event_of actor query reply ∷ []) told
told_after actor query told (Err e) = told

-- ---- the world

-- the reply is the world's line at its reading, or a fault of the store; an error leaves the world
abbrev pub IsWorldAfter : World → Option World → Query → Result Reply PortError → Type 0
IsWorldAfter w after query (Ok reply) =
    (fails : Bool) × ((reply.answer ≡ (asked fails reply.reading query w).answer) × (after ≡ Some (asked fails reply.reading query w).world))
IsWorldAfter w after query (Err e) = after ≡ Some w

-- the tick and the reading of the next event
pub record Stamp : Type 0 where
  pub tick : ℕ
  pub reading : ℕ

-- the most events that a port makes: 2^40
abbrev pub most_events : ℕ
most_events = 2 ^ 40

-- a reply has the stamp, and the next one the tick after it; all are spent exactly where the most events were made
abbrev pub IsStamped : Stamp → Option Stamp → Result Reply PortError → Type 0
IsStamped s after (Ok reply) =
    (reply.tick ≡ s.tick) × ((reply.reading ≡ s.reading) × ((s.tick < most_events) × (after ≡ Some (record { tick = s.tick + 1; reading = s.reading }))))
IsStamped s after (Err E.Failed) = after ≡ Some s
IsStamped s after (Err (E.Spent drawn)) = (s.tick ≡ most_events) × (after ≡ Some s)
IsStamped s after (Err E.NoMemory) = after ≡ Some s

-- ---- counts

-- the count rises exactly where the port failed
abbrev pub HasFailed : ℕ → ℕ → Result Reply PortError → Type 0
HasFailed before now (Ok reply) = now ≡ before
HasFailed before now (Err E.Failed) = Rose before now × (before ≤ now)
HasFailed before now (Err (E.Spent drawn)) = now ≡ before
HasFailed before now (Err E.NoMemory) = now ≡ before

-- the count rises exactly where all numbers were drawn
abbrev pub HasSpent : ℕ → ℕ → Result Reply PortError → Type 0
HasSpent before now (Ok reply) = now ≡ before
HasSpent before now (Err E.Failed) = now ≡ before
HasSpent before now (Err (E.Spent drawn)) = Rose before now × ((before ≤ now) × (drawn ≡ most_events))
HasSpent before now (Err E.NoMemory) = now ≡ before

-- the count of the device's store rose where the answer is a fault of it
abbrev pub HasStoreFault : (ℕ → ℕ) → (ℕ → ℕ) → Query → Result Reply PortError → Type 0
HasStoreFault before now (Q.Device device query) (Ok reply) = reply.answer ≡ An.Device StoreFault → Rose (before device) (now device)
HasStoreFault before now (Q.Table query) (Ok reply) = ⊤
HasStoreFault before now query (Err e) = ⊤

abbrev pub NoneFalls : (ℕ → ℕ) → (ℕ → ℕ) → Type 0
NoneFalls before now = (device : ℕ) → before device ≤ now device

-- ---- failures that are planned

-- the numbers of the calls that are to fail, how many calls were made, and how often what is called besides has failed
pub record FaultPlan : Type 0 where
  pub failing : List ℕ
  pub calls : ℕ
  pub below : ℕ

abbrev pub new_plan : List ℕ → ℕ → FaultPlan
new_plan failing below = record { failing = failing; calls = 0; below = below }

abbrev pub called : FaultPlan → ℕ → FaultPlan
called p below = record { failing = p.failing; calls = counted p.calls; below = below }

-- a call that is to fail does so; another one fails only where what is called besides does
abbrev pub IsCalled : Bool → ℕ → ℕ → Result Reply PortError → Type 0
IsCalled true before now result = (result ≡ Err E.Failed) × (now ≡ before)
IsCalled false before now result = HasFailed before now result

-- calls are counted from 1, up to the greatest u64; a port without a plan gets none
abbrev pub FollowsPlan : Option FaultPlan → Option FaultPlan → Result Reply PortError → Type 0
FollowsPlan None after result = after ≡ None
FollowsPlan (Some p) after result = (below : ℕ) × ((after ≡ Some (called p below)) × IsCalled (is_failing p.failing p.calls) p.below below result)
