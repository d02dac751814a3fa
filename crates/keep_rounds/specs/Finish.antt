-- A balance task that is asked until it ends, with nothing in between; its number is its actor's, and events are numbered from 0.
use Rattle.std.specs.Prelude.{◌≡◌, ◌<◌, ℕ, zero, suc, ◌==◌, ◌&&◌, List, ◌∷◌, length, Bool, true, false, if◌then◌else◌}
use Rattle.std.specs.List.{list_any, AllByRecursion}
use Rattle.keep_spec.specs.Config.{Configuration}
use Rattle.keep_event.specs.Device as devices
use Rattle.keep_event.specs.Requests.{table_line}
use Rattle.keep_event.specs.declared.device.DeviceQuery.{DeviceQuery}
use Rattle.keep_event.specs.declared.device.DeviceAnswer.{DeviceAnswer}
use Rattle.keep_event.specs.declared.device.DeviceAnswer.TheVariants.{StoreFault}
use Rattle.keep_event.specs.declared.event.Event.{Event}
use Rattle.keep_event.specs.declared.event.Query.{Query}
use Rattle.keep_event.specs.declared.event.Query.TheVariants as Q
use Rattle.keep_event.specs.declared.event.Answer.{Answer}
use Rattle.keep_event.specs.declared.event.Answer.TheVariants as A
use Rattle.keep_safety.specs.Past.{Past, device_after, table_after}
use Rattle.keep_event.specs.World.{device_rules}
use Rattle.keep_history.specs.Next.{Next, asks, ends}
use Rattle.keep_rounds.specs.Balance.{next}
use Rattle.keep_rounds.specs.Interleaved.{replies_to, AreSteps}

abbrev pub actor_of : Event → ℕ
actor_of e = e.actor

module _ (c : Configuration) (balances : ℕ → Bool) (failed : List ℕ) (n reading : ℕ) where
  -- the machine's answer, or a fault of the store at the events that are given
  abbrev pub device_answer : Bool → DeviceAnswer → DeviceAnswer
  device_answer fails a = if fails then StoreFault else a

  abbrev pub fails_at : ℕ → DeviceQuery → Bool
  fails_at tick q = devices.may_fault q && list_any (λ k. k == tick) failed

  abbrev pub answer_to : Past → Query → Answer
  answer_to past (Q.Device d q) = A.Device (device_answer (fails_at (length past) q) (devices.step (device_rules c d) reading q (device_after c d past)).answer)
  answer_to past (Q.Table q) = A.Table (table_line c reading q (table_after c past)).answer

  abbrev pub made : Past → Query → Event
  made past q = record { tick = length past; reading = reading; actor = n; query = q; answer = answer_to past q }

  abbrev pub goes_on : (Past → Past) → Past → Next → Past
  goes_on rest past (ends o) = past
  goes_on rest past (asks q) = rest (made past q ∷ past)

  abbrev pub finished : ℕ → Past → Past
  finished zero past = past
  finished (suc turns) past = goes_on (finished turns) past (next c (replies_to c actor_of balances n past))

abbrev pub is_end : Next → Bool
is_end (asks q) = false
is_end (ends o) = true

abbrev pub AreNumbered : Past → Type 0
AreNumbered past = AllByRecursion (λ x. x.tick < length past) past

-- after some turns the task has ended, and its events are steps
pub record IsFinished (c : Configuration) (balances : ℕ → Bool) (failed : List ℕ) (n reading : ℕ) (past : Past) : Type 0 where
  pub turns : ℕ
  pub ended : is_end (next c (replies_to c actor_of balances n (finished c balances failed n reading turns past))) ≡ true
  pub steps : AreSteps c actor_of balances (finished c balances failed n reading turns past)

-- Whatever happened before, and wherever stores fail: a balance task that is asked on and on ends.
abbrev pub TasksEnd : Configuration → Type 0
TasksEnd c = (balances : ℕ → Bool) (failed : List ℕ) (n reading : ℕ) (past : Past) → 0 < c.scan_limit → balances n ≡ true → AreNumbered past → AreSteps c actor_of balances past → IsFinished c balances failed n reading past
