-- Two balance tasks at the same time: the first begins its round before the second and is refused by a device that the second has cleared; the second comes to its end.
use Rattle.std.proofs.Common.{◌≡◌, ℕ, [], ◌∷◌, Bool, true, false, refl, arith, inl}
use Rattle.keep_event.specs.Device as machine
use Rattle.keep_event.specs.Table as tables
use Rattle.keep_event.specs.declared.lists.Lists.{Lists}
use Rattle.keep_event.specs.declared.device.DeviceQuery.TheVariants as DQ
use Rattle.keep_event.specs.declared.device.DeviceAnswer.TheVariants as D
use Rattle.keep_event.specs.declared.table.TableQuery.TheVariants as TQ
use Rattle.keep_event.specs.declared.table.TableAnswer.TheVariants as T
use Rattle.keep_event.specs.declared.event.Event.{Event}
use Rattle.keep_event.specs.declared.event.Query.{Query}
use Rattle.keep_event.specs.declared.event.Query.TheVariants as Q
use Rattle.keep_event.specs.declared.event.Answer.{Answer}
use Rattle.keep_event.specs.declared.event.Answer.TheVariants as A
use Rattle.keep_safety.specs.Allowed.{IsAllowed}
use Rattle.keep_safety.specs.Past.{Past}
use Rattle.keep_safety.proofs.Example.{c}
use Rattle.keep_history.specs.Next.{asks, ends}
use Rattle.keep_history.specs.declared.task.Outcome.TheVariants.{Balanced, Stale, Disordered}
use Rattle.keep_rounds.specs.Balance.{next}
use Rattle.keep_rounds.specs.Interleaved.{AreSteps, replies_to}
use Rattle.keep_rounds.proofs.Theorem.{runs-are-allowed}

-- an event of a task, whose number is its actor's
abbrev event : ℕ → ℕ → Query → Answer → Event
event tick actor q a = record { tick = tick; reading = 10; actor = actor; query = q; answer = a }

abbrev task_of : Event → ℕ
task_of e = e.actor

abbrev balances : ℕ → Bool
balances n = true

abbrev no_lists : Lists
no_lists = record { trash = []; pull = [] }

abbrev past_1 : Past
past_1 = event 1 0 (Q.Table TQ.BeginRound) (A.Table (T.Round 1 10)) ∷ []

abbrev past_2 : Past
past_2 = event 2 1 (Q.Table TQ.BeginRound) (A.Table (T.Round 2 10)) ∷ past_1

abbrev past_3 : Past
past_3 = event 3 0 (Q.Device 0 (DQ.Clear 1)) (A.Device D.Cleared) ∷ past_2

abbrev past_4 : Past
past_4 = event 4 1 (Q.Device 0 (DQ.Clear 2)) (A.Device D.Cleared) ∷ past_3

abbrev past_5 : Past
past_5 = event 5 0 (Q.Device 0 (DQ.Page 1 [])) (A.Device (D.Stale 2)) ∷ past_4

abbrev past_6 : Past
past_6 = event 6 1 (Q.Device 0 (DQ.Page 2 [])) (A.Device (D.Page [])) ∷ past_5

abbrev past_7 : Past
past_7 = event 7 1 (Q.Table (TQ.Scan 2 0 1000)) (A.Table (T.Rows [] true)) ∷ past_6

abbrev past_8 : Past
past_8 = event 8 1 (Q.Device 0 (DQ.Accept 2 no_lists)) (A.Device (D.Accepted 0 0)) ∷ past_7

steps : AreSteps c task_of balances past_8
unfolding machine.clear machine.page machine.accept tables.begin_round tables.scan
steps = (
  record { tick = (omega arith, (omega arith, (omega arith, (omega arith, (omega arith, (omega arith, (omega arith, tt))))))); asked = refl; answered = (omega arith, inl refl) },
  (
    record { tick = (omega arith, (omega arith, (omega arith, (omega arith, (omega arith, (omega arith, tt)))))); asked = refl; answered = refl },
    (
      record { tick = (omega arith, (omega arith, (omega arith, (omega arith, (omega arith, tt))))); asked = refl; answered = (omega arith, inl refl) },
      (
        record { tick = (omega arith, (omega arith, (omega arith, (omega arith, tt)))); asked = refl; answered = (omega arith, inl refl) },
        (
          record { tick = (omega arith, (omega arith, (omega arith, tt))); asked = refl; answered = (omega arith, inl refl) },
          (
            record { tick = (omega arith, (omega arith, tt)); asked = refl; answered = (omega arith, inl refl) },
            (
              record { tick = (omega arith, tt); asked = refl; answered = refl },
              (
                record { tick = tt; asked = refl; answered = refl },
                tt,
              ),
            ),
          ),
        ),
      ),
    ),
  ),
)

pub allowed : IsAllowed c past_8
allowed = (runs-are-allowed c task_of balances past_8 steps).allowed

first-ends : next c (replies_to c task_of balances 0 past_8) ≡ ends (Stale 0 2)
first-ends = refl

second-ends : next c (replies_to c task_of balances 1 past_8) ≡ ends (Balanced 2 0 0 0 0)
second-ends = refl

-- a page with a tick that isn't above its clear's
late-page : next c (record { tick = 4; answer = A.Device (D.Page []) } ∷ record { tick = 4; answer = A.Device D.Cleared } ∷ record { tick = 1; answer = A.Table (T.Round 7 10) } ∷ []) ≡ ends (Disordered 4 4)
late-page = refl

-- an answer that no line of the table gives is passed over
asked-again : next c (record { tick = 1; answer = A.Table T.NoSuch } ∷ []) ≡ asks (Q.Table TQ.BeginRound)
asked-again = refl

-- where a scan gave nothing and isn't the last, the same is asked again
scanned-again : next c (record { tick = 4; answer = A.Table (T.Rows [] false) } ∷ record { tick = 3; answer = A.Device (D.Page []) } ∷ record { tick = 2; answer = A.Device D.Cleared } ∷ record { tick = 1; answer = A.Table (T.Round 7 10) } ∷ []) ≡ asks (Q.Table (TQ.Scan 7 0 1000))
scanned-again = refl
