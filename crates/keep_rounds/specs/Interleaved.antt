-- Tasks that run at the same time: balance tasks, and others, which ask nothing of rounds.
use Rattle.std.specs.Prelude.{◌≡◌, ◌<◌, ℕ, ◌==◌, List, [], ◌∷◌, Bool, true, false, Some, ⊤, if◌then◌else◌}
use Rattle.std.specs.List.{AllByRecursion}
use Rattle.keep_spec.specs.Config.{Configuration}
use Rattle.keep_event.specs.declared.device.DeviceQuery.{DeviceQuery}
use Rattle.keep_event.specs.declared.device.DeviceQuery.TheVariants.{Clear, Page, Accept}
use Rattle.keep_event.specs.declared.table.TableQuery.{TableQuery}
use Rattle.keep_event.specs.declared.table.TableQuery.TheVariants.{BeginRound, Scan}
use Rattle.keep_event.specs.declared.event.Event.{Event}
use Rattle.keep_event.specs.declared.event.Query.{Query}
use Rattle.keep_event.specs.declared.event.Query.TheVariants as Q
use Rattle.keep_safety.specs.Allowed.{IsAllowed}
use Rattle.keep_safety.specs.Past.{Past, IsAnswered}
use Rattle.keep_safety.specs.Rounds.{round_in, stage, at_stage}
use Rattle.keep_history.specs.Next.{Answered, asks}
use Rattle.keep_history.specs.Balance.{Balancing}
use Rattle.keep_history.specs.declared.task.Outcome.TheVariants.{Disordered}
use Rattle.keep_rounds.specs.Balance.{standing, next}

abbrev pub device_round : DeviceQuery → Bool
device_round (Clear round) = true
device_round (Page round prefix) = true
device_round (Accept round lists) = true
device_round _ = false

abbrev pub table_round : TableQuery → Bool
table_round BeginRound = true
table_round (Scan round after limit) = true
table_round _ = false

-- a query that only balance tasks ask
abbrev pub asks_of_round : Query → Bool
asks_of_round (Q.Device d q) = device_round q
asks_of_round (Q.Table q) = table_round q

-- which task made an event, and which tasks are balance tasks, by numbers
module _ (c : Configuration) (task_of : Event → ℕ) (balances : ℕ → Bool) where
  -- the replies that a task has had, the latest first
  abbrev pub replies_to : ℕ → Past → List Answered
  replies_to n [] = []
  replies_to n (e ∷ past) = if task_of e == n then record { tick = e.tick; answer = e.answer } ∷ replies_to n past else replies_to n past

  abbrev pub stands : ℕ → Past → Balancing
  stands n past = standing c (replies_to n past)

  -- a balance task asks what is next after its replies; another asks nothing of rounds
  abbrev pub MayAsk : Bool → ℕ → Past → Query → Type 0
  MayAsk true n past q = next c (replies_to n past) ≡ asks q
  MayAsk false n past q = asks_of_round q ≡ false

  -- an event that a task makes: a later one, of its query, with the machine's answer or a fault of a store
  pub record IsStep (past : Past) (e : Event) : Type 0 where
    pub tick : AllByRecursion (λ x. x.tick < e.tick) past
    pub asked : MayAsk (balances (task_of e)) (task_of e) past e.query
    pub answered : IsAnswered c past e.reading e.query e.answer

  abbrev pub AreSteps : Past → Type 0
  AreSteps [] = ⊤
  AreSteps (e ∷ past) = IsStep past e × AreSteps past

  -- A balance task has of its round all that happened of it, and only it asked anything of that round; it never meets ticks out of order.
  pub record IsKept (past : Past) (n : ℕ) : Type 0 where
    pub gathered : (r : ℕ) → (stands n past).number ≡ Some r → round_in r past ≡ (stands n past).round
    pub own : (r : ℕ) → (stands n past).number ≡ Some r → AllByRecursion (λ x. (j : ℕ) → stage x.query x.answer ≡ at_stage r j → task_of x ≡ n) past
    pub ordered : (earlier later : ℕ) → (stands n past).ended ≡ Some (Disordered earlier later) → ⊥

  -- no two balance tasks have one round
  pub record IsRun (past : Past) : Type 0 where
    pub allowed : IsAllowed c past
    pub kept : (n : ℕ) → balances n ≡ true → IsKept past n
    pub apart : (m n : ℕ) → balances m ≡ true → balances n ≡ true → (r : ℕ) → (stands m past).number ≡ Some r → (stands n past).number ≡ Some r → m ≡ n

-- Whatever tasks run at the same time, what has happened is allowed.
abbrev pub RunsAreAllowed : Configuration → Type 0
RunsAreAllowed c = (task_of : Event → ℕ) (balances : ℕ → Bool) (past : Past) → AreSteps c task_of balances past → IsRun c task_of balances past
