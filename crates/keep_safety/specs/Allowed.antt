-- What may happen: each answer is the machine's, and lists are those of the round's plan.
use Rattle.std.specs.Prelude.{◌≡◌, ◌<◌, ℕ, [], ◌∷◌, ⊤}
use Rattle.std.specs.List.{AllByRecursion}
use Rattle.keep_spec.specs.Config.{Configuration}
use Rattle.keep_spec.specs.Times.{threshold}
use Rattle.keep_event.specs.declared.device.DeviceQuery.{DeviceQuery}
use Rattle.keep_event.specs.declared.device.DeviceQuery.TheVariants.{Accept}
use Rattle.keep_event.specs.declared.device.DeviceAnswer.{DeviceAnswer}
use Rattle.keep_event.specs.declared.device.DeviceAnswer.TheVariants.{Accepted}
use Rattle.keep_event.specs.Plan.{planned}
use Rattle.keep_event.specs.declared.lists.Lists.{Lists}
use Rattle.keep_event.specs.declared.event.Event.{Event}
use Rattle.keep_event.specs.declared.event.Query.{Query}
use Rattle.keep_event.specs.declared.event.Query.TheVariants as Q
use Rattle.keep_event.specs.declared.event.Answer.{Answer}
use Rattle.keep_event.specs.declared.event.Answer.TheVariants as A
use Rattle.keep_safety.specs.Past.{Past, IsAnswered}
use Rattle.keep_history.specs.Rounds.{Round, gathered}
use Rattle.keep_safety.specs.Rounds.{round_in, IsGathered, IsInOrder}

-- the lists that a device took are those of the round's plan, of a round that was whole
pub record ArePlanned (c : Configuration) (round : ℕ) (g : Round) (d : ℕ) (lists : Lists) : Type 0 where
  pub whole : IsGathered c g
  pub are : lists ≡ planned c (gathered round whole.start g) (threshold c.ttl c.skew whole.start) d

abbrev pub TakesPlanned : Configuration → Past → ℕ → DeviceQuery → DeviceAnswer → Type 0
TakesPlanned c past d (Accept round lists) (Accepted trash pull) = ArePlanned c round (round_in round past) d lists
TakesPlanned c past d _ _ = ⊤

abbrev pub IsPlanned : Configuration → Past → Query → Answer → Type 0
IsPlanned c past (Q.Device d q) (A.Device a) = TakesPlanned c past d q a
IsPlanned c past (Q.Device d q) (A.Table a) = ⊤
IsPlanned c past (Q.Table q) a = ⊤

-- an event that may come next
pub record MayFollow (c : Configuration) (past : Past) (e : Event) : Type 0 where
  pub tick : AllByRecursion (λ x. x.tick < e.tick) past
  pub answered : IsAnswered c past e.reading e.query e.answer
  pub planned : IsPlanned c past e.query e.answer
  pub in_order : IsInOrder past e.query e.answer

abbrev pub IsAllowed : Configuration → Past → Type 0
IsAllowed c [] = ⊤
IsAllowed c (e ∷ past) = MayFollow c past e × IsAllowed c past
