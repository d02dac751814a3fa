-- Histories: the events in the order in which they happened.
use Rattle.std.specs.Prelude.{ℕ, List, reverse, take}
use Rattle.keep_spec.specs.Config.{Configuration}
use Rattle.keep_event.specs.declared.event.Event.{Event}
use Rattle.keep_safety.specs.Allowed.{IsAllowed}
use Rattle.keep_safety.specs.Past.{Past}
use Rattle.keep_safety.specs.Safe.{IsSafe, IsKept}
use Rattle.keep_safety.specs.Signatures.{IsUnforged}
use Rattle.keep_safety.specs.Times.{IsSteady}

-- what has happened after a history
abbrev pub past_of : List Event → Past
past_of events = reverse events

-- each trash step left enough; and while clocks agree and no forged signature is accepted, the past is safe after each number of events
pub record IsKeptSafe (c : Configuration) (events : List Event) : Type 0 where
  pub kept : IsKept c (past_of events)
  pub safe : IsSteady c (past_of events) → IsUnforged c (past_of events) → (n : ℕ) → IsSafe c (past_of (take n events))

abbrev pub HistoriesAreSafe : Configuration → Type 0
HistoriesAreSafe c = (events : List Event) → IsAllowed c (past_of events) → IsKeptSafe c events
