-- What runs leave safe.
use Rattle.std.specs.Prelude.{ℕ, List, Bool}
use Rattle.keep_spec.specs.Config.{Configuration}
use Rattle.keep_event.specs.declared.event.Event.{Event}
use Rattle.keep_safety.specs.History.{past_of, IsKeptSafe}
use Rattle.keep_rounds.specs.Interleaved.{AreSteps}

-- Whatever tasks run at the same time: each trash step left enough, and while clocks agree and no forged signature is accepted, after each event each block that is named can be read.
abbrev pub RunsAreSafe : Configuration → Type 0
RunsAreSafe c = (task_of : Event → ℕ) (balances : ℕ → Bool) (events : List Event) → AreSteps c task_of balances (past_of events) → IsKeptSafe c events
