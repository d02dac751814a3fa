-- The histories of runs: each beginning of one may happen, and keeps what it should.
use Rattle.std.specs.Prelude.{◌≡◌, ◌<◌, ◌⊎◌, ℕ, List, [], length, map, slice_index_or, take, IfSome}
use Rattle.keep_spec.specs.Config.{Configuration}
use Rattle.keep_spec.specs.Lines.{cut}
use Rattle.keep_event.specs.Device.{initial}
use Rattle.keep_event.specs.declared.event.Event.{Event}
use Rattle.keep_safety.specs.Allowed.{IsAllowed}
use Rattle.keep_safety.specs.History.{past_of}
use Rattle.keep_safety.specs.Past.{device_after}
use Rattle.keep_safety.specs.Safe.{IsKept, IsSafeThroughout}
use Rattle.keep_safety.specs.Signatures.{IsUnforged}
use Rattle.keep_safety.specs.Times.{IsSteady}
use Rattle.keep_history.specs.Effects.{Made}
use Rattle.keep_history.specs.Ended.{Begun, Work, begun_of}
use Rattle.keep_history.specs.Run.{Kept, kept_by}

-- It may happen, and each trash step left enough; and where clocks agree up to the skew and no forged signature was accepted, each moment of it is safe.
pub record IsGoodHistory (c : Configuration) (events : List Event) : Type 0 where
  pub allowed : IsAllowed c (past_of events)
  pub kept : IsKept c (past_of events)
  pub safe : IsSteady c (past_of events) → IsUnforged c (past_of events) → IsSafeThroughout c (past_of events)

-- so each beginning, also between two steps of one task
abbrev pub EachBeginning : Configuration → List Event → Type 0
EachBeginning c events = (n : ℕ) → IsGoodHistory c (take n events)

-- the first stores keep what events leave at the devices
abbrev pub AreLeftBy : Configuration → List Event → List Kept → Type 0
AreLeftBy c events left = (d : ℕ) → d < length c.devices → slice_index_or left d (kept_by initial) ≡ kept_by (device_after c d (past_of events))

abbrev pub events_of : List Made → List Event
events_of made = map (λ m. m.event) made

-- Each beginning of what was done is a good history, and the stores keep what it leaves; where nothing was done, they keep what they kept.
pub record IsGoodWork (c : Configuration) (starts : List Kept) (work : Work) : Type 0 where
  pub beginnings : EachBeginning c (events_of work.made)
  pub left : ((work.made ≡ []) × (work.left ≡ starts)) ⊎ AreLeftBy c (events_of work.made) work.left

-- so what a run of an input did over stores that kept this, where its first line is a configuration for them
abbrev pub DidWell : List Kept → List ℕ → Work → Type 0
DidWell starts bytes work = IfSome (begun_of (length starts) (cut bytes)) (λ (b : Begun). IsGoodWork b.config starts work)
