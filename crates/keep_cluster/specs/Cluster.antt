-- What callers see of a cluster: its devices and its table by a configuration, the reading of the next event, and how many events were made.
use Rattle.std.specs.Prelude.{◌≡◌, ◌≤◌, ℕ, List, [], ◌∷◌, map, Option, None, Some, option_map, slice_get, if◌then◌else◌}
use Rattle.std.specs.Option.{option_map_or}
use Rattle.keep_spec.specs.Config.{Configuration}
use Rattle.keep_spec.specs.Times.{IsReading}
use Rattle.keep_event.specs.Counters.{CountersUpTo}
use Rattle.keep_event.specs.Device.{State}
use Rattle.keep_event.specs.Port.{Stamp, most_events}
use Rattle.keep_event.specs.Requests as requests
use Rattle.keep_event.specs.World.{World, rules_of}
use Rattle.keep_table.specs.Contents.{Contents}
use Rattle.keep_volume.specs.Calls.{VolumeView, state_of}

pub record View : Type 0 where
  pub config : Configuration
  pub devices : List VolumeView
  pub table : Contents
  pub reading : ℕ
  pub made : ℕ
  pub spent : ℕ

-- each device of the configuration, in their order, with its rules
abbrev pub HasDevices : Configuration → List VolumeView → Type 0
HasDevices c ds = map (λ d. d.rules) ds ≡ map (λ d. rules_of c (Some d)) c.devices

-- what holds of every cluster
pub record IsSound (v : View) : Type 0 where
  pub devices : HasDevices v.config v.devices
  pub table : v.table.rules ≡ requests.rules_of v.config
  pub reading : IsReading v.reading
  pub made : v.made ≤ most_events
  pub counters : CountersUpTo v.made v.table.state

-- a list whose members are all known
abbrev pub with_known : {A : Type 0} → Option A → Option (List A) → Option (List A)
with_known None xs = None
with_known (Some x) None = None
with_known (Some x) (Some xs) = Some (x ∷ xs)

-- the state of a device, where its store tells what it holds and its note
abbrev pub told_state : VolumeView → Option State
told_state d = if d.tells_note then state_of d else None

-- the states of the devices, where all of their stores tell both
abbrev pub states_of : List VolumeView → Option (List State)
states_of [] = Some []
states_of (d ∷ ds) = with_known (told_state d) (states_of ds)

abbrev pub world_of : View → Option World
world_of v = option_map (λ ss. record { config = v.config; devices = ss; table = v.table.state }) (states_of v.devices)

-- the number of the next event is that of the events made
abbrev pub stamp_of : View → Stamp
stamp_of v = record { tick = v.made; reading = v.reading }

-- how often the store of a device has failed
abbrev pub faults_at : List VolumeView → ℕ → ℕ
faults_at ds device = option_map_or (λ d. d.faults) (slice_get ds device) 0
