-- A device over a store that may tell what it holds: the words of its public contracts.
use Rattle.std.specs.Prelude.{◌≡◌, ◌≢◌, ℕ, ◌<◌, ◌≤◌, List, Option, None, Some, is_some, option_map, if◌then◌else◌, IfSome, Result, Ok, Err, ◌⊎◌, ⊤, drop, [], Bool, true, false}
use Rattle.keep_spec.specs.Causes.{Rose}
use Rattle.keep_event.specs.Device.{State, Reply, restart}
use Rattle.keep_event.specs.declared.names.Name.{Name}
use Rattle.keep_event.specs.declared.names.Stored.{Stored}
use Rattle.keep_event.specs.declared.lists.TrashItem.{TrashItem}
use Rattle.keep_event.specs.declared.lists.PullItem.{PullItem}
use Rattle.keep_event.specs.declared.device.DeviceRules.{DeviceRules}
use Rattle.keep_event.specs.declared.device.DeviceQuery.{DeviceQuery}
use Rattle.keep_event.specs.declared.device.DeviceQuery.TheVariants as queries
use Rattle.keep_event.specs.declared.device.DeviceAnswer.{DeviceAnswer}
use Rattle.keep_event.specs.declared.device.DeviceAnswer.TheVariants as answers
use Rattle.keep_volume.specs.declared.volume.OpenError.{OpenError}
use Rattle.keep_volume.specs.declared.volume.OpenError.TheVariants.{StoreFault, NoMemory}
use Rattle.keep_spec.specs.declared.memory.NoMemory as memory

-- what callers see of a device: what its store tells, whether it tells its note, the kept round, the two lists, the rules, and the store's count of faults
pub record VolumeView : Type 0 where
  pub held : Option (List (Name × Stored))
  pub tells_note : Bool
  pub round : ℕ
  pub trash : List TrashItem
  pub pull : List PullItem
  pub rules : DeviceRules
  pub faults : ℕ

abbrev pub state_with : VolumeView → List (Name × Stored) → State
state_with d es = record { held = es; round = d.round; trash = d.trash; pull = d.pull }

-- the note of the store, where it tells it: the kept round
abbrev pub note_of : VolumeView → Option ℕ
note_of d = if d.tells_note then Some d.round else None

-- the state of the device machine, where the store tells
abbrev pub state_of : VolumeView → Option State
state_of d = option_map (state_with d) d.held

-- the machine's line, or a fault of the store that changes nothing
abbrev pub IsToldLine : (State → Reply) → State → Option State → Result DeviceAnswer memory.NoMemory → Type 0
IsToldLine line s new (Err e) = new ≡ Some s
IsToldLine line s new (Ok answer) = ((answer ≡ (line s).answer) × (new ≡ Some (line s).state)) ⊎ ((answer ≡ answers.StoreFault) × (new ≡ Some s))

-- StoreFault has its cause in the store's count
abbrev pub HasFault : ℕ → ℕ → Result DeviceAnswer memory.NoMemory → Type 0
HasFault before now (Err e) = ⊤
HasFault before now (Ok answer) = answer ≡ answers.StoreFault → Rose before now

-- the device over the store after a call that made h of what is told
abbrev pub over : VolumeView → (List (Name × Stored) → List (Name × Stored)) → ℕ → VolumeView
over d h faults = record { held = option_map h d.held; tells_note = d.tells_note; round = d.round; trash = d.trash; pull = d.pull; rules = d.rules; faults = faults }

-- a refusal changes nothing, also where the store doesn't tell
abbrev pub IsKept : VolumeView → VolumeView → Result DeviceAnswer memory.NoMemory → Type 0
IsKept old new (Err e) = new ≡ over old (λ es. es) new.faults
IsKept old new (Ok answer) = answer ≡ answers.StoreFault → new ≡ over old (λ es. es) new.faults

pub record IsLine (line : State → Reply) (old new : VolumeView) (result : Result DeviceAnswer memory.NoMemory) : Type 0 where
  pub told : IfSome (state_of old) (λ s. IsToldLine line s (state_of new) result)
  pub fault : HasFault old.faults new.faults result
  pub kept : IsKept old new result
  pub never_falls : old.faults ≤ new.faults
  pub rules : new.rules ≡ old.rules
  pub tells_note : new.tells_note ≡ old.tells_note

-- a device that was opened: lists empty, the round is the note
pub record IsOpened (told : Option (List (Name × Stored))) (noted : Option ℕ) (given : DeviceRules) (d : VolumeView) : Type 0 where
  pub held : d.held ≡ told
  pub tells_note : d.tells_note ≡ is_some noted
  pub round : IfSome noted (λ n. d.round ≡ n)
  pub trash : d.trash ≡ []
  pub pull : d.pull ≡ []
  pub rules : d.rules ≡ given

-- a store that is returned unchanged, and a fault has its cause in its count
abbrev pub IsGivenBack : {S : Type 0} → Option (List (Name × Stored)) → Option ℕ → ℕ → (S → Option (List (Name × Stored))) → (S → Option ℕ) → (S → ℕ) → OpenError S → Type 0
IsGivenBack held noted faults h n f (StoreFault s) = (h s ≡ held) × (n s ≡ noted) × Rose faults (f s)
IsGivenBack held noted faults h n f (NoMemory s) = (h s ≡ held) × (n s ≡ noted) × (faults ≤ f s)

-- the line exactly, whatever the contents are, whether the store tells them or not, and without asking it
pub record IsExactly (line : State → Reply) (old new : VolumeView) (result : Result DeviceAnswer memory.NoMemory) : Type 0 where
  pub told : (es : List (Name × Stored)) → (result ≡ Ok (line (state_with old es)).answer) × (state_with new es ≡ (line (state_with old es)).state)
  pub held : new.held ≡ old.held
  pub faults : new.faults ≡ old.faults
  pub rules : new.rules ≡ old.rules
  pub tells_note : new.tells_note ≡ old.tells_note

-- a line that doesn't read the contents: the same whatever they are, and whether the store tells them or not
abbrev pub IsLineUntold : (State → Reply) → VolumeView → VolumeView → Result DeviceAnswer memory.NoMemory → Type 0
IsLineUntold line old new result = (es : List (Name × Stored)) → IsToldLine line (state_with old es) (Some (state_with new es)) result

-- a device that is read only answers so and stays as it is, whether its store tells or not, and no other answers so
pub record HasReadOnly (old new : VolumeView) (result : Result DeviceAnswer memory.NoMemory) : Type 0 where
  pub given : old.rules.read_only ≡ true → (result ≡ Ok answers.ReadOnly) × (new ≡ old)
  pub only : result ≡ Ok answers.ReadOnly → old.rules.read_only ≡ true

-- a device that is read only takes the first item of its trash list and answers so, whatever its store does
abbrev pub HasReadOnlyItem : VolumeView → VolumeView → Result DeviceAnswer memory.NoMemory → Type 0
HasReadOnlyItem old new result =
    old.rules.read_only ≡ true → old.trash ≢ []
    → (result ≡ Ok answers.ReadOnly) × (new ≡ record { held = old.held; tells_note = old.tells_note; round = old.round; trash = drop 1 old.trash; pull = old.pull; rules = old.rules; faults = old.faults })

-- a round below the kept one is answered Stale, whatever the store does, and no other
pub record HasLowerStale (round : ℕ) (old new : VolumeView) (result : Result DeviceAnswer memory.NoMemory) : Type 0 where
  pub given : round < old.round → (result ≡ Ok (answers.Stale old.round)) × (new ≡ old)
  pub only : (held : ℕ) → result ≡ Ok (answers.Stale held) → round < old.round

-- a round other than the kept one is answered Stale, whether the store tells or not, and no other
pub record HasStale (round : ℕ) (old new : VolumeView) (result : Result DeviceAnswer memory.NoMemory) : Type 0 where
  pub given : round ≢ old.round → (result ≡ Ok (answers.Stale old.round)) × (new ≡ old)
  pub only : (held : ℕ) → result ≡ Ok (answers.Stale held) → round ≢ old.round

-- an empty trash list is answered Idle, whether the store tells or not, and no other
pub record HasIdle (old new : VolumeView) (result : Result DeviceAnswer memory.NoMemory) : Type 0 where
  pub given : old.trash ≡ [] → (result ≡ Ok answers.Idle) × (new ≡ old)
  pub only : result ≡ Ok answers.Idle → old.trash ≡ []

-- opening the store again leaves what a restart leaves
abbrev pub IsReopened : Option (List (Name × Stored)) → Option ℕ → VolumeView → Type 0
IsReopened told noted d = IfSome noted (λ n. (v : VolumeView) → IsOpened told noted d.rules v → state_of v ≡ option_map (λ s. (restart s).state) (state_of d))

-- a query for which memory may be wanted: those that read or write bytes, a page, and lists that are copied
abbrev pub takes_memory : DeviceQuery → Bool
takes_memory (queries.CompareTouch block token) = true
takes_memory (queries.Write block token) = true
takes_memory (queries.Fetch digest) = true
takes_memory (queries.Touch digest token) = false
takes_memory (queries.Clear round) = false
takes_memory (queries.Accept round lists) = true
takes_memory (queries.Page round prefix) = true
takes_memory queries.TrashNext = false
takes_memory queries.PullNext = false
takes_memory (queries.Untrash digest) = false
takes_memory queries.EmptyNext = false
takes_memory queries.Restart = false

-- a query that a device that is read only refuses before it asks its store
abbrev pub is_refused : DeviceQuery → Bool
is_refused (queries.CompareTouch block token) = true
is_refused (queries.Write block token) = true
is_refused (queries.Fetch digest) = false
is_refused (queries.Touch digest token) = true
is_refused (queries.Clear round) = false
is_refused (queries.Accept round lists) = false
is_refused (queries.Page round prefix) = false
is_refused queries.TrashNext = false
is_refused queries.PullNext = false
is_refused (queries.Untrash digest) = true
is_refused queries.EmptyNext = true
is_refused queries.Restart = false

-- Stale comes exactly by the round for a clear and a page
abbrev pub HasStaleRound : DeviceQuery → VolumeView → VolumeView → Result DeviceAnswer memory.NoMemory → Type 0
HasStaleRound (queries.Clear round) old new result = HasLowerStale round old new result
HasStaleRound (queries.Page round prefix) old new result = HasStale round old new result
HasStaleRound query old new result = ⊤
