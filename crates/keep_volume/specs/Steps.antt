-- What the steps of a device's calls do: words of its private calls alone.
use Rattle.std.specs.Prelude.{◌≡◌, ◌≤◌, List, Some, IfSome, Result, Ok, Err, drop, []}
use Rattle.keep_spec.specs.Causes.{Rose}
use Rattle.keep_event.specs.Device.{State, Reply}
use Rattle.keep_event.specs.declared.names.Name.{Name}
use Rattle.keep_event.specs.declared.names.Stored.{Stored}
use Rattle.keep_event.specs.declared.device.DeviceAnswer.{DeviceAnswer}
use Rattle.keep_event.specs.declared.device.DeviceAnswer.TheVariants as answers
use Rattle.keep_spec.specs.declared.failed.Failed.{Failed}
use Rattle.keep_volume.specs.Calls.{VolumeView, over, state_of}

-- a call of the store that fails changes nothing
abbrev pub IsStoreCall : {A : Type 0} → (List (Name × Stored) → List (Name × Stored)) → VolumeView → VolumeView → Result A Failed → Type 0
IsStoreCall h old new (Ok a) = (new ≡ over old h new.faults) × (old.faults ≤ new.faults)
IsStoreCall h old new (Err e) = (new ≡ over old (λ es. es) new.faults) × Rose old.faults new.faults × (old.faults ≤ new.faults)

-- the machine's line of an item of the trash list, exactly; the list itself stays
abbrev pub IsItem : (State → Reply) → VolumeView → VolumeView → Result DeviceAnswer Failed → Type 0
IsItem line old new (Ok a) = IfSome (state_of old) (λ s. (a ≡ (line s).answer) × (state_of new ≡ Some (line s).state)) × (old.faults ≤ new.faults) × (new.rules ≡ old.rules) × (new.trash ≡ old.trash) × (a ≡ answers.StoreFault → ⊥) × (new.tells_note ≡ old.tells_note)
IsItem line old new (Err e) = (new ≡ over old (λ es. es) new.faults) × Rose old.faults new.faults × (old.faults ≤ new.faults)

-- the first item of the trash list is taken
abbrev pub without_first : VolumeView → VolumeView
without_first d = record { held = d.held; tells_note = d.tells_note; round = d.round; trash = drop 1 d.trash; pull = d.pull; rules = d.rules; faults = d.faults }

-- both lists are emptied
abbrev pub without_lists : VolumeView → VolumeView
without_lists d = record { held = d.held; tells_note = d.tells_note; round = d.round; trash = []; pull = []; rules = d.rules; faults = d.faults }
