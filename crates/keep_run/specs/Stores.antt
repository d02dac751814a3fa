-- What a run finds in its stores, and what it leaves there.
use Rattle.std.specs.Prelude.{◌≡◌, ◌≤◌, ◌<◌, ◌++◌, ⊤, ℕ, zero, suc, List, [], ◌∷◌, length, map, slice_index_or, Option, Some, is_some, true, false, Result, Ok, Err}
use Rattle.std.specs.Io.KnownBytes.{Appends}
use Rattle.std.specs.Option.{option_map_or}
use Rattle.keep_spec.specs.Causes.{Rose}
use Rattle.keep_spec.specs.Config.{Configuration}
use Rattle.keep_spec.specs.Lines.{cut, fits, text_of}
use Rattle.keep_spec.specs.declared.config.Field.{Field}
use Rattle.keep_spec.specs.declared.status.Status.{Status}
use Rattle.keep_spec.specs.declared.status.Status.TheVariants.{BadConfig, NotEmpty, StoreFault, NoMemory}
use Rattle.keep_event.specs.declared.names.Name.{Name}
use Rattle.keep_event.specs.declared.names.Stored.{Stored}
use Rattle.keep_event.specs.declared.device.DeviceRules.{DeviceRules}
use Rattle.keep_history.specs.Ended.{Begun, Ran, RisesBy, Work, begun_of, faulty}
use Rattle.keep_history.specs.Run.{Kept, config_for, is_empty, verdict_on}
use Rattle.keep_history.specs.Whole.{EndsWhole, IsScript}
use Rattle.keep_rounds.specs.Histories.{DidWell}
use Rattle.keep_volume.specs.Calls.{VolumeView, note_of}

-- ---- what a store tells

-- what it holds and its note, where it tells them, and its count of failed calls
pub record Told : Type 0 where
  pub held : Option (List (Name × Stored))
  pub noted : Option ℕ
  pub faults : ℕ

abbrev pub told_of : {S : Type 0} → (S → Option (List (Name × Stored))) → (S → Option ℕ) → (S → ℕ) → S → Told
told_of held noted faults s = record { held = held s; noted = noted s; faults = faults s }

-- what each of some stores tells
abbrev pub told_by : {S : Type 0} → (S → Option (List (Name × Stored))) → (S → Option ℕ) → (S → ℕ) → List S → List Told
told_by held noted faults stores = map (told_of held noted faults) stores

-- the stores' counts of failed calls
abbrev pub counts : List Told → List ℕ
counts stores = map (λ s. s.faults) stores

abbrev pub count_of : ℕ → List Told → ℕ
count_of device stores = slice_index_or (counts stores) device 0

-- a store tells that it keeps this: what it holds, and the round as its note
pub record Tells (s : Told) (k : Kept) : Type 0 where
  pub held : s.held ≡ Some k.held
  pub noted : s.noted ≡ Some k.round

-- the first stores tell that they keep these, one for each; there are as many of these as stores
abbrev pub FirstTell : ℕ → List Told → List Kept → Type 0
FirstTell zero ss ks = length ss ≡ length ks
FirstTell (suc n) [] [] = ⊤
FirstTell (suc n) (s ∷ ss) (k ∷ ks) = Tells s k × FirstTell n ss ks
FirstTell (suc n) _ _ = ⊥

-- ---- pairs

-- the members of two lists of one length, pair by pair
abbrev pub AllPairs : {A B : Type 0} → (A → B → Type 0) → List A → List B → Type 0
AllPairs R [] [] = ⊤
AllPairs R (x ∷ xs) (y ∷ ys) = R x y × AllPairs R xs ys
AllPairs R _ _ = ⊥

-- ---- stores that are opened, and given back. For private clauses.

-- a store that tells holds nothing, or something
abbrev pub IsBare : Told → Type 0
IsBare s = (k : Kept) → Tells s k → is_empty k ≡ true

abbrev pub IsFilled : Told → Type 0
IsFilled s = (k : Kept) → Tells s k → is_empty k ≡ false

-- the store tells that it keeps what it kept, and its count did not fall
pub record IsSame (old new : Told) : Type 0 where
  pub keeps : (k : Kept) → Tells old k → Tells new k
  pub never_falls : RisesBy 0 old.faults new.faults

-- an empty device was opened over the store
pub record IsOver (s : Told) (d : VolumeView) : Type 0 where
  pub held : d.held ≡ s.held
  pub tells_note : d.tells_note ≡ is_some s.noted
  pub bare : IsBare s
  pub round : d.round ≡ 0
  pub trash : d.trash ≡ []
  pub pull : d.pull ≡ []
  pub never_falls : s.faults ≤ d.faults

-- the store of a device was given back, with the round as its note
pub record IsGiven (d : VolumeView) (s : Told) : Type 0 where
  pub held : s.held ≡ d.held
  pub noted : s.noted ≡ note_of d
  pub faults : s.faults ≡ d.faults

-- the first of some stores are bare
abbrev pub AreBare : ℕ → List Told → Type 0
AreBare zero ss = ⊤
AreBare (suc n) [] = ⊤
AreBare (suc n) (s ∷ ss) = IsBare s × AreBare n ss

-- the store of a number, if there is one, is filled
abbrev pub IsFilledAt : ℕ → List Told → Type 0
IsFilledAt n [] = ⊥
IsFilledAt zero (s ∷ ss) = IsFilled s
IsFilledAt (suc n) (s ∷ ss) = IsFilledAt n ss

-- the device of a number was not opened over its store, with a status
abbrev pub IsRefused : ℕ → Status → Told → Told → Type 0
IsRefused device (StoreFault d) old new = (d ≡ device) × Rose old.faults new.faults
IsRefused device (NotEmpty d) old new = (d ≡ device) × IsFilled old
IsRefused device NoMemory old new = ⊤
IsRefused device other old new = ⊥

-- of so many devices one was not opened, and those before it are empty
abbrev pub AreRefused : ℕ → Status → List Told → List Told → Type 0
AreRefused n (StoreFault d) old new = (d < n) × (AreBare d old × Rose (count_of d old) (count_of d new))
AreRefused n (NotEmpty d) old new = (d < n) × (AreBare d old × IsFilledAt d old)
AreRefused n NoMemory old new = ⊤
AreRefused n other old new = ⊥

-- empty devices were opened over the first of some stores, and the others are left
pub record AreOpened {S : Type 0} (told : S → Told) (n : ℕ) (old left : List S) (ds : List VolumeView) : Type 0 where
  pub first : List S
  pub parts : old ≡ first ++ left
  pub many : length first ≡ n
  pub over : AllPairs IsOver (map told first) ds

-- the stores of devices were put before others
pub record AreGiven {S : Type 0} (told : S → Told) (ds : List VolumeView) (old new : List S) : Type 0 where
  pub first : List S
  pub parts : new ≡ first ++ old
  pub given : AllPairs IsGiven ds (map told first)

-- a device was opened over the first of the stores
pub record IsNextOpened {S : Type 0} (told : S → Told) (rules : DeviceRules) (old left : List S) (before after : List VolumeView) : Type 0 where
  pub store : S
  pub device : VolumeView
  pub first : old ≡ store ∷ left
  pub last : after ≡ before ++ device ∷ []
  pub over : IsOver (told store) device
  pub rules_are : device.rules ≡ rules

-- no device was opened over the first of the stores, which was put back
pub record IsNextRefused {S : Type 0} (told : S → Told) (device : ℕ) (status : Status) (old new : List S) : Type 0 where
  pub store : S
  pub again : S
  pub rest : List S
  pub first : old ≡ store ∷ rest
  pub back : new ≡ again ∷ rest
  pub same : IsSame (told store) (told again)
  pub refused : IsRefused device status (told store) (told again)

-- ---- the run of a whole input

-- how many devices the configuration of an input has, where its first line is one for so many stores
abbrev pub devices_in : ℕ → List ℕ → ℕ
devices_in stores bytes = option_map_or (λ (b : Begun). length b.config.devices) (begun_of stores (cut bytes)) 0

-- A run of an input over stores that kept this: what it did, what the stores of the devices tell that they keep then, how it ended, and what was written. The sink held `before` and now holds `written`: where it tells, the text of what was done was appended, and where it doesn't, all else stands.
pub record StoresRan (old new : List Told) (bytes : List ℕ) (before : Option (List ℕ)) (starts : List Kept) (status : Status) (unread : Option (List ℕ)) (written : Option (List ℕ)) : Type 0 where
  pub work : Work
  pub keep : FirstTell (devices_in (length old) bytes) new work.left
  pub written_is : Appends before written work.text
  pub ran : Ran starts bytes status unread (counts old) (counts new) work

-- ---- the whole statement
-- Such a run, and of what it did, the one history that it printed and left: each beginning of it may happen, each trash step left enough, and where it is steady and unforged each moment is safe; the devices' stores keep what it leaves. Where all lines are script lines, with the events that failed, the run is done, or memory was wanted, or the source, the sink or a store at opening failed.
pub record RanWell (old new : List Told) (bytes : List ℕ) (before : Option (List ℕ)) (starts : List Kept) (status : Status) (unread : Option (List ℕ)) (written : Option (List ℕ)) : Type 0 where
  pub ran : StoresRan old new bytes before starts status unread written
  pub did_well : DidWell starts bytes ran.work
  pub whole : IsScript (faulty ran.work.made) starts bytes → EndsWhole status

-- the first line of an input is a configuration for so many stores, and these bytes come after it. For private clauses.
pub record HasBegun (stores : ℕ) (bytes rest : List ℕ) (c : Configuration) (taken : ℕ) : Type 0 where
  pub piece : List ℕ
  pub first : cut bytes ≡ piece ∷ cut rest
  pub short : verdict_on 0 piece ≡ fits
  pub config_is : config_for stores (text_of piece) ≡ Ok c
  pub taken_is : taken ≡ length piece

-- a first line that is no configuration, or for which memory was refused
abbrev pub IsConfigRefusal : Status → Result Configuration Field → Type 0
IsConfigRefusal (BadConfig field) c = c ≡ Err field
IsConfigRefusal NoMemory c = ⊤
IsConfigRefusal other c = ⊥
