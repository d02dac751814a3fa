-- A device over a plain list: the words of its contracts.
use Rattle.std.specs.Prelude.{◌≡◌, ℕ, Bool, true, false, List, slice_set, Result, Ok, Err}
use Rattle.keep_spec.specs.declared.memory.NoMemory.{NoMemory}
use Rattle.keep_event.specs.Device.{State, Reply}
use Rattle.keep_event.specs.declared.device.DeviceAnswer.{DeviceAnswer}
use Rattle.keep_event.specs.declared.device.DeviceQuery.{DeviceQuery}
use Rattle.keep_event.specs.declared.device.DeviceQuery.TheVariants as queries
use Rattle.keep_event.specs.declared.names.Name.{Name}
use Rattle.keep_event.specs.declared.names.Stored.{Stored}

abbrev pub reply : DeviceAnswer → State → Reply
reply answer s = record { answer = answer; state = s }

-- the reply of the machine, or NoMemory and nothing changed
abbrev pub IsLine : Reply → State → State → Result DeviceAnswer NoMemory → Type 0
IsLine line old new (Ok answer) = reply answer new ≡ line
IsLine line old new (Err e) = new ≡ old

-- the same of one of many devices, by its number; the others stay
abbrev pub IsLineOf : ℕ → Reply → List State → List State → Result DeviceAnswer NoMemory → Type 0
IsLineOf device line old new (Ok answer) = (answer ≡ line.answer) × (new ≡ slice_set old device line.state)
IsLineOf device line old new (Err e) = new ≡ old

-- a query for which memory may be wanted: those that store bytes or copy them, a page, and lists that are copied
abbrev pub takes_memory : DeviceQuery → Bool
takes_memory (queries.CompareTouch block token) = false
takes_memory (queries.Write block token) = true
takes_memory (queries.Fetch digest) = true
takes_memory (queries.Touch digest token) = false
takes_memory (queries.Clear round) = false
takes_memory (queries.Accept round lists) = true
takes_memory (queries.Page round prefix) = true
takes_memory queries.TrashNext = false
takes_memory queries.PullNext = false
takes_memory (queries.Untrash digest) = false
takes_memory queries.EmptyNext = false
takes_memory queries.Restart = false

-- a name with the time of what stands under it
abbrev pub timed : Name × Stored → Name × ℕ
timed e = (e.0, e.1.mtime)
