-- What has happened so far, and what it leaves at each place.
-- A past is a list of events, the latest first. So the pasts that led to it are its tails, and a definition over all that happened is a recursion on the list.
use Rattle.std.specs.Prelude.{◌≡◌, ◌⊎◌, ◌<◌, ℕ, ◌==◌, List, [], ◌∷◌, length, Bool, true, false, if◌then◌else◌}
use Rattle.keep_spec.specs.Config.{Configuration}
use Rattle.keep_event.specs.Device as devices
use Rattle.keep_event.specs.Table as tables
use Rattle.keep_event.specs.Requests.{table_line}
use Rattle.keep_event.specs.World.{device_rules}
use Rattle.keep_event.specs.declared.device.DeviceAnswer.{DeviceAnswer}
use Rattle.keep_event.specs.declared.device.DeviceAnswer.TheVariants.{StoreFault}
use Rattle.keep_event.specs.declared.event.Event.{Event}
use Rattle.keep_event.specs.declared.event.Query.{Query}
use Rattle.keep_event.specs.declared.event.Query.TheVariants as Q
use Rattle.keep_event.specs.declared.event.Answer.{Answer}
use Rattle.keep_event.specs.declared.event.Answer.TheVariants as A

abbrev pub Past : Type 0
Past = List Event

abbrev pub is_fault : DeviceAnswer → Bool
is_fault StoreFault = true
is_fault _ = false

-- a device's line is the machine's; a fault of its store leaves it as it is
abbrev pub left_by : Configuration → ℕ → ℕ → Query → Answer → devices.State → devices.State
left_by c d reading (Q.Device n q) (A.Device a) s =
    if n == d then (if is_fault a then s else (devices.step (device_rules c d) reading q s).state) else s
left_by c d reading (Q.Device n q) (A.Table a) s = s
left_by c d reading (Q.Table q) a s = s

-- a device after what happened, and the table after it
abbrev pub device_after : Configuration → ℕ → Past → devices.State
device_after c d [] = devices.initial
device_after c d (e ∷ past) = left_by c d e.reading e.query e.answer (device_after c d past)

abbrev pub table_left_by : Configuration → ℕ → Query → tables.State → tables.State
table_left_by c reading (Q.Table q) s = (table_line c reading q s).state
table_left_by c reading (Q.Device n q) s = s

abbrev pub table_after : Configuration → Past → tables.State
table_after c [] = tables.empty
table_after c (e ∷ past) = table_left_by c e.reading e.query (table_after c past)

-- The answer is that of the machine's line at the place that was asked, or a fault of a store, where the line uses the store.
abbrev pub IsAnswered : Configuration → Past → ℕ → Query → Answer → Type 0
IsAnswered c past reading (Q.Device n q) (A.Device a) =
    (n < length c.devices)
    × ((a ≡ (devices.step (device_rules c n) reading q (device_after c n past)).answer) ⊎ ((a ≡ StoreFault) × (devices.may_fault q ≡ true)))
IsAnswered c past reading (Q.Table q) (A.Table a) = a ≡ (table_line c reading q (table_after c past)).answer
IsAnswered c past reading (Q.Device n q) (A.Table a) = ⊥
IsAnswered c past reading (Q.Table q) (A.Device a) = ⊥
