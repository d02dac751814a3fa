-- A cluster as one value, and its line for a query: what the query is answered and what it leaves, by the machine of the device asked or by that of the table. This is the project's own rule.
use Rattle.std.specs.Prelude.{ℕ, List, map, Bool, true, false, ◌&&◌, if◌then◌else◌, Option, None, Some, slice_get, slice_index_or, slice_set}
use Rattle.keep_spec.specs.Config.{Configuration}
use Rattle.keep_spec.specs.declared.config.Device.{Device}
use Rattle.keep_event.specs.Device as devices
use Rattle.keep_event.specs.Requests as requests
use Rattle.keep_event.specs.Table as tables
use Rattle.keep_event.specs.declared.device.DeviceRules.{DeviceRules}
use Rattle.keep_event.specs.declared.device.DeviceAnswer.TheVariants.{StoreFault}
use Rattle.keep_event.specs.declared.event.Query.{Query}
use Rattle.keep_event.specs.declared.event.Query.TheVariants as Q
use Rattle.keep_event.specs.declared.event.Answer.{Answer}
use Rattle.keep_event.specs.declared.event.Answer.TheVariants as An

-- the configuration, a state for each device by its number, and the table of collections
pub record World : Type 0 where
  pub config : Configuration
  pub devices : List devices.State
  pub table : tables.State

-- before anything was asked
abbrev pub new_world : Configuration → World
new_world c = record { config = c; devices = map (λ d. devices.initial) c.devices; table = tables.empty }

pub record Reply : Type 0 where
  pub answer : Answer
  pub world : World

abbrev pub stays : Answer → World → Reply
stays answer w = record { answer = answer; world = w }

-- ---- devices

abbrev pub rules_of : Configuration → Option Device → DeviceRules
rules_of c None = record { capacity = 0; read_only = true; ttl = 0; skew = 0; trash_life = 0 }
rules_of c (Some d) = record { capacity = d.capacity; read_only = d.read_only; ttl = c.ttl; skew = c.skew; trash_life = c.trash_life }

-- what a configuration says of the device of a number
abbrev pub device_rules : Configuration → ℕ → DeviceRules
device_rules c device = rules_of c (slice_get c.devices device)

abbrev pub device_state : ℕ → World → devices.State
device_state device w = slice_index_or w.devices device devices.initial

abbrev pub with_device : ℕ → devices.State → World → World
with_device device s w = record { config = w.config; devices = slice_set w.devices device s; table = w.table }

abbrev pub by_device : ℕ → devices.Reply → World → Reply
by_device device reply w = record { answer = An.Device reply.answer; world = with_device device reply.state w }

-- ---- the table

abbrev pub with_table : tables.State → World → World
with_table s w = record { config = w.config; devices = w.devices; table = s }

abbrev pub by_table : tables.Reply → World → Reply
by_table reply w = record { answer = An.Table reply.answer; world = with_table reply.state w }

-- ---- the line of a query at a reading, in nanoseconds since 1970

abbrev pub line : ℕ → Query → World → Reply
line reading (Q.Device device query) w = by_device device (devices.step (device_rules w.config device) reading query (device_state device w)) w
line reading (Q.Table query) w = by_table (requests.table_line w.config reading query w.table) w

-- whether a query may be answered StoreFault: where the store of the device may be asked
abbrev pub may_fault : Query → Bool
may_fault (Q.Device device query) = devices.may_fault query
may_fault (Q.Table query) = false

-- the line, or where the store fails StoreFault, and then the world stays
abbrev pub asked : Bool → ℕ → Query → World → Reply
asked fails reading query w = if fails && may_fault query then stays (An.Device StoreFault) w else line reading query w
