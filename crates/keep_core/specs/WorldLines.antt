-- What a step of a world does.
use Rattle.std.specs.Prelude.{◌≡◌, Bool, Result, Ok, Err}
use Rattle.keep_spec.specs.declared.memory.NoMemory.{NoMemory}
use Rattle.keep_event.specs.World.{World, Reply}
use Rattle.keep_event.specs.declared.event.Answer.{Answer}
use Rattle.keep_event.specs.declared.event.Query.{Query}
use Rattle.keep_event.specs.declared.event.Query.TheVariants as queries
use Rattle.keep_plain.specs.Lines as devices
use Rattle.keep_plain_table.specs.Lines as tables

-- the reply of the line, or memory was refused and nothing has changed
abbrev pub IsLine : Reply → World → World → Result Answer NoMemory → Type 0
IsLine line old new (Ok answer) = record { answer = answer; world = new } ≡ line
IsLine line old new (Err e) = new ≡ old

-- a query for which memory may be wanted
abbrev pub takes_memory : Query → Bool
takes_memory (queries.Device device query) = devices.takes_memory query
takes_memory (queries.Table query) = tables.takes_memory query
