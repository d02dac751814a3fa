-- What the reader of script lines answers, given what the rule says of a text.
use Rattle.std.specs.Prelude.{◌≡◌, Option, None, Some, Result, Ok, Err, ⊤}
use Rattle.keep_history.specs.declared.task.Command.{Command}
use Rattle.keep_script.specs.declared.line.CommandError.{CommandError}
use Rattle.keep_script.specs.declared.line.CommandError.TheVariants.{NotALine, NoMemory}

-- the command where there is one, and NotALine exactly where there is none
abbrev pub IsRead : Option Command → Result Command CommandError → Type 0
IsRead said (Ok command) = said ≡ Some command
IsRead said (Err NotALine) = said ≡ None
IsRead said (Err NoMemory) = ⊤
