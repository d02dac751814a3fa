-- The result of a parser that takes memory.
use Rattle.std.specs.Prelude.{◌≡◌, Result, Ok, Err, ⊤}
use Rattle.keep_spec.specs.declared.config.Field.{Field}
use Rattle.keep_config.specs.declared.error.ConfigError.{ConfigError}
use Rattle.keep_config.specs.declared.error.ConfigError.TheVariants.{BadConfig, NoMemory}

-- the value or the refused field that the definition names; or memory was refused
abbrev pub IsParsed : {X : Type 0} → Result X Field → Result X ConfigError → Type 0
IsParsed parsed (Ok x) = parsed ≡ Ok x
IsParsed parsed (Err (BadConfig field)) = parsed ≡ Err field
IsParsed parsed (Err NoMemory) = ⊤
