-- The builder of a stream as the parts that it holds, apart from where they lie in memory.
use Rattle.std.specs.Prelude.{Result, Ok, Err, ◌≡◌}
use Rattle.keep_spec.specs.declared.manifest.Refusal.{Refusal}
use Rattle.keep_manifest.specs.Parsing.{Parts}
use Rattle.keep_manifest.specs.declared.line.StreamBuilder.{StreamBuilder}
use Rattle.keep_manifest.specs.declared.fault.BadManifest.{BadManifest}
use Rattle.keep_manifest.specs.declared.fault.BadManifest.TheVariants.{NoMemory, Refused}

abbrev pub parts_of : StreamBuilder → Parts
parts_of s = record { locators = s.locators.items; segments = s.segments.items }

-- a call leaves the parts that parsing returns, unless memory was refused
abbrev pub Leaves : Result (Unit {0}) BadManifest → Parts → Result Parts Refusal → Type 0
Leaves (Ok x) new parsed = parsed ≡ Ok new
Leaves (Err NoMemory) new parsed = Unit {0}
Leaves (Err (Refused f)) new parsed = parsed ≡ Err f
