-- Why a text is refused: what public clauses say of the error of a call that reads a manifest.
use Rattle.std.specs.Prelude.{Option, Some, ◌≡◌}
use Rattle.keep_spec.specs.declared.manifest.Refusal.{Refusal}
use Rattle.keep_manifest.specs.declared.fault.BadManifest.{BadManifest}
use Rattle.keep_manifest.specs.declared.fault.BadManifest.TheVariants.{NoMemory, Refused}

-- the error is the first refusal of the text, or memory was refused
abbrev pub IsCause : Option Refusal → BadManifest → Type 0
IsCause refusal NoMemory = Unit {0}
IsCause refusal (Refused f) = refusal ≡ Some f
