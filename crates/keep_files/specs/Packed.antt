-- What `pack_files` returns: the first fault in the list (this project's own rule), or the blocks and the text, which is the normal form (Arvados) of what was laid out.
use Rattle.std.specs.Prelude.{ℕ, not, List, [], ◌∷◌, ◌++◌, length, Option, None, Some, Result, Ok, Err, ◌≡◌, if◌then◌else◌}
use Rattle.std.specs.List.{list_any}
use Rattle.std.specs.Str.{bytes_eq}
use Rattle.keep_spec.specs.Names.{is_path}
use Rattle.keep_spec.specs.Manifest.{text_of}
use Rattle.keep_normal.specs.Normal.{normal}
use Rattle.keep_files.specs.Layout.{laid_out, blocks_of}
use Rattle.keep_files.specs.declared.file.FileIn.{FileIn}
use Rattle.keep_files.specs.declared.file.Packed.{Packed}
use Rattle.keep_files.specs.declared.fault.PackError.{PackError}
use Rattle.keep_files.specs.declared.fault.PackError.TheVariants.{NoMemory, BadName, Twice}

-- the fault of a path, after so many earlier ones: its form first
abbrev pub fault_after : List (List ℕ) → List ℕ → Option PackError
fault_after earlier path =
    if not (is_path path) then Some (BadName (length earlier))
    else (if list_any (bytes_eq path) earlier then Some (Twice (length earlier)) else None)

abbrev pub or_else : Option PackError → Option PackError → Option PackError
or_else (Some e) later = Some e
or_else None later = later

-- the first fault of files that come after others with these paths
unfoldable pub first_fault : List (List ℕ) → List FileIn → Option PackError
first_fault earlier [] = None
first_fault earlier (f ∷ fs) = or_else (fault_after earlier f.path) (first_fault (earlier ++ f.path ∷ []) fs)

-- the files laid out in blocks of n bytes
abbrev pub packed : ℕ → List FileIn → Packed
packed n fs = record { blocks = blocks_of n fs; text = text_of (normal (laid_out n fs)) }

-- the error is the first fault of the files, or memory was refused
abbrev pub Fails : PackError → Option PackError → Type 0
Fails NoMemory fault = Unit {0}
Fails (BadName index) fault = fault ≡ Some (BadName index)
Fails (Twice index) fault = fault ≡ Some (Twice index)

-- a call packs the files into blocks of n bytes where there is no fault
abbrev pub Packs : Result Packed PackError → ℕ → List FileIn → Type 0
Packs (Ok p) n fs = (first_fault [] fs ≡ None) × (p ≡ packed n fs)
Packs (Err e) n fs = Fails e (first_fault [] fs)
