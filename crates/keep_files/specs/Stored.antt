-- What `unpack` returns: the files of a manifest (Arvados), read from blocks that are found by their digests, or the first part that can't be read (this project's own rule).
use Rattle.std.specs.Prelude.{ℕ, ◌+◌, nat_le, List, [], ◌∷◌, ◌++◌, length, take, drop, Option, None, Some, Result, Ok, Err, Vec, ◌≡◌, Contains, if◌then◌else◌}
use Rattle.std.specs.List.{find}
use Rattle.std.specs.Str.{bytes_eq}
use Rattle.md5.specs.Md5.{md5}
use denote.Ref.{Bor}
use Rattle.keep_spec.specs.Locator.{digest}
use Rattle.keep_spec.specs.Results.{◌>>=◌}
use Rattle.keep_spec.specs.declared.manifest.Manifest.{Manifest}
use Rattle.keep_normal.specs.declared.part.Part.{Part}
use Rattle.keep_normal.specs.declared.part.FileParts.{FileParts}
use Rattle.keep_normal.specs.Files.{files}
use Rattle.keep_files.specs.declared.file.FileIn.{FileIn}
use Rattle.keep_files.specs.declared.fault.UnpackError.{UnpackError}
use Rattle.keep_files.specs.declared.fault.UnpackError.TheVariants.{NoMemory, Missing, Short}

-- no two different blocks have one digest
abbrev pub HaveOwnDigests : List (List ℕ) → Type 0
HaveOwnDigests blocks = (a b : List ℕ) → Contains blocks a → Contains blocks b → md5 a ≡ md5 b → a ≡ b

-- what is stored where blocks are: the first of them that has the digest
abbrev pub stored_in : List (List ℕ) → List ℕ → Option (List ℕ)
stored_in blocks d = find (λ b. bytes_eq (md5 b) d) blocks

-- the bytes of a part in what is stored under its digest
abbrev pub part_in : Part → Option (List ℕ) → Result (List ℕ) UnpackError
part_in p None = Err (Missing (digest p.locator))
part_in p (Some block) =
    if nat_le (p.offset + p.length) (length block) then Ok (take p.length (drop p.offset block)) else Err (Short (digest p.locator))

abbrev pub part_bytes : (List ℕ → Option (List ℕ)) → Part → Result (List ℕ) UnpackError
part_bytes stored p = part_in p (stored (digest p.locator))

-- the bytes of parts, end to end, or what is wrong with the first that can't be read
unfoldable pub bytes_of : (List ℕ → Option (List ℕ)) → List Part → Result (List ℕ) UnpackError
bytes_of stored [] = Ok []
bytes_of stored (p ∷ ps) = do
  bytes ← part_bytes stored p
  rest ← bytes_of stored ps
  Ok (bytes ++ rest)

-- a path without its leading `./`
abbrev pub file_with : List ℕ → List ℕ → FileIn
file_with path bytes = record { path = drop 2 path; bytes = bytes }

abbrev pub file_of : (List ℕ → Option (List ℕ)) → FileParts → Result FileIn UnpackError
file_of stored f = do
  bytes ← bytes_of stored f.parts
  Ok (file_with f.path bytes)

unfoldable pub files_of : (List ℕ → Option (List ℕ)) → List FileParts → Result (List FileIn) UnpackError
files_of stored [] = Ok []
files_of stored (f ∷ fs) = do
  file ← file_of stored f
  rest ← files_of stored fs
  Ok (file ∷ rest)

-- the files of a manifest in ascending order of their paths, each read from what is stored under the digests of its parts
abbrev pub unpacking : Manifest → (List ℕ → Option (List ℕ)) → Result (List FileIn) UnpackError
unpacking m stored = files_of stored (files m)

-- the error is that of this result, or memory was refused
abbrev pub Fails : {X : Type 0} → UnpackError → Result X UnpackError → Type 0
Fails NoMemory is = Unit {0}
Fails (Missing d) is = is ≡ Err (Missing d)
Fails (Short d) is = is ≡ Err (Short d)

-- a call returns this result, unless memory was refused
abbrev pub Unpacks : {X : Type 0} → Result X UnpackError → Result X UnpackError → Type 0
Unpacks (Ok x) is = is ≡ Ok x
Unpacks (Err e) is = Fails e is

-- the same where the call collects it in a vector
abbrev pub Collects : {X A : Type 0} → Result (Vec X A) UnpackError → Result (List X) UnpackError → Type 0
Collects (Ok v) is = is ≡ Ok v.items
Collects (Err e) is = Fails e is

-- the same where the call lends it
abbrev pub Lends : Result (Bor (List ℕ)) UnpackError → Result (List ℕ) UnpackError → Type 0
Lends (Ok r) is = is ≡ Ok r.now
Lends (Err e) is = Fails e is
