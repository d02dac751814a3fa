use Rattle.std.proofs.Common.{◌≡◌, ◌++◌, ℕ, List, drop, Ok}
use Rattle.std.specs.BTreeMap.{get}
use Rattle.keep_spec.specs.Results.{◌>>=◌}
use Rattle.keep_normal.specs.Grouped.{byte_order}
use Rattle.keep_files.specs.Stored.{files_of}
use Rattle.keep_files.proofs.unpacking.unpack.Given as goal

-- the files so far were read
abbrev pub invariant-loop-file : goal.invariant-loop-file
invariant-loop-file l =
    let stored = λ (d : List ℕ). get byte_order l.blocks d in
    files_of stored l.file-items ≡ (files_of stored (drop l.file-index l.file-items) >>= λ t. Ok (l.unpacked.items ++ t))
