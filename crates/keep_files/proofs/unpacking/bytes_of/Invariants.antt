use Rattle.std.proofs.Common.{◌≡◌, ◌++◌, ℕ, List, drop, Ok}
use Rattle.std.specs.BTreeMap.{get}
use Rattle.keep_spec.specs.Results.{◌>>=◌}
use Rattle.keep_normal.specs.Grouped.{byte_order}
use Rattle.keep_files.specs.Stored.{bytes_of}
use Rattle.keep_files.proofs.unpacking.bytes_of.Given as goal

-- the parts so far were read
abbrev pub invariant-loop-part : goal.invariant-loop-part
invariant-loop-part l =
    let stored = λ (d : List ℕ). get byte_order l.blocks d in
    bytes_of stored l.parts ≡ (bytes_of stored (drop l.part-index l.parts) >>= λ t. Ok (l.bytes.items ++ t))
