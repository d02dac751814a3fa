use Rattle.std.proofs.Common.{◌≡◌, ◌++◌, length}
use Rattle.keep_spec.specs.Names.{decode}
use Rattle.keep_manifest.proofs.names.decode_bytes.Given as goal

abbrev pub invariant-loop-rest : goal.invariant-loop-rest
invariant-loop-rest l = l.name.items ++ decode l.rest ≡ decode l.text

abbrev pub decreases-loop-rest : goal.decreases-loop-rest
decreases-loop-rest l = length l.rest
