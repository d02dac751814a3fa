use Rattle.std.proofs.Common.{◌≡◌, drop}
use Rattle.keep_wire.specs.declared.target.Place.TheVariants.{Empty}
use Rattle.keep_wire.specs.Target.{place_after}
use Rattle.keep_wire.proofs.target.place_of.Given as goal

abbrev pub invariant-loop-byte : goal.invariant-loop-byte
invariant-loop-byte l = place_after l.place (drop l.byte-index l.bytes) ≡ place_after Empty l.bytes
