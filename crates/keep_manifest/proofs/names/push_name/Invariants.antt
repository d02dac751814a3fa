use Rattle.std.proofs.Common.{◌≡◌, ◌++◌, take}
use Rattle.keep_spec.specs.Names.{encode}
use Rattle.keep_manifest.proofs.names.push_name.Given as goal

abbrev pub invariant-loop-byte : goal.invariant-loop-byte
invariant-loop-byte l = l.text.items ≡ l.initial.text.items ++ encode (take l.byte-index l.name)
