use Rattle.std.proofs.Common.{◌≡◌, true}
use Rattle.std.specs.List.{flat_map}
use Rattle.keep_normal.specs.Files.{joined_parts}
use Rattle.keep_normal.specs.Sound.{are_sound}
use Rattle.keep_normal.proofs.listing.file_of.Given as goal

abbrev pub invariant-loop-piece : goal.invariant-loop-piece
invariant-loop-piece l = record {
  sound : are_sound l.parts.items ≡ true;
  joined : l.parts.items ≡ joined_parts (flat_map (λ ps. ps) l.yielded);
}
