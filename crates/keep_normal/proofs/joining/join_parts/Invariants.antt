use Rattle.std.proofs.Common.{◌≡◌, true}
use Rattle.std.specs.Prelude.{fold}
use Rattle.keep_normal.specs.Files.{touch, both_parts}
use Rattle.keep_normal.specs.Joined.{joined_after}
use Rattle.keep_normal.specs.Sound.{are_sound}
use Rattle.keep_normal.proofs.joining.join_parts.Given as goal

abbrev pub invariant-loop-part : goal.invariant-loop-part
invariant-loop-part l = record {
  sound : are_sound l.parts.items ≡ true;
  joined : l.parts.items ≡ fold (joined_after touch both_parts) l.initial.parts.items l.yielded;
}
