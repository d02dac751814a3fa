use Rattle.std.proofs.Common.{◌≡◌, take}
use Rattle.keep_normal.specs.Known.{IsKnown}
use Rattle.keep_normal.specs.Normal.{blocks}
use Rattle.keep_normal.proofs.blocks.blocks_of.Given as goal

abbrev pub invariant-loop-file : goal.invariant-loop-file
invariant-loop-file l = record {
  known : IsKnown l.blocks;
  added : l.blocks.locators.items ≡ blocks (take l.file-index l.files);
}
