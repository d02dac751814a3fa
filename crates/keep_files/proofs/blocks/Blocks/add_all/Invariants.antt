use Rattle.std.proofs.Common.{◌≡◌, map}
use Rattle.std.specs.Prelude.{fold}
use Rattle.keep_files.specs.Layout.{locator_of, with_block}
use Rattle.keep_files.specs.Pieces.{IsKnown}
use Rattle.keep_files.proofs.blocks.Blocks.add_all.Given as goal

abbrev pub invariant-loop-piece : goal.invariant-loop-piece
invariant-loop-piece l = record {
  known : IsKnown l.self;
  added : l.self.blocks.items ≡ fold with_block l.initial.self.blocks.items l.yielded;
  locators : l.locators.items ≡ map locator_of l.yielded;
}
