use Rattle.std.proofs.Common.{◌≡◌, take, map}
use Rattle.std.specs.Prelude.{fold}
use Rattle.keep_normal.specs.Known.{IsKnown}
use Rattle.keep_normal.specs.Normal.{with_block}
use Rattle.keep_normal.specs.declared.part.Part.{Part}
use Rattle.keep_normal.proofs.blocks.Blocks.add_all.Given as goal

abbrev pub invariant-loop-part : goal.invariant-loop-part
invariant-loop-part l = record {
  known : IsKnown l.self;
  added : l.self.locators.items ≡ fold with_block l.initial.self.locators.items (map (λ (p : Part). p.locator) (take l.part-index l.parts));
}
