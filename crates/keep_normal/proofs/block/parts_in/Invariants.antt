use Rattle.std.proofs.Common.{◌≡◌, ◌++◌, take, drop}
use Rattle.keep_spec.specs.Manifest.{total_size}
use Rattle.keep_normal.specs.Files.{parts_in}
use Rattle.keep_normal.proofs.block.parts_in.Given as goal

abbrev pub invariant-loop-index : goal.invariant-loop-index
invariant-loop-index l = l.parts.items ++ parts_in (total_size (take l.index l.locators)) l.span (drop l.index l.locators) ≡ parts_in 0 l.span l.locators
