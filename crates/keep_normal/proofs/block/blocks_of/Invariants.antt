use Rattle.std.proofs.Common.{◌≡◌, ◌++◌, ◌*◌, ◌^◌, ◌≤◌, drop}
use Rattle.keep_normal.specs.Placed.{placed}
use Rattle.keep_normal.proofs.block.blocks_of.Given as goal

-- the places so far, with those of the rest, are those of all
abbrev pub invariant-loop-locator : goal.invariant-loop-locator
invariant-loop-locator l =
    (l.blocks.items ++ placed l.start (drop l.locator-index l.locators) ≡ placed 0 l.locators) × (l.start ≤ 10 ^ 19 * l.locator-index)
