-- Where the blocks of a stream lie, end to end.
use Rattle.std.specs.Prelude.{ℕ, ◌+◌, List, [], ◌∷◌}
use Rattle.keep_spec.specs.Locator.{size}
use Rattle.keep_normal.specs.declared.block.Block.{Block}

abbrev pub placed : ℕ → List (List ℕ) → List Block
placed start [] = []
placed start (locator ∷ locators) = record { start = start; end = start + size locator } ∷ placed (start + size locator) locators
