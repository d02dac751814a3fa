-- What `Blocks` remembers of the blocks of a line.
use Rattle.std.specs.Prelude.{ℕ, ◌*◌, ◌^◌, ◌≤◌, ◌≡◌, List, length}
use Rattle.std.specs.BTreeMap.{get}
use Rattle.keep_spec.specs.Manifest.{total_size}
use Rattle.keep_normal.specs.declared.blocks.Blocks.{Blocks}
use Rattle.keep_normal.specs.Grouped.{byte_order}
use Rattle.keep_normal.specs.Normal.{start_at}

-- each block's start is known, and the bytes of all of them
pub record IsKnown (b : Blocks) : Type 0 where
  pub starts : (q : List ℕ) → get byte_order b.known q ≡ start_at b.locators.items q
  pub summed : b.total ≡ total_size b.locators.items
  pub bounded : b.total ≤ 10 ^ 19 * length b.locators.items
