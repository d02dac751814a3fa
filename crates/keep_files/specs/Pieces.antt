-- What the cutter of a directory's bytes and the list of all blocks hold.
use Rattle.std.specs.Prelude.{ℕ, ◌==◌, ◌<◌, ◌++◌, ◌≡◌, true, List, [], ◌∷◌, length, Some, is_some}
use Rattle.std.specs.List.{list_all, flat_map}
use Rattle.std.specs.BTreeMap.{get}
use Rattle.md5.specs.Md5.{md5}
use Rattle.keep_normal.specs.Grouped.{byte_order}
use Rattle.keep_files.specs.declared.cutter.Cutter.{Cutter}
use Rattle.keep_files.specs.declared.blocks.Blocks.{Blocks}

-- the bytes that were given
abbrev pub given_to : Cutter → List ℕ
given_to c = flat_map (λ p. p) c.pieces.items ++ c.begun.items

-- one piece, none where it has no bytes
abbrev pub last_piece : List ℕ → List (List ℕ)
last_piece [] = []
last_piece (x ∷ xs) = (x ∷ xs) ∷ []

-- all pieces are whole, and the next one isn't yet
pub record IsCut (c : Cutter) : Type 0 where
  pub full : list_all (λ p. length p == c.size) c.pieces.items ≡ true
  pub less : length c.begun.items < c.size

-- each block's digest is known with the place of a block
pub record IsKnown (b : Blocks) : Type 0 where
  pub all : list_all (λ block. is_some (get byte_order b.known (md5 block))) b.blocks.items ≡ true
  pub inside : (d : List ℕ) (place : ℕ) → get byte_order b.known d ≡ Some place → place < length b.blocks.items
