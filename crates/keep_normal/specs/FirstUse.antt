-- The blocks that a line of the normal form lists.
use Rattle.std.specs.Prelude.{ℕ, ◌<◌, ◌≡◌, ◌≢◌, ◌↔◌, List, [], ◌∷◌, Contains, AllPairs, codes}
use Rattle.std.specs.List.{position_or_len}
use Rattle.std.specs.Str.{bytes_eq}

-- how many uses come before the first of this block
abbrev pub first_use : List (List ℕ) → List ℕ → ℕ
first_use uses block = position_or_len (bytes_eq block) uses

-- the blocks that are used, each once, in the order of their first use
pub record IsByFirstUse (uses listed : List (List ℕ)) : Type 0 where
  pub used : (block : List ℕ) → Contains listed block ↔ Contains uses block
  pub once : AllPairs (λ a b. a ≢ b) listed
  pub ordered : AllPairs (λ a b. first_use uses a < first_use uses b) listed

-- the same, but for the empty block where none is used
pub record ListsBlocks (uses listed : List (List ℕ)) : Type 0 where
  pub some : uses ≢ [] → IsByFirstUse uses listed
  pub none : uses ≡ [] → listed ≡ codes "d41d8cd98f00b204e9800998ecf8427e+0" ∷ []
