-- Values grouped by key: an ordered map from each key to its values in their order.
use Rattle.std.specs.Prelude.{ℕ, List, [], ◌∷◌, ◌++◌, filter, map, unwrap_or, fold}
use Rattle.std.specs.Ordering.{nat_cmp}
use Rattle.std.specs.declared.cmp.Ordering.{Ordering}
use Rattle.std.specs.Cmp.Lexicographic.{slice_cmp}
use Rattle.std.specs.Str.{bytes_eq}
use Rattle.std.specs.BTreeMap.{insert_entry, is_at}
use Rattle.std.specs.Map.{lookup}

-- the order of bytes
abbrev pub byte_order : List ℕ → List ℕ → Ordering
byte_order = slice_cmp nat_cmp

-- the values at a key, none where the map hasn't it
abbrev pub values_at : {X : Type 0} → List (List ℕ × List X) → List ℕ → List X
values_at m key = unwrap_or (lookup (is_at (byte_order key)) m) []

-- the map with one more value, the last at its key
unfoldable pub put : {X : Type 0} → List (List ℕ × List X) → List ℕ × X → List (List ℕ × List X)
put m p = insert_entry byte_order m p.0 (values_at m p.0 ++ p.1 ∷ [])

-- keys ascend, and the values of each keep their order
unfoldable pub grouped : {X : Type 0} → List (List ℕ × X) → List (List ℕ × List X)
grouped pairs = fold put [] pairs

-- the values of the pairs with this key, in their order
abbrev pub values_of : {X : Type 0} → List ℕ → List (List ℕ × X) → List X
values_of key pairs = map (λ p. p.1) (filter (λ p. bytes_eq key p.0) pairs)

-- the keys of pairs, as often as they stand there
abbrev pub keys_in : {X : Type 0} → List (List ℕ × X) → List (List ℕ)
keys_in pairs = map (λ p. p.0) pairs
