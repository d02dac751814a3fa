-- Names in buckets, one for each first byte of a digest.
use Rattle.std.specs.Prelude.{◌≡◌, ℕ, suc, ◌⊎◌, List, [], ◌∷◌, ◌++◌, length, map, slice_index, Option, None, Some}
use Rattle.std.specs.List.{AllByRecursion}
use Rattle.keep_event.specs.Store.{above, IsAscending}
use Rattle.keep_event.specs.declared.names.Name.{Name}

-- the entries of a list of names, and for how many more it has room
pub record Listed (X : Type 0) : Type 0 where
  pub entries : List (Name × X)
  pub room : ℕ

-- the entries of all buckets, and for how many more names each bucket has room
pub record Bucketed (X : Type 0) : Type 0 where
  pub entries : List (Name × X)
  pub rooms : List ℕ

abbrev pub first_byte : Name → ℕ
first_byte n = slice_index n.digest 0

abbrev pub room_for : Name → List ℕ → ℕ
room_for n rooms = slice_index rooms (first_byte n)

-- the entries above a name, bucket by bucket
abbrev pub entries_above : {X : Type 0} → Option Name → List (Listed X) → List (Name × X)
entries_above after [] = []
entries_above after (b ∷ bs) = above after b.entries ++ entries_above after bs

abbrev pub entries_of : {X : Type 0} → List (Listed X) → List (Name × X)
entries_of bs = entries_above None bs

-- the i-th bucket has the names whose first byte is i
abbrev pub ArePlaced : {X : Type 0} → ℕ → List (Listed X) → Type 0
ArePlaced i [] = Unit {0}
ArePlaced i (b ∷ bs) = AllByRecursion (λ n. first_byte n ≡ i) (map (λ e. e.0) b.entries) × ArePlaced (suc i) bs

-- no bucket, or one for each byte
pub record AreBuckets {X : Type 0} (bs : List (Listed X)) : Type 0 where
  pub number : (bs ≡ []) ⊎ (length bs ≡ 256)
  pub placed : ArePlaced 0 bs
  pub ascending : IsAscending (entries_of bs)

-- the bucket from which on names lie above a name
abbrev pub first_bucket : Option Name → ℕ
first_bucket None = 0
first_bucket (Some n) = first_byte n
