-- How often a digest is named with a number of copies, and the map in which a table counts it.
use Rattle.std.specs.Prelude.{◌≡◌, ◌<◌, ◌&&◌, ◌==◌, ◌+◌, ℕ, Bool, List, [], ◌∷◌, Some, unwrap_or, count_by}
use Rattle.std.specs.Str.{bytes_eq}
use Rattle.std.specs.Map.{lookup}
use Rattle.std.specs.BTreeMap.{is_at}
use Rattle.std.specs.Cmp.Lexicographic.{slice_cmp}
use Rattle.std.specs.Ordering.{nat_cmp, ordering_then}
use Rattle.std.specs.declared.cmp.Ordering.{Ordering}
use Rattle.keep_event.specs.declared.table.Record.{Record}

-- a digest and a number of copies, by the digest and then by the number
abbrev pub want_cmp : List ℕ × ℕ → List ℕ × ℕ → Ordering
want_cmp x y = ordering_then (slice_cmp nat_cmp x.0 y.0) (nat_cmp x.1 y.1)

-- what is counted of a digest with a number of copies
abbrev pub counted : List ((List ℕ × ℕ) × ℕ) → List ℕ → ℕ → ℕ
counted es h n = unwrap_or (lookup (is_at (want_cmp (h, n))) es) 0

-- whether a digest that is wanted so often is this one, and wanted n times
abbrev pub is_mention : List ℕ → ℕ → ℕ → List ℕ → Bool
is_mention h n want named = bytes_eq h named && (want == n)

-- how often digests that are wanted so often name this one, wanted n times
abbrev pub mentions : List ℕ → ℕ → ℕ → List (List ℕ) → ℕ
mentions h n want named = count_by (is_mention h n want) named

-- how often records name a digest and want n copies
abbrev pub mentioned : List ℕ → ℕ → List Record → ℕ
mentioned h n [] = 0
mentioned h n (r ∷ rs) = mentions h n r.made.want r.made.named + mentioned h n rs

-- no count is 0, and no number of copies is above 255
pub record AreCounts (es : List ((List ℕ × ℕ) × ℕ)) : Type 0 where
  pub positive : (h : List ℕ) (n : ℕ) → lookup (is_at (want_cmp (h, n))) es ≡ Some 0 → ⊥
  pub bounded : (h : List ℕ) (n : ℕ) → 0 < counted es h n → n < 256
