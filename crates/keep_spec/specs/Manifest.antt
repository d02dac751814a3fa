-- Manifests (the Arvados manifest format), and where a text that is none is refused (this project's own rule).
use Rattle.std.specs.Prelude.{ℕ, ◌+◌, ◌==◌, ◌&&◌, ◌||◌, nat_lt, nat_le, Bool, not, ◌≡◌, List, [], ◌∷◌, ◌++◌, length, map, filter, decimal, drop, sum_by, take_while, Option, None, Some, option_and_then, option_map, if◌then◌else◌, codes}
use Rattle.std.specs.List.{prefix_len, slice_split, flat_map}
use Rattle.std.specs.Str.{bytes_eq}
use Rattle.keep_spec.specs.Locator.{is_number, number, is_locator, size, digest, is_empty_block}
use Rattle.keep_spec.specs.Names.{decode, encode, is_path, is_stream_name}
use Rattle.keep_spec.specs.declared.manifest.Manifest.{Manifest}
use Rattle.keep_spec.specs.declared.manifest.Stream.{Stream}
use Rattle.keep_spec.specs.declared.manifest.Segment.{Segment}

-- a text cut at its first byte c, which is in neither part
unfoldable pub cut_at : ℕ → List ℕ → Option (List ℕ × List ℕ)
cut_at c [] = None
cut_at c (x ∷ xs) = if x == c then Some ([], xs) else option_map (λ p. (x ∷ p.0, p.1)) (cut_at c xs)

infixl 10 ◌>>=◌
abbrev pub ◌>>=◌ : {A B : Type 0} → Option A → (A → Option B) → Option B
o >>= f = option_and_then f o

-- 1 to 19 decimal digits
abbrev pub number_of : List ℕ → Option ℕ
number_of digits = if is_number digits then Some (number digits) else None

-- of the form `position:size:name`
unfoldable pub segment_form : List ℕ → Option Segment
segment_form token = do
  p ← cut_at 58 token
  position ← number_of p.0
  s ← cut_at 58 p.1
  size ← number_of s.0
  Some (record { position = position; size = size; name = decode s.1 })

-- a path, or the mark of an empty directory: no bytes, and the whole name `.`
abbrev pub is_named : Segment → Bool
is_named s = is_path s.name || (s.size == 0 && bytes_eq s.name (codes "."))

-- within the stream's blocks, which have `total` bytes
abbrev pub is_within : ℕ → Segment → Bool
is_within total s = nat_le (s.position + s.size) total

abbrev pub is_segment : ℕ → Segment → Bool
is_segment total s = is_named s && is_within total s

-- the segment that a token writes in a stream of `total` bytes
abbrev pub segment_of : ℕ → List ℕ → Option Segment
segment_of total token = segment_form token >>= λ s. if is_segment total s then Some s else None

-- the blocks of a stream lie end to end
abbrev pub total_size : List (List ℕ) → ℕ
total_size locators = sum_by size locators

-- f of each member, and none where f is none of one
abbrev pub each : {X Y : Type 0} → (X → Option Y) → List X → Option (List Y)
each f [] = Some []
each f (x ∷ xs) = do
  y ← f x
  ys ← each f xs
  Some (y ∷ ys)

-- a name, one or more locators, and one or more segments
abbrev pub stream_of_parts : List ℕ → List (List ℕ) → List (List ℕ) → Option Stream
stream_of_parts name locators segments =
    if is_stream_name name && nat_lt 0 (length locators) && nat_lt 0 (length segments)
    then option_map (λ ss. record { name = name; locators = locators; segments = ss }) (each (segment_of (total_size locators)) segments)
    else None

-- the first token after the name that isn't a locator begins the segments
abbrev pub stream_of_tokens : List (List ℕ) → Option Stream
stream_of_tokens [] = None
stream_of_tokens (name ∷ tokens) = stream_of_parts (decode name) (take_while is_locator tokens) (drop (prefix_len is_locator tokens) tokens)

-- the stream of a line: tokens with single spaces between
abbrev pub stream_of : List ℕ → Option Stream
stream_of line = stream_of_tokens (slice_split (λ b. b == 32) line)

-- each line ends with a newline: nothing follows the last one
abbrev pub streams_of : List (List ℕ) → Option (List Stream)
streams_of [] = Some []
streams_of (line ∷ []) = if length line == 0 then Some [] else None
streams_of (line ∷ next ∷ more) = do
  s ← stream_of line
  ss ← streams_of (next ∷ more)
  Some (s ∷ ss)

-- the manifest that a text writes, if it is one
unfoldable pub manifest_of : List ℕ → Option Manifest
manifest_of text = option_map (λ ss. record { streams = ss }) (streams_of (slice_split (λ b. b == 10) text))

-- A manifest is good if some text writes it.
abbrev pub IsGood : Manifest → Type 0
IsGood m = (text : List ℕ) × (manifest_of text ≡ Some m)

-- How a manifest is written: names with their escapes, and numbers without leading zeros.
abbrev pub segment_text : Segment → List ℕ
segment_text s = decimal s.position ++ 58 ∷ decimal s.size ++ 58 ∷ encode s.name

-- a token that follows another
abbrev pub follow : List ℕ → List ℕ
follow token = 32 ∷ token

abbrev pub stream_text : Stream → List ℕ
stream_text s = encode s.name ++ flat_map follow s.locators ++ flat_map (λ g. follow (segment_text g)) s.segments ++ 10 ∷ []

unfoldable pub text_of : Manifest → List ℕ
text_of m = flat_map stream_text m.streams

-- The digests that a manifest names: those of its locators in their order, but the empty block.
abbrev pub named_in : List (List ℕ) → List (List ℕ)
named_in locators = map digest (filter (λ l. not (is_empty_block l)) locators)

unfoldable pub named : Manifest → List (List ℕ)
named m = flat_map (λ s. named_in s.locators) m.streams
