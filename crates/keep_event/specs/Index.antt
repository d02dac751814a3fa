-- The text of an index: a line `digest+size mtime` for each replica, the time in nanoseconds since 1970, and an empty line at the end, as Arvados' keepstore has it. That the lines ascend by digest is this project's own rule.
use Rattle.std.specs.Prelude.{◌≡◌, ◌<◌, ◌^◌, ℕ, ◌+◌, ◌==◌, ◌&&◌, List, [], ◌∷◌, ◌++◌, length, take, drop, slice_index, Bool, true, false, Option, None, Some, option_and_then, Result, Ok, Err, if◌then◌else◌, decimal, ⊤}
use Rattle.std.specs.List.{before_first, after_first, filter_map, flat_map, last_or, list_any}
use Rattle.std.specs.Option.{option_map_or}
use Rattle.std.specs.Ordering.{nat_cmp, is_lt}
use Rattle.std.specs.Cmp.Lexicographic.{slice_cmp}
use Rattle.hex.specs.Hex.{encode_lower, IsBytes}
use Rattle.keep_spec.specs.Digest.{is_digest, bytes_of_digits}
use Rattle.keep_spec.specs.Lines.{cut, text_of}
use Rattle.keep_spec.specs.Locator.{is_number, number}
use Rattle.keep_event.specs.declared.lists.Entry.{Entry}

-- ---- a digest and a size

abbrev pub locator_text : List ℕ → ℕ → List ℕ
locator_text digest size = encode_lower digest ++ 43 ∷ decimal size

-- a locator without hints: the digest and the size that it has
abbrev pub bare_locator : List ℕ → Option (List ℕ × ℕ)
bare_locator text =
    if is_digest (take 32 text) && (slice_index text 32 == 43) && is_number (drop 33 text)
    then Some (bytes_of_digits (take 32 text), number (drop 33 text)) else None

-- ---- writing

abbrev pub index_line : Entry → List ℕ
index_line e = locator_text e.digest e.size ++ 32 ∷ decimal e.mtime ++ 10 ∷ []

unfoldable pub index_text : List Entry → List ℕ
index_text entries = flat_map index_line entries ++ 10 ∷ []

-- ---- reading

abbrev pub entry_with : List ℕ → List ℕ × ℕ → Option Entry
entry_with time block = if is_number time then Some (record { digest = block.0; size = block.1; mtime = number time }) else None

-- the entry that a line has, where it is in the form
unfoldable pub entry_of_line : List ℕ → Option Entry
entry_of_line line =
    option_and_then (entry_with (after_first (λ b. b == 32) line)) (bare_locator (before_first (λ b. b == 32) line))

-- a piece of the text that ends with a newline
abbrev pub is_whole : List ℕ → Bool
is_whole piece = list_any (λ b. b == 10) piece

abbrev pub is_empty_line : List ℕ → Bool
is_empty_line piece = length (text_of piece) == 0

-- a digest is above that of the entry before it
abbrev pub is_above : Option Entry → Entry → Bool
is_above None e = true
is_above (Some before) e = is_lt (slice_cmp nat_cmp before.digest e.digest)

-- a whole line that follows the empty line is bad
abbrev pub first_after : ℕ → List (List ℕ) → Option ℕ
first_after at [] = None
first_after at (p ∷ ps) = if is_whole p then Some at else None

-- a line that isn't empty is bad where it has no entry, or one that isn't above the entry before it
abbrev pub bad_line : ℕ → Option Entry → Option Entry → (Entry → Option ℕ) → Option ℕ
bad_line at before None later = Some at
bad_line at before (Some e) later = if is_above before e then later e else Some at

-- the offset of the first whole line that is bad; the pieces begin at an offset, and an entry may stand before them
abbrev pub first_bad : ℕ → Option Entry → List (List ℕ) → Option ℕ
first_bad at before [] = None
first_bad at before (p ∷ ps) =
    if is_whole p
    then (if is_empty_line p then first_after (at + length p) ps
    else bad_line at before (entry_of_line (text_of p)) (λ e. first_bad (at + length p) (Some e) ps))
    else None

-- the last piece is the empty line
abbrev pub has_ended : List (List ℕ) → Bool
has_ended pieces = option_map_or (λ p. is_whole p && is_empty_line p) (last_or None pieces) false

pub data Fault : Type 0 where
  bad : ℕ → Fault
  cut_off : Fault

abbrev pub index_of_pieces : List (List ℕ) → Option ℕ → Result (List Entry) Fault
index_of_pieces pieces (Some at) = Err (bad at)
index_of_pieces pieces None =
    if has_ended pieces then Ok (filter_map (λ p. entry_of_line (text_of p)) pieces) else Err cut_off

-- the entries of a text; or the offset of its first bad line; or that it doesn't end with the empty line
unfoldable pub index_of : List ℕ → Result (List Entry) Fault
index_of text = index_of_pieces (cut text) (first_bad 0 None (cut text))

-- ---- what is read again

-- a digest of 16 bytes, and numbers of 19 digits at most
pub record IsWritable (e : Entry) : Type 0 where
  pub long : length e.digest ≡ 16
  pub bytes : IsBytes e.digest
  pub size : e.size < 10 ^ 19
  pub mtime : e.mtime < 10 ^ 19

-- each entry's digest is above that of the one before it
abbrev pub Ascend : Option Entry → List Entry → Type 0
Ascend before [] = ⊤
Ascend before (e ∷ es) = (is_above before e ≡ true) × Ascend (Some e) es
