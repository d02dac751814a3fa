-- UUIDs in the form of Arvados: 27 characters, 5, `-`, 5, `-` and 15, where all others are lower-case letters and digits.
use Rattle.std.specs.Prelude.{ℕ, ◌==◌, ◌&&◌, ◌||◌, nat_le, List, length, Bool, slice_index, slice_range}
use Rattle.std.specs.List.{list_all}

-- a character of `a-z0-9`
abbrev pub is_uuid_character : ℕ → Bool
is_uuid_character b = (nat_le 97 b && nat_le b 122) || (nat_le 48 b && nat_le b 57)

abbrev pub is_uuid_part : List ℕ → Bool
is_uuid_part text = list_all is_uuid_character text

-- the middle part, which says what is named
abbrev pub uuid_kind : List ℕ → List ℕ
uuid_kind text = slice_range text 6 11

abbrev pub is_uuid : List ℕ → Bool
is_uuid text =
    (length text == 27)
    && is_uuid_part (slice_range text 0 5) && (slice_index text 5 == 45)
    && is_uuid_part (uuid_kind text) && (slice_index text 11 == 45)
    && is_uuid_part (slice_range text 12 27)
