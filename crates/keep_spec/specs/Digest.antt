-- Digests in text: 32 hexadecimal digits. That they are in lower case is this project's rule.
use Rattle.std.specs.Prelude.{ℕ, ◌+◌, ◌-◌, ◌*◌, ◌==◌, ◌&&◌, ◌||◌, nat_lt, nat_le, Bool, List, [], ◌∷◌, length, Option, Some, None, if◌then◌else◌}
use Rattle.std.specs.List.{list_all}

-- one of `0` to `9` and `a` to `f`
abbrev pub is_lower_digit : ℕ → Bool
is_lower_digit c = (nat_le 48 c && nat_le c 57) || (nat_le 97 c && nat_le c 102)

abbrev pub lower_digit_value : ℕ → ℕ
lower_digit_value c = if nat_lt c 58 then c - 48 else c - 87

-- the bytes that pairs of digits write, high four bits first
unfoldable pub bytes_of_digits : List ℕ → List ℕ
bytes_of_digits [] = []
bytes_of_digits (high ∷ []) = []
bytes_of_digits (high ∷ low ∷ rest) = (lower_digit_value high * 16 + lower_digit_value low) ∷ bytes_of_digits rest

abbrev pub is_digest : List ℕ → Bool
is_digest text = (length text == 32) && list_all is_lower_digit text

-- the 16 bytes of a digest's digits
abbrev pub digest_of : List ℕ → Option (List ℕ)
digest_of text = if is_digest text then Some (bytes_of_digits text) else None
