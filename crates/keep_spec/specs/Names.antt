-- The names of streams and files in a manifest, and how they are written there (the Arvados manifest format).
use Rattle.std.specs.Prelude.{ℕ, ◌+◌, ◌-◌, ◌*◌, ◌/◌, ◌%◌, ◌==◌, ◌&&◌, ◌||◌, nat_le, not, Bool, true, false, List, [], ◌∷◌, if◌then◌else◌}
use Rattle.std.specs.List.{list_all, flat_map, slice_split}

abbrev pub is_octal : ℕ → Bool
is_octal b = nat_le 48 b && nat_le b 55

-- the value of three octal digits
abbrev pub octal_value : ℕ → ℕ → ℕ → ℕ
octal_value a b c = (a - 48) * 64 + (b - 48) * 8 + (c - 48)

-- three octal digits of value at most 255
abbrev pub is_code : ℕ → ℕ → ℕ → Bool
is_code a b c = is_octal a && is_octal b && is_octal c && nat_le (octal_value a b c) 255

-- a backslash and such a code
abbrev pub is_escape : ℕ → ℕ → ℕ → ℕ → Bool
is_escape x a b c = x == 92 && is_code a b c

-- two backslashes
abbrev pub is_double : ℕ → ℕ → Bool
is_double x a = x == 92 && a == 92

-- The bytes that a written name stands for: an escape is one byte, two backslashes are one, and any other byte stands for itself.
unfoldable pub decode : List ℕ → List ℕ
decode [] = []
decode (x ∷ []) = x ∷ []
decode (x ∷ a ∷ []) = if is_double x a then 92 ∷ [] else x ∷ decode (a ∷ [])
decode (x ∷ a ∷ b ∷ []) = if is_double x a then 92 ∷ decode (b ∷ []) else x ∷ decode (a ∷ b ∷ [])
decode (x ∷ a ∷ b ∷ c ∷ rest) =
    if is_escape x a b c then octal_value a b c ∷ decode rest
    else (if is_double x a then 92 ∷ decode (b ∷ c ∷ rest) else x ∷ decode (a ∷ b ∷ c ∷ rest))

-- the bytes that are written as escapes: 0 to 32, `:` and `\`
abbrev pub is_escaped : ℕ → Bool
is_escaped b = nat_le b 32 || b == 58 || b == 92

abbrev pub encode_byte : ℕ → List ℕ
encode_byte b = if is_escaped b then 92 ∷ (b / 64 + 48) ∷ (b / 8 % 8 + 48) ∷ (b % 8 + 48) ∷ [] else b ∷ []

-- a name as it is written, byte by byte
abbrev pub encode : List ℕ → List ℕ
encode name = flat_map encode_byte name

-- neither empty, nor `.`, nor `..`
abbrev pub is_component : List ℕ → Bool
is_component [] = false
is_component (a ∷ []) = not (a == 46)
is_component (a ∷ b ∷ []) = not (a == 46 && b == 46)
is_component (a ∷ b ∷ c ∷ rest) = true

-- one or more components with `/` between
unfoldable pub is_path : List ℕ → Bool
is_path name = list_all is_component (slice_split (λ b. b == 47) name)

-- `.`, or `./` and a path
abbrev pub is_stream_name : List ℕ → Bool
is_stream_name [] = false
is_stream_name (a ∷ []) = a == 46
is_stream_name (a ∷ b ∷ rest) = a == 46 && b == 47 && is_path rest
