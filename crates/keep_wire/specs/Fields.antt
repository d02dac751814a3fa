-- What the fields of a head say (RFC 9110 and 9112). A field is a pair of its name and its value, the value without the white space around it. That any Transfer-Encoding is refused, and that a Content-Length has 1 to 19 digits, are this project's own rules.
use Rattle.std.specs.Prelude.{ℕ, Bool, true, false, List, [], ◌∷◌, Option, Some, None, if◌then◌else◌, ◌&&◌, ◌||◌, ◌==◌, nat_eq, map, drop, codes}
use Rattle.std.specs.List.{list_any, starts_with}
use Rattle.std.specs.Str.{bytes_eq}
use Rattle.std.specs.Char.{to_ascii_lowercase}
use Rattle.keep_spec.specs.Locator.{is_number, number}

abbrev pub Pairs : Type 0
Pairs = List (List ℕ × List ℕ)

-- whether two texts are equal apart from the case of ASCII letters
abbrev pub is_alike : List ℕ → List ℕ → Bool
is_alike a b = bytes_eq (map to_ascii_lowercase a) (map to_ascii_lowercase b)

-- the values of the fields with this name, in order
abbrev pub values_of : List ℕ → Pairs → List (List ℕ)
values_of name [] = []
values_of name (f ∷ fs) = if is_alike f.0 name then f.1 ∷ values_of name fs else values_of name fs

abbrev pub transfer_encodings : Pairs → List (List ℕ)
transfer_encodings fs = values_of (codes "transfer-encoding") fs

abbrev pub content_lengths : Pairs → List (List ℕ)
content_lengths fs = values_of (codes "content-length") fs

-- no length, or one, of 1 to 19 decimal digits
abbrev pub are_lengths : List (List ℕ) → Bool
are_lengths [] = true
are_lengths (v ∷ []) = is_number v
are_lengths (v ∷ w ∷ vs) = false

abbrev pub is_empty : List (List ℕ) → Bool
is_empty [] = true
is_empty (v ∷ vs) = false

-- whether the fields say where the body ends in the one accepted way: by at most one Content-Length, and no Transfer-Encoding
abbrev pub is_framed : Pairs → Bool
is_framed fs = is_empty (transfer_encodings fs) && are_lengths (content_lengths fs)

abbrev pub first_number : List (List ℕ) → Option ℕ
first_number [] = None
first_number (v ∷ vs) = Some (number v)

-- the Content-Length, if there is one
abbrev pub length_of : Pairs → Option ℕ
length_of fs = first_number (content_lengths fs)

-- the value, where there is exactly one
abbrev pub only : List (List ℕ) → Option (List ℕ)
only [] = None
only (v ∷ []) = Some v
only (v ∷ w ∷ vs) = None

-- what follows one of the two words that introduce a token
abbrev pub token_in : List ℕ → Option (List ℕ)
token_in v =
    if starts_with nat_eq v (codes "Bearer ") then Some (drop 7 v)
    else (if starts_with nat_eq v (codes "OAuth2 ") then Some (drop 7 v) else None)

abbrev pub token_of_only : Option (List ℕ) → Option (List ℕ)
token_of_only None = None
token_of_only (Some v) = token_in v

-- the token of the only Authorization field
abbrev pub token_of : Pairs → Option (List ℕ)
token_of fs = token_of_only (only (values_of (codes "authorization") fs))

-- the value of the only Range field
abbrev pub range_of : Pairs → Option (List ℕ)
range_of fs = only (values_of (codes "range") fs)

-- A request closes its connection where it is HTTP/1.0, or has a Connection field whose whole value is `close`.
abbrev pub closes : ℕ → Pairs → Bool
closes minor fs = (minor == 0) || list_any (λ v. is_alike v (codes "close")) (values_of (codes "connection") fs)
