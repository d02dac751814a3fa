-- Locators, as in the Arvados manifest format: a digest, `+` and the size of the block, then hints. That digits of a digest or a signature are in lower case, that a number has at most 19 digits, and that a block of no bytes needs no signature, are this project's rules.
use Rattle.std.specs.Prelude.{ℕ, zero, suc, ◌+◌, ◌==◌, ◌&&◌, ◌||◌, nat_le, nat_eq, Bool, true, false, ◌≡◌, ◌<◌, ◌≤◌, List, [], ◌∷◌, ◌++◌, length, take, drop, filter, take_while, slice_index, codes, replicate, Option, Some, None, if◌then◌else◌}
use Rattle.std.specs.Char.{is_ascii_digit, is_ascii_uppercase, is_ascii_alphanumeric}
use Rattle.std.specs.List.{list_all, onto_first, concat, starts_with}
use Rattle.std.specs.Str.{bytes_eq}
use Rattle.std.specs.Str.Parse.{digits_value}
use Rattle.std.specs.Option.{option_map}
use Rattle.keep_spec.specs.Digest.{is_lower_digit, is_digest, bytes_of_digits}
use Rattle.keep_spec.specs.declared.permission.Permission.{Permission}

-- 1 to 19 decimal digits, leading zeros allowed
unfoldable pub is_number : List ℕ → Bool
is_number text = nat_le 1 (length text) && nat_le (length text) 19 && list_all is_ascii_digit text

abbrev pub number : List ℕ → ℕ
number text = digits_value 10 text

-- letters, digits, `@`, `_` and `-`
abbrev pub is_hint_character : ℕ → Bool
is_hint_character c = is_ascii_alphanumeric c || (c == 64) || (c == 95) || (c == 45)

-- `+`, an upper-case letter, and any number of hint characters
unfoldable pub is_hint : List ℕ → Bool
is_hint [] = false
is_hint (plus ∷ []) = false
is_hint (plus ∷ letter ∷ rest) = (plus == 43) && is_ascii_uppercase letter && list_all is_hint_character rest

-- a text cut before each `+`
unfoldable pub cut_before_plus : List ℕ → List (List ℕ)
cut_before_plus [] = []
cut_before_plus (x ∷ []) = (x ∷ []) ∷ []
cut_before_plus (x ∷ y ∷ rest) =
    if y == 43 then (x ∷ []) ∷ cut_before_plus (y ∷ rest) else onto_first x (cut_before_plus (y ∷ rest))

-- The parts of a locator. Each is defined on every text.

-- the digits of the size, which follow the digest and its `+`
unfoldable pub size_digits : List ℕ → List ℕ
size_digits text = take_while is_ascii_digit (drop 33 text)

-- the text up to and with its size
unfoldable pub stripped : List ℕ → List ℕ
stripped text = take (33 + length (size_digits text)) text

unfoldable pub hints : List ℕ → List (List ℕ)
hints text = cut_before_plus (drop (33 + length (size_digits text)) text)

unfoldable pub digest : List ℕ → List ℕ
digest text = bytes_of_digits (take 32 text)

unfoldable pub size : List ℕ → ℕ
size text = number (size_digits text)

unfoldable pub is_locator : List ℕ → Bool
is_locator text =
    is_digest (take 32 text) && (slice_index text 32 == 43) && is_number (size_digits text) && list_all is_hint (hints text)

-- a size of value 0, and the digest of no bytes
unfoldable pub is_empty_block : List ℕ → Bool
is_empty_block text = (size text == 0) && bytes_eq (take 32 text) (codes "d41d8cd98f00b204e9800998ecf8427e")

-- The same as a grammar: a digest, `+`, a number and hints, one after another.
pub record IsJoined (text digits number : List ℕ) (hints : List (List ℕ)) : Type 0 where
  pub joined : text ≡ digits ++ 43 ∷ number ++ concat hints
  pub a_digest : is_digest digits ≡ true
  pub a_number : is_number number ≡ true
  pub each_a_hint : list_all is_hint hints ≡ true

-- `+A`, 40 lower-case hexadecimal digits, `@`, 8 more, and nothing else
unfoldable pub is_permission_hint : List ℕ → Bool
is_permission_hint hint =
    (length hint == 51) && starts_with nat_eq hint (codes "+A") && list_all is_lower_digit (take 40 (drop 2 hint))
    && (slice_index hint 42 == 64) && list_all is_lower_digit (take 8 (drop 43 hint))

-- its signature, and its expiry in seconds
unfoldable pub permission_of : List ℕ → Permission
permission_of hint = record { signature = take 40 (drop 2 hint); expiry = digits_value 16 (take 8 (drop 43 hint)) }

-- the member of a list of one
abbrev pub only_one : {X : Type 0} → List X → Option X
only_one [] = None
only_one (x ∷ []) = Some x
only_one (x ∷ y ∷ rest) = None

-- the one permission hint, parsed; none where there are none or several
unfoldable pub permission : List ℕ → Option Permission
permission text = option_map permission_of (only_one (filter is_permission_hint (hints text)))

-- Where a text stops being a prefix of a locator.

abbrev pub BeginsLocator : List ℕ → Type 0
BeginsLocator prefix = (more : List ℕ) × (is_locator (prefix ++ more) ≡ true)

-- the first n bytes of the text are its longest prefix that begins some locator
pub record IsLongestPrefix (text : List ℕ) (n : ℕ) : Type 0 where
  pub within : n ≤ length text
  pub begins : BeginsLocator (take n text)
  pub longest : (m : ℕ) → n < m → m ≤ length text → BeginsLocator (take m text) → ⊥

-- the same as a test: a prefix of a locator is completed by the rest of the least locator, or by the letter that must follow a `+`
unfoldable pub begins_locator : List ℕ → Bool
begins_locator prefix =
    is_locator (prefix ++ drop (length prefix) (replicate 32 48 ++ codes "+0")) || is_locator (prefix ++ codes "A")

-- the greatest number up to n that passes, and 0 where none does
abbrev pub greatest : (ℕ → Bool) → ℕ → ℕ
greatest p zero = 0
greatest p (suc n) = if p (suc n) then suc n else greatest p n

-- how many bytes of a text begin some locator
unfoldable pub locator_prefix_len : List ℕ → ℕ
locator_prefix_len text = greatest (λ n. begins_locator (take n text)) (length text)
