-- The hexadecimal digits of some bytes as numbers, and where they lie against a prefix of characters.
use Rattle.std.specs.Prelude.{ℕ, ◌+◌, ◌-◌, ◌/◌, ◌%◌, nat_le, ◌&&◌, List, [], ◌∷◌, Option, Some, None, if◌then◌else◌, Bool}
use Rattle.std.specs.declared.cmp.Ordering.{Ordering}
use Rattle.std.specs.declared.cmp.Ordering.TheVariants.{Less, Equal}
use Rattle.std.specs.Ordering.{nat_cmp, ordering_then, is_eq}

-- two for each byte, the high four bits first
abbrev pub nibbles : List ℕ → List ℕ
nibbles [] = []
nibbles (b ∷ bs) = b / 16 ∷ b % 16 ∷ nibbles bs

abbrev pub digit_value : ℕ → Option ℕ
digit_value c =
    if nat_le 48 c && nat_le c 57 then Some (c - 48)
    else if nat_le 97 c && nat_le c 102 then Some (c - 97 + 10)
    else None

-- the order of a digit against the one that is wanted, and then of those behind; what isn't wanted as a digit isn't looked at
abbrev pub order_then : ℕ → Ordering → Option ℕ → Ordering
order_then n rest None = Equal
order_then n rest (Some v) = ordering_then (nat_cmp n v) rest

-- digits that begin with the prefix are Equal
abbrev pub order_of : List ℕ → List ℕ → Ordering
order_of ns [] = Equal
order_of [] (c ∷ cs) = Less
order_of (n ∷ ns) (c ∷ cs) = order_then n (order_of ns cs) (digit_value c)

abbrev pub is_within : List ℕ → List ℕ → Bool
is_within prefix digest = is_eq (order_of (nibbles digest) prefix)
