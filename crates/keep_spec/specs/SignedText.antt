-- Locators and texts with other permission hints.
use Rattle.std.specs.Prelude.{ℕ, ◌==◌, ◌||◌, not, Bool, List, [], ◌∷◌, ◌++◌, length, drop, filter, take_while, codes, if◌then◌else◌}
use Rattle.std.specs.List.{concat, flat_map, onto_first}
use Rattle.keep_spec.specs.Locator.{is_locator, is_empty_block, digest, stripped, hints, is_permission_hint}
use Rattle.keep_spec.specs.Sign.{hex8, signature_of}

-- a locator without its permission hints; other hints stay
unfoldable pub unsigned : List ℕ → List ℕ
unsigned locator = stripped locator ++ concat (filter (λ h. not (is_permission_hint h)) (hints locator))

-- `+A`, the signature, `@` and the expiry
unfoldable pub permission_hint : List ℕ → List ℕ → ℕ → ℕ → List ℕ → List ℕ
permission_hint digest token expiry ttl secret = codes "+A" ++ signature_of digest token expiry ttl secret ++ 64 ∷ hex8 expiry

-- a locator with one permission hint, the last; the empty block's has none
unfoldable pub signed : List ℕ → ℕ → ℕ → List ℕ → List ℕ → List ℕ
signed token expiry ttl secret locator =
    unsigned locator ++ (if is_empty_block locator then [] else permission_hint (digest locator) token expiry ttl secret)

-- a space or a newline
abbrev pub ends_token : ℕ → Bool
ends_token c = (c == 32) || (c == 10)

-- a text cut after each space and newline: each piece is a token with what ends it
unfoldable pub cut_tokens : List ℕ → List (List ℕ)
cut_tokens [] = []
cut_tokens (x ∷ xs) = if ends_token x then (x ∷ []) ∷ cut_tokens xs else onto_first x (cut_tokens xs)

abbrev pub token_of : List ℕ → List ℕ
token_of piece = take_while (λ c. not (ends_token c)) piece

-- f of a token, if it is a locator
abbrev pub changed : (List ℕ → List ℕ) → List ℕ → List ℕ
changed f token = if is_locator token then f token else token

-- a text with each of its locators replaced by f of it; all else stays
unfoldable pub with_locators : (List ℕ → List ℕ) → List ℕ → List ℕ
with_locators f text = flat_map (λ piece. changed f (token_of piece) ++ drop (length (token_of piece)) piece) (cut_tokens text)
