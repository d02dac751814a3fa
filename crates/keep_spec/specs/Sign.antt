-- Signatures of locators. HMAC is that of RFC 2104 over SHA-1; the text that is signed is this project's rule.
use Rattle.std.specs.Prelude.{ℕ, ◌-◌, ◌==◌, nat_lt, List, [], ◌∷◌, ◌++◌, length, map, replicate, bit_xor, if◌then◌else◌, Option, Some, None, Result, Ok, Err}
use Rattle.std.specs.Int.{w32, to_be_bytes}
use Rattle.std.specs.Str.{bytes_eq}
use Rattle.sha1.specs.Sha1.{sha1}
use Rattle.hex.specs.Hex.{encode_lower}
use Rattle.keep_spec.specs.Locator.{digest, permission}
use Rattle.keep_spec.specs.Times.{nanos}
use Rattle.keep_spec.specs.declared.permission.Permission.{Permission}
use Rattle.keep_spec.specs.declared.unverified.Verified.{Verified}
use Rattle.keep_spec.specs.declared.unverified.Unverified.{Unverified}
use Rattle.keep_spec.specs.declared.unverified.Unverified.TheVariants.{Missing, Expired, Invalid}

-- a key of at most 64 bytes as one block, each byte changed by a pad
abbrev pub padded_key : List ℕ → ℕ → List ℕ
padded_key key pad = map (λ b. bit_xor b pad) (key ++ replicate (64 - length key) 0)

-- a longer key is hashed first
abbrev pub short_key : List ℕ → List ℕ
short_key key = if nat_lt 64 (length key) then sha1 key else key

-- HMAC under a key of any length
unfoldable pub hmac : List ℕ → List ℕ → List ℕ
hmac key text = sha1 (padded_key (short_key key) 0x5c ++ sha1 (padded_key (short_key key) 0x36 ++ text))

-- the two digits of each byte, most significant first: 8 digits of a number below 2^32
unfoldable pub hex8 : ℕ → List ℕ
hex8 n = encode_lower (to_be_bytes w32 n)

-- a number in lower-case hexadecimal without leading zeros
abbrev pub without_zeros : List ℕ → List ℕ
without_zeros [] = []
without_zeros (x ∷ []) = x ∷ []
without_zeros (x ∷ y ∷ rest) = if x == 48 then without_zeros (y ∷ rest) else x ∷ y ∷ rest

-- `digest@token@expiry@ttl`, the expiry and the ttl in seconds
unfoldable pub signed_text : List ℕ → List ℕ → ℕ → ℕ → List ℕ
signed_text digits token expiry ttl =
    digits ++ 64 ∷ token ++ 64 ∷ hex8 expiry ++ 64 ∷ without_zeros (hex8 ttl)

-- the 40 digits that sign a digest for a token
unfoldable pub signature_of : List ℕ → List ℕ → ℕ → ℕ → List ℕ → List ℕ
signature_of digest token expiry ttl secret = encode_lower (hmac secret (signed_text (encode_lower digest) token expiry ttl))

-- verifies a permission for a digest at a reading: first that there is a single hint, then its expiry, then its signature
abbrev pub judged : Option Permission → List ℕ → List ℕ → ℕ → List ℕ → ℕ → Result Verified Unverified
judged None digest token ttl secret reading = Err Missing
judged (Some p) digest token ttl secret reading =
    if nat_lt (nanos p.expiry) reading then Err (Expired p.expiry)
    else if bytes_eq p.signature (signature_of digest token p.expiry ttl secret) then Ok (record { digest = digest; expiry = p.expiry })
    else Err Invalid

-- verifies the permission hint of a locator's text at a reading
abbrev pub verdict : List ℕ → List ℕ → ℕ → List ℕ → ℕ → Result Verified Unverified
verdict text token ttl secret reading = judged (permission text) (digest text) token ttl secret reading
