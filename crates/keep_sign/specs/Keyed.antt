-- The state of an HMAC: its key and its text so far (RFC 2104).
use Rattle.std.specs.Prelude.{List, ℕ, ◌++◌}
use Rattle.sha1.specs.Sha1.{Holds}
use Rattle.keep_spec.specs.Sign.{padded_key, short_key}
use Rattle.keep_sign.specs.declared.mac.MacState.{MacState}

-- the inner hash has taken in the key's inner pad and the text, the outer hash the outer pad; the key has at most 64 bytes
pub record HasPads (key text : List ℕ) (mac : MacState) : Type 0 where
  pub inner : Holds mac.inner (padded_key key 0x36 ++ text)
  pub outer : Holds mac.outer (padded_key key 0x5c)

abbrev pub IsKeyed : List ℕ → List ℕ → MacState → Type 0
IsKeyed key text mac = HasPads (short_key key) text mac
