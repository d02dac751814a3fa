-- A portable data hash in text: a digest, `+`, and a length in 1 to 19 decimal digits on reading, and in as many as it has on writing.
use Rattle.std.specs.Prelude.{ℕ, Bool, ◌==◌, ◌&&◌, List, ◌∷◌, ◌++◌, take, drop, slice_index, decimal, Option, Some, None, if◌then◌else◌}
use Rattle.hex.specs.Hex.{encode_lower}
use Rattle.keep_spec.specs.Digest.{is_digest, bytes_of_digits}
use Rattle.keep_spec.specs.Locator.{is_number, number}
use Rattle.keep_spec.specs.declared.portable.Portable.{Portable}

abbrev pub is_portable : List ℕ → Bool
is_portable text = is_digest (take 32 text) && (slice_index text 32 == 43) && is_number (drop 33 text)

unfoldable pub portable_of : List ℕ → Option Portable
portable_of text =
    if is_portable text then Some (record { digest = bytes_of_digits (take 32 text); size = number (drop 33 text) }) else None

abbrev pub portable_text : Portable → List ℕ
portable_text p = encode_lower p.digest ++ 43 ∷ decimal p.size
