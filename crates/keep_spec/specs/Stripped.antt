-- The stripped text of a manifest, and the portable data hash that names its content (Arvados).
use Rattle.std.specs.Prelude.{ℕ, List, length}
use Rattle.md5.specs.Md5.{md5}
use Rattle.keep_spec.specs.Locator.{stripped}
use Rattle.keep_spec.specs.SignedText.{with_locators}
use Rattle.keep_spec.specs.declared.portable.Portable.{Portable}

-- the text with each locator cut after its size; all else stays
abbrev pub stripped_text : List ℕ → List ℕ
stripped_text text = with_locators stripped text

-- the MD5 of the stripped text, and how many bytes it has
abbrev pub portable_hash : List ℕ → Portable
portable_hash text = record { digest = md5 (stripped_text text); size = length (stripped_text text) }
