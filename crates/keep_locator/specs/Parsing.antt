-- What parsing a locator returns (the Arvados locator; that a refusal says how far the text goes is this project's own rule).
use Rattle.std.specs.Prelude.{◌≡◌, ℕ, ◌+◌, true, List, length, Result, Ok, Err, if◌then◌else◌}
use Rattle.keep_spec.specs.Locator.{is_locator, size, size_digits, locator_prefix_len}
use Rattle.keep_locator.specs.declared.locator.BadLocator.{BadLocator}

-- the text as a locator, or the length of its longest prefix that begins some locator
abbrev pub locator_of : List ℕ → Result (List ℕ) BadLocator
locator_of text = if is_locator text then Ok text else Err (record { at = locator_prefix_len text })

-- what a parsed locator keeps of its text
pub record IsParsed (text : List ℕ) (bytes size_end : ℕ) : Type 0 where
  pub whole : is_locator text ≡ true
  pub size : bytes ≡ size text
  pub ends : size_end ≡ 33 + length (size_digits text)
