-- Which byte may follow which in the hints of a locator.
use Rattle.std.specs.Prelude.{ℕ, ◌==◌, Option, Some, None, if◌then◌else◌}
use Rattle.std.specs.Char.{is_ascii_uppercase}
use Rattle.keep_spec.specs.Locator.{is_hint_character}
use Rattle.keep_locator.specs.declared.hint_state.HintState.{HintState}
use Rattle.keep_locator.specs.declared.hint_state.HintState.TheVariants.{AfterSize, AfterPlus, InHint}

-- a plus after the size, an upper-case letter after a plus, and a plus or a hint character after these
abbrev pub state_after : HintState → ℕ → Option HintState
state_after AfterSize c = if c == 43 then Some AfterPlus else None
state_after AfterPlus c = if is_ascii_uppercase c then Some InHint else None
state_after InHint c = if c == 43 then Some AfterPlus else (if is_hint_character c then Some InHint else None)
