-- The lines of an input, with a bound on each line and on the whole input.
use Rattle.std.specs.Prelude.{ℕ, ◌+◌, ◌==◌, ◌&&◌, nat_lt, nat_le, List, [], ◌∷◌, if◌then◌else◌}
use Rattle.std.specs.List.{onto_first}

-- the input cut after each newline: each piece but the last ends with a newline, and none has another
unfoldable pub cut : List ℕ → List (List ℕ)
cut [] = []
cut (x ∷ xs) = if x == 10 then (x ∷ []) ∷ cut xs else onto_first x (cut xs)

-- how many newlines there are
unfoldable pub newlines : List ℕ → ℕ
newlines [] = 0
newlines (x ∷ xs) = if x == 10 then newlines xs + 1 else newlines xs

-- a piece without its newline
unfoldable pub text_of : List ℕ → List ℕ
text_of [] = []
text_of (x ∷ xs) = if x == 10 then [] else x ∷ text_of xs

pub data Verdict : Type 0 where
  fits : Verdict
  line_too_long : Verdict
  input_too_long : Verdict

-- of a piece of `piece` bytes, `text` without its newline, after `before` bytes of the input: the error whose byte comes first, and the line's at a tie
abbrev pub verdict_of : ℕ → ℕ → ℕ → ℕ → ℕ → Verdict
verdict_of line_max input_max before text piece =
    if nat_lt line_max text && nat_le (before + line_max) input_max then line_too_long
    else (if nat_lt input_max (before + piece) then input_too_long else fits)
