-- The lines of a text, and the tokens of the rest of a line.
use Rattle.std.specs.Prelude.{ℕ, ◌==◌, List, [], Option, None, Some}
use Rattle.std.specs.List.{slice_split}
use denote.Ref.{Bor}

abbrev pub tokens_of : Option (Bor (List ℕ)) → List (List ℕ)
tokens_of None = []
tokens_of (Some rest) = slice_split (λ b. b == 32) rest.now

abbrev pub lines_of : List ℕ → List (List ℕ)
lines_of text = slice_split (λ b. b == 10) text
