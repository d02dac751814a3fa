-- Which escape a written name begins with.
use Rattle.std.specs.Prelude.{ℕ, Bool, false, List, [], ◌∷◌}
use Rattle.keep_spec.specs.Names.{is_escape, is_double}

abbrev pub begins_escape : List ℕ → Bool
begins_escape [] = false
begins_escape (x ∷ []) = false
begins_escape (x ∷ a ∷ []) = false
begins_escape (x ∷ a ∷ b ∷ []) = false
begins_escape (x ∷ a ∷ b ∷ c ∷ rest) = is_escape x a b c

abbrev pub begins_double : List ℕ → Bool
begins_double [] = false
begins_double (x ∷ []) = false
begins_double (x ∷ a ∷ rest) = is_double x a
