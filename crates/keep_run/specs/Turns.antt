-- Events, and what is asked after them. For private clauses and invariants.
use Rattle.std.specs.Prelude.{List, [], ◌∷◌}
use Rattle.keep_history.specs.Effects.{Made, Asked, after_made}

-- these events, and then the rest
abbrev pub after_all : List Made → Asked → Asked
after_all [] rest = rest
after_all (m ∷ ms) rest = after_made m (after_all ms rest)
