-- The latest reading, and clocks that agree up to the skew.
use Rattle.std.specs.Prelude.{ℕ, ◌+◌, ◌≤◌, max, [], ◌∷◌, ⊤}
use Rattle.std.specs.List.{AllByRecursion}
use Rattle.keep_spec.specs.Config.{Configuration}
use Rattle.keep_spec.specs.Times.{nanos}
use Rattle.keep_safety.specs.Past.{Past}

-- the skew, in nanoseconds
abbrev pub skew : Configuration → ℕ
skew c = nanos c.skew

-- the greatest reading of what happened
abbrev pub now : Past → ℕ
now [] = 0
now (e ∷ past) = max e.reading (now past)

-- each reading is at most each later one and the skew
abbrev pub IsSteady : Configuration → Past → Type 0
IsSteady c [] = ⊤
IsSteady c (e ∷ past) = AllByRecursion (λ x. x.reading ≤ e.reading + skew c) past × IsSteady c past
