-- What a clock tells of its readings.
use Rattle.std.specs.Prelude.{◌≡◌, ℕ, ◌+◌, Option, Some, None, Result, Ok, Err}

-- what a clock returns at a tick after that many more calls that answer
abbrev pub Readings : Type 0
Readings = ℕ → ℕ → ℕ

-- a call at the tick returned this reading
pub record Advances (old new : Readings) (tick reading : ℕ) : Type 0 where
  pub given : reading ≡ old tick 0
  pub later : (t k : ℕ) → new t k ≡ old t (k + 1)

-- a clock that tells its readings goes on telling them, and one that doesn't doesn't begin to
abbrev pub AdvancesIf : Option Readings → Option Readings → ℕ → ℕ → Type 0
AdvancesIf (Some old) (Some new) tick reading = Advances old new tick reading
AdvancesIf (Some old) None tick reading = ⊥
AdvancesIf None new tick reading = new ≡ None

-- a failed call leaves the readings as they were
abbrev pub StaysIf : Option Readings → Option Readings → Type 0
StaysIf (Some old) (Some new) = (t k : ℕ) → new t k ≡ old t k
StaysIf (Some old) None = ⊥
StaysIf None new = new ≡ None

-- what a call at a tick makes of the readings
abbrev pub IsRead : {E : Type 0} → Option Readings → Option Readings → ℕ → Result ℕ E → Type 0
IsRead old new tick (Ok reading) = AdvancesIf old new tick reading
IsRead old new tick (Err fault) = StaysIf old new
