-- Which events were answered by a fault of a store, and how the stores' counts rose by them. For private clauses.
use Rattle.std.specs.Prelude.{◌≡◌, ℕ, ◌+◌, List, [], ◌∷◌, ⊤}
use Rattle.keep_history.specs.Effects.{Made, is_failed}
use Rattle.keep_history.specs.Ended.{faults_on, RisesBy}
use Rattle.keep_history.specs.Tasks.{is_fault}

-- a list of numbers has just those of these events that a store failed at
abbrev pub Agrees : List ℕ → List Made → Type 0
Agrees failed [] = ⊤
Agrees failed (m ∷ ms) = (is_failed failed m.event.tick ≡ is_fault m.event.answer) × Agrees failed ms

-- events are numbered from one on
abbrev pub AreNumbered : ℕ → List Made → Type 0
AreNumbered n [] = ⊤
AreNumbered n (m ∷ ms) = (m.event.tick ≡ n) × AreNumbered (n + 1) ms

-- the count of each device's store rose by the faults on it at least
abbrev pub Rise : List Made → (ℕ → ℕ) → (ℕ → ℕ) → Type 0
Rise made before now = (device : ℕ) → RisesBy (faults_on device made) (before device) (now device)
