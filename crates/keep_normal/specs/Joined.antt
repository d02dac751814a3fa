-- Neighbours that touch, joined into one.
use Rattle.std.specs.Prelude.{Bool, List, [], ◌∷◌, if◌then◌else◌}

-- x before others of which no two neighbours touch
abbrev pub joined_before : {X : Type 0} → (X → X → Bool) → (X → X → X) → X → List X → List X
joined_before touches both x [] = x ∷ []
joined_before touches both x (y ∷ ys) = if touches x y then both x y ∷ ys else x ∷ y ∷ ys

-- `touches` says which two neighbours touch, and `both` is what the two are in one
abbrev pub joined : {X : Type 0} → (X → X → Bool) → (X → X → X) → List X → List X
joined touches both [] = []
joined touches both (x ∷ xs) = joined_before touches both x (joined touches both xs)

-- a list with one more at its end, joined to the last one where the two touch
abbrev pub joined_after : {X : Type 0} → (X → X → Bool) → (X → X → X) → List X → X → List X
joined_after touches both [] y = y ∷ []
joined_after touches both (x ∷ []) y = if touches x y then both x y ∷ [] else x ∷ y ∷ []
joined_after touches both (x ∷ z ∷ zs) y = x ∷ joined_after touches both (z ∷ zs) y
