-- Where a name stands in an ascending list, or would go.
use Rattle.std.specs.Prelude.{◌≡◌, ℕ, ◌+◌, ◌<◌, ◌≤◌, List, length, take, drop, slice_get, None, Result, Ok, Err}
use Rattle.keep_event.specs.Store.{Cut}
use Rattle.keep_event.specs.declared.names.Name.{Name}

-- Ok: at this place; Err: at this place it would be put in
abbrev pub IsPlace : {X : Type 0} → List (Name × X) → Cut X → Result ℕ ℕ → Type 0
IsPlace es c (Ok i) = (i < length es) × (c.front ≡ take i es) × (c.at ≡ slice_get es i) × (c.back ≡ drop (i + 1) es)
IsPlace es c (Err i) = (i ≤ length es) × (c.front ≡ take i es) × (c.at ≡ None) × (c.back ≡ drop i es)
