-- Where a list is cut at a name.
use Rattle.std.specs.Prelude.{◌≡◌, ℕ, ◌+◌, ◌<◌, ◌≤◌, List, length, take, drop, slice_get, None, Result, Ok, Err}
use Rattle.keep_event.specs.Store.{cut}
use Rattle.keep_event.specs.declared.names.Name.{Name}

-- Ok: at the i-th entry, which has the name; Err: in the gap before the i-th entry, and nothing has the name
abbrev pub IsCutAt : {X : Type 0} → Name → List (Name × X) → Result ℕ ℕ → Type 0
IsCutAt n es (Ok i) = (i < length es) × (cut n es ≡ record { front = take i es; at = slice_get es i; back = drop (i + 1) es })
IsCutAt n es (Err i) = (i ≤ length es) × (cut n es ≡ record { front = take i es; at = None; back = drop i es })
