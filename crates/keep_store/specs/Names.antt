-- Names in a list, and names that are lent.
use Rattle.std.specs.Prelude.{◌≡◌, ℕ, ◌≤◌, Bool, true, false, List, Option, is_some, option_copied}
use denote.Ref.{Bor}
use Rattle.keep_spec.specs.Causes.{Rose}
use Rattle.keep_event.specs.Store.{find}
use Rattle.keep_event.specs.declared.names.Name.{Name}

-- whether a name is in the list
abbrev pub has : {X : Type 0} → Name → List (Name × X) → Bool
has n es = is_some (find n es)

-- the name that is lent, if any
abbrev pub named : Option (Bor Name) → Option Name
named o = option_copied o

-- a call that is to fail has its cause in the count
abbrev pub IsCounted : ℕ → ℕ → Bool → Type 0
IsCounted before now true = (before ≤ now) × Rose before now
IsCounted before now false = now ≡ before
