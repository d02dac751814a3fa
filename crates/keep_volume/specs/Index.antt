-- What a device remembers of names, and how far it has looked through the trashed copies.
use Rattle.std.specs.Prelude.{◌≡◌, ℕ, min, Bool, true, false, List, sum_by, map, Option, Some, None, option_map, unwrap_or, ◌⊎◌, IfSome}
use Rattle.std.specs.Ordering.{is_lt}
use Rattle.std.specs.List.{AllByRecursion}
use Rattle.keep_event.specs.Store.{find, name_cmp, sizes}
use Rattle.keep_event.specs.Device.{is_due_at}
use Rattle.keep_event.specs.declared.names.Name.{Name}
use Rattle.keep_event.specs.declared.names.Metadata.{Metadata}
use Rattle.keep_event.specs.declared.names.Stored.{Stored}
use Rattle.keep_event.specs.declared.names.Held.{Held}
use Rattle.keep_event.specs.declared.lists.Entry.{Entry}

-- what is remembered is what the store tells
abbrev pub Remembers : Option (List (Name × Stored)) → List (Name × Metadata) → Type 0
Remembers held index = IfSome held (λ es. index ≡ sizes es)

-- the bytes of all names
abbrev pub total : List (Name × Metadata) → ℕ
total index = sum_by (λ e. e.1.size) index

-- the bytes that a name takes
abbrev pub size_at : Name → List (Name × Metadata) → ℕ
size_at n index = unwrap_or (option_map (λ (s : Metadata). s.size) (find n index)) 0

abbrev pub sized_held : Held → Name × Metadata
sized_held h = (h.name, record { mtime = h.mtime; size = h.size })

abbrev pub sized_entry : Name × Metadata → Entry
sized_entry e = record { digest = e.0.digest; size = e.1.size; mtime = e.1.mtime }

-- whether the deadline of a name has passed
abbrev pub due : ℕ → Name × Metadata → Bool
due reading e = is_due_at reading e.0.deadline

-- whether a name lies ahead of those that were looked at
abbrev pub is_ahead : Option Name → Name → Bool
is_ahead None n = true
is_ahead (Some p) n = is_lt (name_cmp p n)

abbrev pub Waits : Option Name → ℕ → Name → Type 0
Waits up_to earliest n = (is_ahead up_to n ≡ true) ⊎ (is_due_at earliest n.deadline ≡ false)

-- no copy up to a name has a deadline below the earliest
abbrev pub ArePassed : Option Name → ℕ → List (Name × Metadata) → Type 0
ArePassed up_to earliest index = AllByRecursion (Waits up_to earliest) (map (λ e. e.0) index)

abbrev pub earlier_of : ℕ → Option ℕ → ℕ
earlier_of earliest None = earliest
earlier_of earliest (Some deadline) = min earliest deadline
