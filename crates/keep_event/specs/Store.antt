-- What a store holds: names with what stands under each, ascending by name and each name once; and what its calls make of that list. This is the project's own rule.
use Rattle.std.specs.Prelude.{◌≡◌, ℕ, List, [], ◌∷◌, ◌++◌, length, Option, None, Some, option_map, map}
use Rattle.std.specs.declared.cmp.Ordering.{Ordering}
use Rattle.std.specs.Ordering.{nat_cmp, ordering_then, match_ordering}
use Rattle.std.specs.Option.{option_cmp}
use Rattle.std.specs.Cmp.Lexicographic.{slice_cmp}
use Rattle.std.specs.List.Sorted.{IsStrictlySortedBy}
use Rattle.keep_event.specs.declared.names.Name.{Name}
use Rattle.keep_event.specs.declared.names.Stored.{Stored}
use Rattle.keep_event.specs.declared.names.Metadata.{Metadata}
use Rattle.keep_event.specs.declared.names.Held.{Held}

-- by digest, then no deadline first, then by deadline
abbrev pub name_cmp : Name → Name → Ordering
name_cmp a b = ordering_then (slice_cmp nat_cmp a.digest b.digest) (option_cmp nat_cmp a.deadline b.deadline)

-- names in their order, each once
abbrev pub AreAscending : List Name → Type 0
AreAscending ns = IsStrictlySortedBy name_cmp ns

abbrev pub IsAscending : {X : Type 0} → List (Name × X) → Type 0
IsAscending es = AreAscending (map (λ e. e.0) es)

-- an ascending list, cut at a name: what is below, what has the name, what is above
pub record Cut (X : Type 0) : Type 0 where
  pub front : List (Name × X)
  pub at : Option (Name × X)
  pub back : List (Name × X)

abbrev pub onto : {X : Type 0} → List (Name × X) → Cut X → Cut X
onto es c = record { front = es ++ c.front; at = c.at; back = c.back }

abbrev pub cut : {X : Type 0} → Name → List (Name × X) → Cut X
cut n [] = record { front = []; at = None; back = [] }
cut n (e ∷ es) = match_ordering (name_cmp n e.0)
    (record { front = []; at = None; back = e ∷ es })
    (record { front = []; at = Some e; back = es })
    (onto (e ∷ []) (cut n es))

abbrev pub find : {X : Type 0} → Name → List (Name × X) → Option X
find n es = option_map (λ e. e.1) (cut n es).at

abbrev pub put : {X : Type 0} → Name → X → List (Name × X) → List (Name × X)
put n x es = (cut n es).front ++ (n, x) ∷ (cut n es).back

abbrev pub without : {X : Type 0} → Name → List (Name × X) → List (Name × X)
without n es = (cut n es).front ++ (cut n es).back

abbrev pub stored : ℕ → List ℕ → Stored
stored mtime bytes = record { mtime = mtime; bytes = bytes }

-- the same bytes with another time
abbrev pub with_time : ℕ → Stored → Stored
with_time mtime s = record { mtime = mtime; bytes = s.bytes }

-- what stands under a name, through f; all stays where the store doesn't hold the name
abbrev pub change : {X : Type 0} → (X → X) → Name → List (Name × X) → Option X → List (Name × X)
change f n es None = es
change f n es (Some x) = put n (f x) es

-- what stands under a name, through f, goes under another name and replaces what stood there
abbrev pub move : {X : Type 0} → (X → X) → Name → Name → List (Name × X) → Option X → List (Name × X)
move f from to es None = es
move f from to es (Some x) = put to (f x) (without from es)

abbrev pub touch : Name → ℕ → List (Name × Stored) → Option Stored → List (Name × Stored)
touch n mtime es o = change (with_time mtime) n es o

abbrev pub rename : Name → Name → ℕ → List (Name × Stored) → Option Stored → List (Name × Stored)
rename from to mtime es o = move (with_time mtime) from to es o

-- the time and the size of what stands under a name
abbrev pub size_of : Stored → Metadata
size_of s = record { mtime = s.mtime; size = length s.bytes }

abbrev pub held_of : Name × Stored → Held
held_of e = record { name = e.0; mtime = e.1.mtime; size = length e.1.bytes }

-- the entries above a name, or all of them
abbrev pub above : {X : Type 0} → Option Name → List (Name × X) → List (Name × X)
above None es = es
above (Some n) es = (cut n es).back

-- a meaning that is told changes by f, or stays; one that isn't told isn't told afterwards
abbrev pub Becomes : {A : Type 0} → Option A → Option A → (A → A) → Type 0
Becomes old new f = new ≡ option_map f old

abbrev pub Stays : {A : Type 0} → Option A → Option A → Type 0
Stays old new = new ≡ old

abbrev pub with_mtime : ℕ → Metadata → Metadata
with_mtime mtime s = record { mtime = mtime; size = s.size }

-- an entry as a device remembers it: the name with its time and size
abbrev pub sized : Name × Stored → Name × Metadata
sized e = (e.0, size_of e.1)

abbrev pub sizes : List (Name × Stored) → List (Name × Metadata)
sizes es = map sized es
