-- What is decided of one digest, and the items that follow for a device.
use Rattle.std.specs.Prelude.{◌≡◌, ℕ, ◌&&◌, nat_lt, not, List, [], ◌∷◌, take, length, slice_index_or, Bool, Option, None, Some, if◌then◌else◌}
use Rattle.std.specs.Option.{option_map_or}
use Rattle.keep_event.specs.declared.lists.Entry.{Entry}
use Rattle.keep_event.specs.declared.lists.TrashItem.{TrashItem}
use Rattle.keep_event.specs.declared.lists.PullItem.{PullItem}
use Rattle.keep_event.specs.declared.lists.Lists.{Lists}
use Rattle.keep_spec.specs.Config.{Configuration}
use Rattle.keep_plan.specs.Drafted.{with_items}
use Rattle.keep_event.specs.Plan.{Holding, holders, kept, targets, size_given, is_member, is_writable}
use Rattle.keep_plan.specs.declared.decision.Decision.{Decision}

-- the holders, where a copy is wanted: elsewhere nobody asks for them
abbrev pub sources_of : Holding → List ℕ
sources_of h = if nat_lt 0 h.want then holders h else []

abbrev pub first_size : Holding → List ℕ → ℕ
first_size h [] = 0
first_size h (first ∷ others) = size_given h first

pub record Decides (h : Holding) (x : Decision) : Type 0 where
  pub digest : x.digest ≡ h.digest
  pub want : x.want ≡ h.want
  pub sources : x.sources.items ≡ sources_of h
  pub targets : x.targets.items ≡ targets h
  pub size : x.size ≡ first_size h (sources_of h)

-- an entry that isn't kept, is writable and old enough
abbrev pub trashed : List ℕ → List ℕ → Bool → ℕ → ℕ → Option Entry → Option TrashItem
trashed digest kept writable threshold d None = None
trashed digest kept writable threshold d (Some e) =
    if not (is_member d kept) && writable && nat_lt e.mtime threshold
    then Some (record { digest = digest; size = e.size; mtime = e.mtime }) else None

-- a target without an entry, where there is a source
abbrev pub pulled_from : List ℕ → List ℕ → ℕ → List ℕ → ℕ → Option PullItem
pulled_from digest targets size sources d =
    if nat_lt 0 (length sources) && is_member d targets
    then Some (record { digest = digest; size = size; sources = sources }) else None

abbrev pub pulled : List ℕ → List ℕ → ℕ → List ℕ → ℕ → Option Entry → Option PullItem
pulled digest targets size sources d None = pulled_from digest targets size sources d
pulled digest targets size sources d (Some e) = None

abbrev pub entry_or : List (Option Entry) → ℕ → Option Entry
entry_or entries d = slice_index_or entries d None

-- the lists of a device with what a decision gives it
abbrev pub with_decided : Decision → Configuration → ℕ → List (Option Entry) → ℕ → Lists → Lists
with_decided x c threshold entries d l =
    with_items (trashed x.digest (take x.want x.sources.items) (is_writable c d) threshold d (entry_or entries d))
    (pulled x.digest x.targets.items x.size x.sources.items d (entry_or entries d)) l

abbrev pub size_of_first : List (Option Entry) → List ℕ → ℕ
size_of_first entries [] = 0
size_of_first entries (first ∷ others) = option_map_or (λ e. e.size) (entry_or entries first) 0
