-- The answers of the readers: what a text says, or memory was refused.
use Rattle.std.specs.Prelude.{◌≡◌, ℕ, List, [], ◌∷◌, Vec, Option, Some, None, Result, Ok, Err, ⊤}
use Rattle.std.specs.declared.alloc.Global.{Global}
use Rattle.keep_event.specs.Index.{Fault, bad, cut_off, first_after, index_of_pieces}
use Rattle.keep_event.specs.declared.lists.Entry.{Entry}
use Rattle.keep_event.specs.declared.lists.Lists.{Lists}
use Rattle.keep_lists.specs.declared.locator.BareLocator.{BareLocator}
use Rattle.keep_lists.specs.declared.error.IndexError.{IndexError}
use Rattle.keep_lists.specs.declared.error.IndexError.TheVariants as index
use Rattle.keep_lists.specs.declared.error.ListsError.{ListsError}
use Rattle.keep_lists.specs.declared.error.ListsError.TheVariants as lists

abbrev pub IsIndexRead : Result (List Entry) Fault → Result (Vec Entry Global) IndexError → Type 0
IsIndexRead said (Ok v) = said ≡ Ok v.items
IsIndexRead said (Err (index.BadIndex at)) = said ≡ Err (bad at)
IsIndexRead said (Err index.CutIndex) = said ≡ Err cut_off
IsIndexRead said (Err index.NoMemory) = ⊤

abbrev pub AreListsRead : Result Lists ℕ → Result Lists ListsError → Type 0
AreListsRead said (Ok x) = said ≡ Ok x
AreListsRead said (Err (lists.BadList item)) = said ≡ Err item
AreListsRead said (Err lists.NoMemory) = ⊤

abbrev pub AreItemsRead : {X : Type 0} → Result (List X) ℕ → Result (Vec X Global) ListsError → Type 0
AreItemsRead said (Ok v) = said ≡ Ok v.items
AreItemsRead said (Err (lists.BadList item)) = said ≡ Err item
AreItemsRead said (Err lists.NoMemory) = ⊤

-- what is said of a text whose empty line was read: what follows it begins at an offset
abbrev pub ended_at : ℕ → List (List ℕ) → Result (List Entry) Fault
ended_at at pieces = index_of_pieces ((10 ∷ []) ∷ pieces) (first_after at pieces)

abbrev pub IsEndRead : Result (List Entry) Fault → Result ⊤ IndexError → Type 0
IsEndRead said (Ok x) = said ≡ Ok []
IsEndRead said (Err (index.BadIndex at)) = said ≡ Err (bad at)
IsEndRead said (Err index.CutIndex) = said ≡ Err cut_off
IsEndRead said (Err index.NoMemory) = ⊥

-- ---- a digest and a size
abbrev pub both : Option (List ℕ) → Option ℕ → Option (List ℕ × ℕ)
both (Some digest) (Some size) = Some (digest, size)
both (Some digest) None = None
both None size = None

abbrev pub shown_locator : BareLocator → List ℕ × ℕ
shown_locator l = (l.digest, l.size)
