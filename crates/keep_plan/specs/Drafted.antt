-- The lists of all devices while they grow.
use Rattle.std.specs.Prelude.{ℕ, ◌+◌, List, [], ◌∷◌, ◌++◌, Option, option_to_list}
use Rattle.keep_event.specs.declared.lists.Lists.{Lists}
use Rattle.keep_event.specs.declared.lists.TrashItem.{TrashItem}
use Rattle.keep_event.specs.declared.lists.PullItem.{PullItem}
use Rattle.keep_event.specs.Plan.{Holding, trash_item, pull_item}

abbrev pub with_items : Option TrashItem → Option PullItem → Lists → Lists
with_items t p l = record { trash = l.trash ++ option_to_list t; pull = l.pull ++ option_to_list p }

-- with the items of a digest
abbrev pub with_digest : ℕ → Holding → ℕ → Lists → Lists
with_digest threshold h d l = with_items (trash_item h threshold d) (pull_item h d) l

-- each by its place, from k on
abbrev pub each_from : {X : Type 0} → ℕ → (ℕ → X → X) → List X → List X
each_from k f [] = []
each_from k f (x ∷ xs) = f k x ∷ each_from (k + 1) f xs
