-- Lists have no floats, so what is written of them is their text.
use Rattle.std.proofs.Common.{◌≡◌, ℕ, List, [], ◌∷◌, map, Bool, false, ◌||◌, refl, ◌∙◌, ap}
use Rattle.serde_json.specs.Data.{Data}
use Rattle.serde_json.specs.View.{items_of}
use Rattle.serde_json.specs.Written.{has_float, items_have_float}
use Rattle.keep_spec.specs.Config.{Configuration}
use Rattle.keep_event.specs.Lists.{first_mount, source_data, trash_item_data, pull_item_data, lists_data}
use Rattle.keep_event.specs.declared.lists.PullItem.{PullItem}
use Rattle.keep_event.specs.declared.lists.Lists.{Lists}

or-none : (a b : Bool) → a ≡ false → b ≡ false → (a || b) ≡ false
or-none a b e f = ap (λ v. v || b) e ∙ f

none-in : {X : Type 0} (f : X → Data) (xs : List X) → ((x : X) → has_float (f x) ≡ false) → items_have_float (items_of (map f xs)) ≡ false
none-in f [] h = refl
none-in f (x ∷ xs) h = or-none (has_float (f x)) (items_have_float (items_of (map f xs))) (h x) (none-in f xs h)

pull-none : (c : Configuration) (mount : List ℕ) (p : PullItem) → has_float (pull_item_data c mount p) ≡ false
pull-none c mount p = or-none (items_have_float (items_of (map (source_data c) p.sources))) false (none-in (source_data c) p.sources (λ s. refl)) refl

pub no-floats : (c : Configuration) (d : ℕ) (lists : Lists) → has_float (lists_data c d lists) ≡ false
no-floats c d lists =
    or-none (items_have_float (items_of (map (pull_item_data c (first_mount c d)) lists.pull))) (items_have_float (items_of (map (trash_item_data (first_mount c d)) lists.trash)) || false)
    (none-in (pull_item_data c (first_mount c d)) lists.pull (pull-none c (first_mount c d)))
    (or-none (items_have_float (items_of (map (trash_item_data (first_mount c d)) lists.trash))) false (none-in (trash_item_data (first_mount c d)) lists.trash (λ t. refl)) refl)
