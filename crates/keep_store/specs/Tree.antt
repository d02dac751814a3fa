-- A tree of names, seen as its entries in their order.
use Rattle.std.specs.Prelude.{List, [], ◌∷◌, ◌++◌, Option, None, Some}
use Rattle.std.specs.declared.cmp.Ordering.{Ordering}
use Rattle.std.specs.declared.cmp.Ordering.TheVariants.{Less}
use Rattle.keep_event.specs.Store.{name_cmp}
use Rattle.keep_event.specs.declared.names.Name.{Name}
use Rattle.keep_event.specs.declared.names.Stored.{Stored}
use Rattle.keep_store.specs.declared.name_tree.Node.{Node}
use Rattle.keep_store.specs.declared.name_tree.Node.TheVariants.{Leaf, Fork}

-- those below, the node's own, those above
abbrev pub entries : Node → List (Name × Stored)
entries Leaf = []
entries (Fork below item height above) = below.value ++ item ∷ above.value

-- how a name, or the place before all, stands against another
abbrev pub order_after : Option Name → Name → Ordering
order_after None m = Less
order_after (Some n) m = name_cmp n m
