-- Each side of a fork has fewer entries than the fork.
use Rattle.std.specs.Prelude.{◌≤◌, max, ◌∷◌, length}
use Rattle.std.proofs.Common.{arith, length-append}
use Rattle.keep_store.specs.declared.name_tree.Node.{Node}
use Rattle.keep_store.specs.declared.name_tree.Node.TheVariants.{Leaf, Fork}
use Rattle.keep_store.specs.declared.name_tree.NameTree.TheDeep.{deep-Node}
use Rattle.keep_store.specs.Tree.{entries}

-- no side is deeper than the node has entries
pub sides-shorter : (n : Node) → max (deep-Node n) 0 ≤ length (entries n)
sides-shorter Leaf = omega arith
sides-shorter (Fork below item height above) = omega (arith, length-append below.value (item ∷ above.value))
