use Rattle.std.proofs.Common.{rules, ◌≡◌, ◌∷◌, ◌++◌, sym, subst}
use Rattle.keep_event.specs.Store.{IsAscending}
use Rattle.keep_store.proofs.Trees.{parted-low, parted-high, last-two}
use Rattle.keep_store.proofs.name_tree.rotated_twice.Goals as goal

pub of-requires : goal.of-requires
of-requires c =
    let is : c.args.middle.value ≡ c.in-Fork.left.value ++ c.in-Fork.root ∷ c.in-Fork.right.value = search rules in
    subst IsAscending (sym c.fork.ensures) (parted-low _ _ c.args.middle.value _ _ _ _ _ is c.requires)

pub of-requires-in-Fork : goal.of-requires-in-Fork
of-requires-in-Fork c =
    let is : c.args.middle.value ≡ c.in-Fork.left.value ++ c.in-Fork.root ∷ c.in-Fork.right.value = search rules in
    subst IsAscending (sym c.fork-in-Fork.ensures) (parted-high _ _ c.args.middle.value _ _ _ _ _ is c.requires)

pub of-requires-in-Leaf : goal.of-requires-in-Leaf
of-requires-in-Leaf c =
    let is : c.args.middle.value ≡ c.take.new.self = search rules in
    subst IsAscending (sym c.fork-in-Leaf.ensures) (subst (λ v. IsAscending (v ++ c.args.high ∷ c.args.last.value)) is (last-two _ _ c.args.middle.value _ _ c.requires))
