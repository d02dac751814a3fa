use Rattle.std.proofs.Common.{◌≡◌, ◌∷◌, ◌++◌, subst, rules}
use Rattle.keep_event.specs.Store.{IsAscending}
use Rattle.keep_store.proofs.Order.{tail-ascends}
use Rattle.keep_store.proofs.name_tree.NameTree.+pop_first.Goals as goal

pub balanced-requires : goal.balanced-requires
balanced-requires t c =
    let is : c.in-Fork.below.value ≡ c.in-Some.first ∷ c.pop_first.new.self = search rules in
    tail-ascends c.in-Some.first (c.pop_first.new.self ++ c.in-Fork.item ∷ c.in-Fork.above.value) (subst (λ v. IsAscending (v ++ c.in-Fork.item ∷ c.in-Fork.above.value)) is c.in-Fork.ensures.ascending)

pub of-requires : goal.of-requires
of-requires t c =
    let is : c.in-Fork.below.value ≡ c.in-Some.first ∷ c.pop_first.new.self = search rules in
    rw c.balanced.ensures (tail-ascends c.in-Some.first (c.pop_first.new.self ++ c.in-Fork.item ∷ c.in-Fork.above.value) (subst (λ v. IsAscending (v ++ c.in-Fork.item ∷ c.in-Fork.above.value)) is c.in-Fork.ensures.ascending))
