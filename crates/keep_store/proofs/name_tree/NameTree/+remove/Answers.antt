use Rattle.std.proofs.Common.{◌≡◌, sym, ap, rules}
use Rattle.std.specs.declared.cmp.Ordering.TheVariants.{Less, Equal, Greater}
use Rattle.keep_event.specs.Store.{without, name_cmp}
use Rattle.keep_store.proofs.Trees.{at_low, at_high, cut-own, without-low, without-own, without-high, without-low-ascends, without-own-ascends, without-high-ascends}
use Rattle.keep_store.proofs.name_tree.NameTree.+remove.Goals as goal

pub rebalanced-requires : goal.rebalanced-requires
rebalanced-requires t c =
    let less : name_cmp c.args.name.now c.in-Fork.item.0 ≡ Less = search rules in
    let low : c.remove-gone.new.self ≡ without c.args.name.now c.in-Fork.below.value = search rules in
    rw low (without-low-ascends _ _ _ c.in-Fork.ensures.ascending c.args.name.now less)

pub of-requires : goal.of-requires
of-requires t c =
    let less : name_cmp c.args.name.now c.in-Fork.item.0 ≡ Less = search rules in
    let low : c.remove-gone.new.self ≡ without c.args.name.now c.in-Fork.below.value = search rules in
    rw (c.rebalanced.ensures, low) (without-low-ascends _ _ _ c.in-Fork.ensures.ascending c.args.name.now less)

pub merged-node-requires : goal.merged-node-requires
merged-node-requires t c =
    let equal : name_cmp c.args.name.now c.in-Fork.item.0 ≡ Equal = search rules in
    without-own-ascends _ _ _ c.in-Fork.ensures.ascending c.args.name.now equal

pub of-requires-in-Equal : goal.of-requires-in-Equal
of-requires-in-Equal t c =
    let equal : name_cmp c.args.name.now c.in-Fork.item.0 ≡ Equal = search rules in
    rw c.merged-node.ensures.entries (without-own-ascends _ _ _ c.in-Fork.ensures.ascending c.args.name.now equal)

pub rebalanced-requires-in-Greater : goal.rebalanced-requires-in-Greater
rebalanced-requires-in-Greater t c =
    let greater : name_cmp c.args.name.now c.in-Fork.item.0 ≡ Greater = search rules in
    let high : c.remove-gone-in-Greater.new.self ≡ without c.args.name.now c.in-Fork.above.value = search rules in
    rw high (without-high-ascends _ _ _ c.in-Fork.ensures.ascending c.args.name.now greater)

pub of-requires-in-Greater : goal.of-requires-in-Greater
of-requires-in-Greater t c =
    let greater : name_cmp c.args.name.now c.in-Fork.item.0 ≡ Greater = search rules in
    let high : c.remove-gone-in-Greater.new.self ≡ without c.args.name.now c.in-Fork.above.value = search rules in
    rw (c.rebalanced-in-Greater.ensures, high) (without-high-ascends _ _ _ c.in-Fork.ensures.ascending c.args.name.now greater)

pub returns-in-Less-clause-value : goal.returns-in-Less-clause-value
returns-in-Less-clause-value t c =
    let less : name_cmp c.args.name.now c.in-Fork.item.0 ≡ Less = search rules in
    rw (← c.in-Fork.ensures.entries) (cc (c.remove-gone.ensures.value, at_low _ _ _ c.in-Fork.ensures.ascending c.args.name.now less))

pub returns-in-Less-clause-after : goal.returns-in-Less-clause-after
returns-in-Less-clause-after t c =
    let less : name_cmp c.args.name.now c.in-Fork.item.0 ≡ Less = search rules in
    let low : c.remove-gone.new.self ≡ without c.args.name.now c.in-Fork.below.value = search rules in
    rw (← c.in-Fork.ensures.entries) (cc (c.of.ensures, c.rebalanced.ensures, low, without-low _ _ _ c.in-Fork.ensures.ascending c.args.name.now less))

pub returns-in-Equal-clause-value : goal.returns-in-Equal-clause-value
returns-in-Equal-clause-value t c =
    let equal : name_cmp c.args.name.now c.in-Fork.item.0 ≡ Equal = search rules in
    rw (← c.in-Fork.ensures.entries) (sym (ap (λ c. c.at) (cut-own _ _ _ c.in-Fork.ensures.ascending c.args.name.now equal)))

pub returns-in-Equal-clause-after : goal.returns-in-Equal-clause-after
returns-in-Equal-clause-after t c =
    let equal : name_cmp c.args.name.now c.in-Fork.item.0 ≡ Equal = search rules in
    rw (← c.in-Fork.ensures.entries) (cc (c.of-in-Equal.ensures, c.merged-node.ensures.entries, without-own _ _ _ c.in-Fork.ensures.ascending c.args.name.now equal))

pub returns-in-Greater-clause-value : goal.returns-in-Greater-clause-value
returns-in-Greater-clause-value t c =
    let greater : name_cmp c.args.name.now c.in-Fork.item.0 ≡ Greater = search rules in
    rw (← c.in-Fork.ensures.entries) (cc (c.remove-gone-in-Greater.ensures.value, at_high _ _ _ c.in-Fork.ensures.ascending c.args.name.now greater))

pub returns-in-Greater-clause-after : goal.returns-in-Greater-clause-after
returns-in-Greater-clause-after t c =
    let greater : name_cmp c.args.name.now c.in-Fork.item.0 ≡ Greater = search rules in
    let high : c.remove-gone-in-Greater.new.self ≡ without c.args.name.now c.in-Fork.above.value = search rules in
    rw (← c.in-Fork.ensures.entries) (cc (c.of-in-Greater.ensures, c.rebalanced-in-Greater.ensures, high, without-high _ _ _ c.in-Fork.ensures.ascending c.args.name.now greater))
