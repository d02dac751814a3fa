use Rattle.std.proofs.Common.{◌≡◌, sym, subst, rules}
use Rattle.std.specs.declared.cmp.Ordering.TheVariants.{Less, Equal, Greater}
use Rattle.keep_event.specs.Store.{put, name_cmp, IsAscending}
use Rattle.keep_store.proofs.Trees.{one-ascends, put-low, put-own, put-high, put-low-ascends, put-own-ascends, put-high-ascends}
use Rattle.keep_store.proofs.name_tree.NameTree.+put.Goals as goal

pub of-requires : goal.of-requires
of-requires t c = subst IsAscending (sym c.fork.ensures) (one-ascends c.entry.inside.below.value c.entry.inside.above.value c.entry.inside.item c.entry.invariant.0 c.entry.invariant.1)

pub rebalanced-requires : goal.rebalanced-requires
rebalanced-requires t c =
    let less : name_cmp c.args.entry.0 c.in-Fork.item.0 ≡ Less = search rules in
    let low : c.put.new.self ≡ put c.args.entry.0 c.args.entry.1 c.in-Fork.below.value = search rules in
    rw low (put-low-ascends _ _ _ c.in-Fork.ensures.ascending c.args.entry.0 less c.args.entry.1)

pub of-requires-in-Less : goal.of-requires-in-Less
of-requires-in-Less t c =
    let less : name_cmp c.args.entry.0 c.in-Fork.item.0 ≡ Less = search rules in
    let low : c.put.new.self ≡ put c.args.entry.0 c.args.entry.1 c.in-Fork.below.value = search rules in
    rw (c.rebalanced.ensures, low) (put-low-ascends _ _ _ c.in-Fork.ensures.ascending c.args.entry.0 less c.args.entry.1)

pub of-requires-in-Equal : goal.of-requires-in-Equal
of-requires-in-Equal t c =
    let equal : name_cmp c.args.entry.0 c.in-Fork.item.0 ≡ Equal = search rules in
    let own : c.entry-in-Fork.inside.item ≡ c.args.entry = c.entry-in-Fork.view_is in
    rw own (put-own-ascends _ _ _ c.in-Fork.ensures.ascending c.args.entry.0 equal c.args.entry.1)

pub rebalanced-requires-in-Greater : goal.rebalanced-requires-in-Greater
rebalanced-requires-in-Greater t c =
    let greater : name_cmp c.args.entry.0 c.in-Fork.item.0 ≡ Greater = search rules in
    let high : c.put-in-Greater.new.self ≡ put c.args.entry.0 c.args.entry.1 c.in-Fork.above.value = search rules in
    rw high (put-high-ascends _ _ _ c.in-Fork.ensures.ascending c.args.entry.0 greater c.args.entry.1)

pub of-requires-in-Greater : goal.of-requires-in-Greater
of-requires-in-Greater t c =
    let greater : name_cmp c.args.entry.0 c.in-Fork.item.0 ≡ Greater = search rules in
    let high : c.put-in-Greater.new.self ≡ put c.args.entry.0 c.args.entry.1 c.in-Fork.above.value = search rules in
    rw (c.rebalanced-in-Greater.ensures, high) (put-high-ascends _ _ _ c.in-Fork.ensures.ascending c.args.entry.0 greater c.args.entry.1)

pub returns-in-Less : goal.returns-in-Less
returns-in-Less t c =
    let less : name_cmp c.args.entry.0 c.in-Fork.item.0 ≡ Less = search rules in
    let low : c.put.new.self ≡ put c.args.entry.0 c.args.entry.1 c.in-Fork.below.value = search rules in
    rw (← c.in-Fork.ensures.entries) (cc (c.of-in-Less.ensures, c.rebalanced.ensures, low, put-low _ _ _ c.in-Fork.ensures.ascending c.args.entry.0 less c.args.entry.1))

pub returns-in-Equal : goal.returns-in-Equal
returns-in-Equal t c =
    let equal : name_cmp c.args.entry.0 c.in-Fork.item.0 ≡ Equal = search rules in
    rw (← c.in-Fork.ensures.entries) (cc (c.of-in-Equal.ensures, c.entry-in-Fork.view_is, put-own _ _ _ c.in-Fork.ensures.ascending c.args.entry.0 equal c.args.entry.1))

pub returns-in-Greater : goal.returns-in-Greater
returns-in-Greater t c =
    let greater : name_cmp c.args.entry.0 c.in-Fork.item.0 ≡ Greater = search rules in
    let high : c.put-in-Greater.new.self ≡ put c.args.entry.0 c.args.entry.1 c.in-Fork.above.value = search rules in
    rw (← c.in-Fork.ensures.entries) (cc (c.of-in-Greater.ensures, c.rebalanced-in-Greater.ensures, high, put-high _ _ _ c.in-Fork.ensures.ascending c.args.entry.0 greater c.args.entry.1))
