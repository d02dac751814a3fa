use Rattle.std.proofs.Common.{◌≡◌, sym, ap, rules}
use Rattle.std.specs.Prelude.{is_some}
use Rattle.std.specs.declared.cmp.Ordering.TheVariants.{Less, Equal, Greater}
use Rattle.keep_event.specs.Store.{find, touch, name_cmp, with_time}
use Rattle.keep_store.proofs.Trees.{find-low, find-own, find-high, change-low, change-own, change-high, change-low-ascends, change-own-ascends, change-high-ascends}
use Rattle.keep_store.proofs.name_tree.NameTree.+touch.Goals as goal

pub of-requires : goal.of-requires
of-requires t c =
    let less : name_cmp c.args.name.now c.in-Fork.item.0 ≡ Less = search rules in
    let low : c.touch-touched.new.self ≡ touch c.args.name.now c.args.mtime c.in-Fork.below.value (find c.args.name.now c.in-Fork.below.value) = search rules in
    rw low (change-low-ascends _ _ _ c.in-Fork.ensures.ascending c.args.name.now less (with_time c.args.mtime))

pub returns-in-Less-clause-value : goal.returns-in-Less-clause-value
returns-in-Less-clause-value t c =
    let less : name_cmp c.args.name.now c.in-Fork.item.0 ≡ Less = search rules in
    rw (← c.in-Fork.ensures.entries) (cc (c.touch-touched.ensures.value, ap is_some (find-low _ _ _ c.in-Fork.ensures.ascending c.args.name.now less)))

pub returns-in-Less-clause-after : goal.returns-in-Less-clause-after
returns-in-Less-clause-after t c =
    let less : name_cmp c.args.name.now c.in-Fork.item.0 ≡ Less = search rules in
    let low : c.touch-touched.new.self ≡ touch c.args.name.now c.args.mtime c.in-Fork.below.value (find c.args.name.now c.in-Fork.below.value) = search rules in
    rw (← c.in-Fork.ensures.entries) (cc (c.of.ensures, low, change-low _ _ _ c.in-Fork.ensures.ascending c.args.name.now less (with_time c.args.mtime)))

pub of-requires-in-Equal : goal.of-requires-in-Equal
of-requires-in-Equal t c =
    let equal : name_cmp c.args.name.now c.in-Fork.item.0 ≡ Equal = search rules in
    (change-own-ascends _ _ _ c.in-Fork.ensures.ascending c.args.name.now equal (with_time c.args.mtime))

pub returns-in-Equal-clause-value : goal.returns-in-Equal-clause-value
returns-in-Equal-clause-value t c =
    let equal : name_cmp c.args.name.now c.in-Fork.item.0 ≡ Equal = search rules in
    rw (← c.in-Fork.ensures.entries) (sym (ap is_some (find-own _ _ _ c.in-Fork.ensures.ascending c.args.name.now equal)))

pub returns-in-Equal-clause-after : goal.returns-in-Equal-clause-after
returns-in-Equal-clause-after t c =
    let equal : name_cmp c.args.name.now c.in-Fork.item.0 ≡ Equal = search rules in
    rw (← c.in-Fork.ensures.entries) (cc (c.of-in-Equal.ensures, change-own _ _ _ c.in-Fork.ensures.ascending c.args.name.now equal (with_time c.args.mtime)))

pub of-requires-in-Greater : goal.of-requires-in-Greater
of-requires-in-Greater t c =
    let greater : name_cmp c.args.name.now c.in-Fork.item.0 ≡ Greater = search rules in
    let high : c.touch-touched-in-Greater.new.self ≡ touch c.args.name.now c.args.mtime c.in-Fork.above.value (find c.args.name.now c.in-Fork.above.value) = search rules in
    rw high (change-high-ascends _ _ _ c.in-Fork.ensures.ascending c.args.name.now greater (with_time c.args.mtime))

pub returns-in-Greater-clause-value : goal.returns-in-Greater-clause-value
returns-in-Greater-clause-value t c =
    let greater : name_cmp c.args.name.now c.in-Fork.item.0 ≡ Greater = search rules in
    rw (← c.in-Fork.ensures.entries) (cc (c.touch-touched-in-Greater.ensures.value, ap is_some (find-high _ _ _ c.in-Fork.ensures.ascending c.args.name.now greater)))

pub returns-in-Greater-clause-after : goal.returns-in-Greater-clause-after
returns-in-Greater-clause-after t c =
    let greater : name_cmp c.args.name.now c.in-Fork.item.0 ≡ Greater = search rules in
    let high : c.touch-touched-in-Greater.new.self ≡ touch c.args.name.now c.args.mtime c.in-Fork.above.value (find c.args.name.now c.in-Fork.above.value) = search rules in
    rw (← c.in-Fork.ensures.entries) (cc (c.of-in-Greater.ensures, high, change-high _ _ _ c.in-Fork.ensures.ascending c.args.name.now greater (with_time c.args.mtime)))
