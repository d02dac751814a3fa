use Rattle.std.proofs.Common.{◌≡◌, ◌∷◌, ◌++◌, [], rules, map, take}
use Rattle.std.specs.declared.cmp.Ordering.TheVariants.{Less, Equal, Greater}
use Rattle.keep_event.specs.Store.{above, held_of}
use Rattle.keep_store.specs.Names.{named}
use Rattle.keep_store.specs.Tree.{order_after}
use Rattle.keep_store.proofs.Listing.{list-node}
use Rattle.keep_store.proofs.Trees.{at_fork, above-low, above-own, above-high}
use Rattle.keep_store.proofs.name_tree.NameTree.+list.Goals as goal

pub returns-in_ok-list_one-in-Less-clause-listed : goal.returns-in_ok-list_one-in-Less-clause-listed
returns-in_ok-list_one-in-Less-clause-listed t c =
    let f = at_fork c.self.view_is c.self.invariant c.in-Fork.is in
    let less : order_after (named c.args.after) c.in-Fork.item.0 ≡ Less = search rules in
    let k = c.args.limit in
    let out = c.args.out.now.items in
    let low : c.list.new.out.items ≡ take k (out ++ map held_of (above (named c.args.after) c.in-Fork.below.value)) = search rules in
    let own : c.list_one.new.out.items ≡ take k (c.list.new.out.items ++ held_of c.in-Fork.item ∷ []) = search rules in
    let whole = list-node held_of k out c.list.new.out.items c.list_one.new.out.items (above (named c.args.after) c.in-Fork.below.value) c.in-Fork.item c.in-Fork.above.value low own in
    rw (f.is, above-low _ _ _ f.ascending (named c.args.after) less, ← whole) (search rules)

pub returns-in-Equal-clause-listed : goal.returns-in-Equal-clause-listed
returns-in-Equal-clause-listed t c =
    let f = at_fork c.self.view_is c.self.invariant c.in-Fork.is in
    let equal : order_after (named c.args.after) c.in-Fork.item.0 ≡ Equal = search rules in
    rw (f.is, above-own _ _ _ f.ascending (named c.args.after) equal) (search rules)

pub returns-in-Greater-clause-listed : goal.returns-in-Greater-clause-listed
returns-in-Greater-clause-listed t c =
    let f = at_fork c.self.view_is c.self.invariant c.in-Fork.is in
    let greater : order_after (named c.args.after) c.in-Fork.item.0 ≡ Greater = search rules in
    rw (f.is, above-high _ _ _ f.ascending (named c.args.after) greater) (search rules)
