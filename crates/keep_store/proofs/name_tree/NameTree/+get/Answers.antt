use Rattle.std.proofs.Common.{◌≡◌, sym, rules}
use Rattle.keep_event.specs.Store.{name_cmp}
use Rattle.std.specs.declared.cmp.Ordering.TheVariants.{Less, Equal, Greater}
use Rattle.keep_store.proofs.Trees.{at_fork, find-low, find-own, find-high}
use Rattle.keep_store.proofs.name_tree.NameTree.+get.Goals as goal

pub returns-in-Less : goal.returns-in-Less
returns-in-Less t c =
    let f = at_fork c.self.view_is c.self.invariant c.in-Fork.is in
    let less : name_cmp c.args.name.now c.in-Fork.item.0 ≡ Less = search rules in
    rw f.is (cc (c.get.ensures, find-low _ _ _ f.ascending c.args.name.now less))

pub returns-in-Equal : goal.returns-in-Equal
returns-in-Equal t c =
    let f = at_fork c.self.view_is c.self.invariant c.in-Fork.is in
    let equal : name_cmp c.args.name.now c.in-Fork.item.0 ≡ Equal = search rules in
    rw f.is (sym (find-own _ _ _ f.ascending c.args.name.now equal))

pub returns-in-Greater : goal.returns-in-Greater
returns-in-Greater t c =
    let f = at_fork c.self.view_is c.self.invariant c.in-Fork.is in
    let greater : name_cmp c.args.name.now c.in-Fork.item.0 ≡ Greater = search rules in
    rw f.is (cc (c.get-in-Greater.ensures, find-high _ _ _ f.ascending c.args.name.now greater))
