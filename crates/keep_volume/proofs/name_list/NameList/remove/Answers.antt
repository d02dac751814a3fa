use Rattle.std.proofs.Common.{rules, sym, subst}
use Rattle.keep_event.specs.Store.{IsAscending}
use Rattle.keep_store.proofs.Order.{ascending-without}
use Rattle.keep_volume.proofs.Places.{find-at, without-at}
use Rattle.keep_volume.proofs.name_list.NameList.remove.Goals as goal

pub invariant_of-self : goal.invariant_of-self
invariant_of-self c = rw c.remove.ensures.items (subst IsAscending (without-at c.args.name.now c.self.inside.items.items c.in-Ok.i (search rules)) (ascending-without c.args.name.now c.self.inside.items.items c.self.invariant))

pub returns-in-Ok-clause-value : goal.returns-in-Ok-clause-value
returns-in-Ok-clause-value c = rw (← c.self.view_is) (sym (find-at c.args.name.now c.self.inside.items.items c.in-Ok.i (search rules) c.remove.result c.remove.ensures.value))
