use Rattle.std.proofs.Common.{rules, sym, subst}
use Rattle.keep_event.specs.Store.{IsAscending}
use Rattle.keep_store.proofs.Order.{ascending-put}
use Rattle.keep_volume.proofs.Places.{put-at, put-gap}
use Rattle.keep_volume.proofs.name_list.NameList.put_in_room.Goals as goal

pub invariant_of-self : goal.invariant_of-self
invariant_of-self c = subst IsAscending (put-at c.args.name.now c.self.inside.items.items c.in-Ok.i (search rules) c.args.value) (ascending-put c.args.name.now c.args.value c.self.inside.items.items c.self.invariant)

pub invariant_of-self-in-Ok-insert : goal.invariant_of-self-in-Ok-insert
invariant_of-self-in-Ok-insert c = rw c.in-Ok-insert.ensures.items (subst IsAscending (put-gap c.args.name.now c.self.inside.items.items c.in-Err.i (search rules) c.args.value) (ascending-put c.args.name.now c.args.value c.self.inside.items.items c.self.invariant))

pub returns-in-Ok : goal.returns-in-Ok
returns-in-Ok c = rw (← c.self.view_is) (sym (put-at c.args.name.now c.self.inside.items.items c.in-Ok.i (search rules) c.args.value))
