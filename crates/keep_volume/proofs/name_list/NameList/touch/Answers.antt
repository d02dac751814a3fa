use Rattle.std.proofs.Common.{rules, sym, subst, ap}
use Rattle.std.specs.Prelude.{is_some}
use Rattle.keep_event.specs.Store.{IsAscending, with_mtime}
use Rattle.keep_store.proofs.Order.{ascending-put}
use Rattle.keep_volume.proofs.Places.{put-at, find-at, change-at}
use Rattle.keep_volume.proofs.name_list.NameList.touch.Goals as goal

pub invariant_of-self : goal.invariant_of-self
invariant_of-self c = subst IsAscending (put-at c.args.name.now c.self.inside.items.items c.in-Ok.i (search rules) (with_mtime c.args.mtime c.index.result.now.1)) (ascending-put c.args.name.now (with_mtime c.args.mtime c.index.result.now.1) c.self.inside.items.items c.self.invariant)

pub returns-in-Ok-clause-value : goal.returns-in-Ok-clause-value
returns-in-Ok-clause-value c = rw (← c.self.view_is) (sym (ap is_some (find-at c.args.name.now c.self.inside.items.items c.in-Ok.i (search rules) c.index.result.now c.index.ensures)))

pub returns-in-Ok-clause-after : goal.returns-in-Ok-clause-after
returns-in-Ok-clause-after c = rw (← c.self.view_is) (sym (change-at c.args.name.now c.self.inside.items.items c.in-Ok.i (search rules) (with_mtime c.args.mtime) c.index.result.now c.index.ensures))
