use Rattle.std.proofs.Common.{◌<◌, subst, length}
use Rattle.std.proofs.lemmas.List.{get_or_default}
use Rattle.std.proofs.lemmas.List.Edits.{map_over_more}
use Rattle.keep_event.specs.Table.{with_times}
use Rattle.keep_plain_table.proofs.collections.set_times.Goals as goal

pub loop-collection-preserved : goal.loop-collection-preserved
loop-collection-preserved c =
    let i = c.loop-collection.collection-index in
    let below : i < length c.args.collections.now.items = subst (λ xs. i < length xs) c.deref_mut-collection-items.ensures.value c.loop-collection-test.true in
    let there : i < length c.loop-collection.collection-items = rw c.loop-collection.auto.collection-items c.loop-collection-test.true in
    rw c.set_own_times.ensures
    (map_over_more (with_times c.args.number c.args.trash_at c.args.delete_at) c.args.collections.now.items c.loop-collection.collection-items i _ below c.loop-collection.invariant (get_or_default c.loop-collection.collection-items i _ _ there))
