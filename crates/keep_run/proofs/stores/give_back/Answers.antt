use Rattle.std.proofs.Common.{◌∙◌, arith}
use Rattle.keep_run.specs.Stores.{told_of}
use Rattle.keep_run.proofs.OpenedStores.{giving-more, giving-start, insert-first}
use Rattle.keep_run.proofs.stores.give_back.Goals as goal

pub loop-volume-init : goal.loop-volume-init
loop-volume-init g c = record { room = c.requires; giving = giving-start _ _ _ }

pub loop-volume-preserved : goal.loop-volume-preserved
loop-volume-preserved g c = record {
  room = omega (arith, c.loop-volume.invariant.room, c.in-Some.ensures.len, c.in-Ok.ensures.len, c.in-Ok.ensures.capacity);
  giving = giving-more (told_of g.S.Store.held g.S.Store.noted g.S.Store.faults) _ _ _ _ _ _ c.in-Some.volume c.into_store.result c.loop-volume.invariant.giving c.in-Some.ensures.items
      (c.in-Ok.ensures.items ∙ insert-first (told_of g.S.Store.held g.S.Store.noted g.S.Store.faults) _ _) (record { held = c.into_store.ensures.held; noted = c.into_store.ensures.note; faults = c.into_store.ensures.faults });
}
