use Rattle.std.proofs.Common.{◌≤◌, vec_len, length}
use Rattle.std.specs.Vec.{vec_capacity}
use Rattle.keep_run.specs.Stores.{told_of}
use Rattle.keep_run.proofs.OpenedStores.{Going}
use Rattle.keep_run.proofs.stores.open_all.Given as goal

abbrev pub invariant-loop-device : goal.invariant-loop-device
invariant-loop-device g l = record {
  volumes_room : length l.config.devices ≤ vec_capacity l.volumes;
  stores_room : vec_len l.fn.stores ≤ vec_capacity l.stores;
  opening : Going (told_of g.S.Store.held g.S.Store.noted g.S.Store.faults) l.config l.device l.fn.stores.items l.stores.items l.volumes.items;
}
