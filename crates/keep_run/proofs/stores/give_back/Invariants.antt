use Rattle.std.proofs.Common.{◌+◌, ◌≤◌, vec_len}
use Rattle.std.specs.Vec.{vec_capacity}
use Rattle.keep_run.specs.Stores.{told_of}
use Rattle.keep_run.proofs.OpenedStores.{Giving}
use Rattle.keep_run.proofs.stores.give_back.Given as goal

abbrev pub invariant-loop-volume : goal.invariant-loop-volume
invariant-loop-volume g l = record {
  room : vec_len l.volumes + vec_len l.stores ≤ vec_capacity l.stores;
  giving : Giving (told_of g.S.Store.held g.S.Store.noted g.S.Store.faults) l.fn.volumes.items l.volumes.items l.fn.stores.items l.stores.items;
}

abbrev pub decreases-loop-volume : goal.decreases-loop-volume
decreases-loop-volume g l = vec_len l.volumes
