use Rattle.std.proofs.Common.{◌≡◌, length, Some}
use Rattle.keep_spec.specs.Config.{Configuration}
use Rattle.keep_event.specs.Port.{NoneFalls}
use Rattle.keep_event.specs.World.{World}
use Rattle.keep_cluster.specs.Cluster.{faults_at, world_of}
use Rattle.keep_history.specs.Effects.{Standing}
use Rattle.keep_run.specs.Asked.{Turning}
use Rattle.keep_run.specs.Standing.{IsAskable, IsStanding}
use Rattle.keep_run.proofs.asking.ask_turns.Given as goal

abbrev pub invariant-loop-turn : goal.invariant-loop-turn
invariant-loop-turn g l = record {
  askable : IsAskable (length l.fn.cluster.config.devices) l.open_task;
  devices : length l.cluster.config.devices ≡ length l.fn.cluster.config.devices;
  reading : l.cluster.reading ≡ l.fn.cluster.reading;
  never_fall : NoneFalls (faults_at l.fn.cluster.devices) (faults_at l.cluster.devices);
  told : (config : Configuration) → (w : World) → (s : Standing) → world_of l.fn.cluster ≡ Some w → IsStanding config l.fn.open_task s →
      Turning config l.fn.cluster l.cluster l.open_task w s l.turn l.name l.fn.out.items l.out.items;
}
