use Rattle.std.proofs.Common.{◌≡◌, ◌≤◌, ◌*◌, ◌-◌, ℕ, List, None, Some, length}
use Rattle.keep_base.specs.Lines.{lines_left, lines_failed, lines_taken, lines_number, lines_source, lines_name}
use Rattle.keep_event.specs.Port.{NoneFalls}
use Rattle.keep_event.specs.World.{new_world}
use Rattle.keep_cluster.specs.Cluster.{faults_at, world_of}
use Rattle.keep_run.specs.Going.{Going}
use Rattle.keep_run.specs.Runs.{beginning}
use Rattle.keep_run.specs.Scenes.{IsStageOf}
use Rattle.keep_run.proofs.run.run_lines.Given as goal

abbrev pub invariant-loop-number : goal.invariant-loop-number
invariant-loop-number g l = record {
  unfailed : lines_failed l.lines ≡ None;
  names : length l.stage.names.entries ≤ 2 * lines_number l.lines;
  sound : IsStageOf l.config l.stage;
  name : lines_name l.lines ≡ lines_name l.fn.lines;
  devices : length l.stage.cluster.config.devices ≡ length l.fn.stage.cluster.config.devices;
  source_never_falls : g.R.Source.faults (lines_source l.fn.lines) ≤ g.R.Source.faults (lines_source l.lines);
  stores_never_fall : NoneFalls (faults_at l.fn.stage.cluster.devices) (faults_at l.stage.cluster.devices);
  sink_never_falls : g.W.Sink.faults l.fn.sink ≤ g.W.Sink.faults l.sink;
  told : (bytes : List ℕ) → lines_left l.fn.lines ≡ Some bytes → world_of l.fn.stage.cluster ≡ Some (new_world l.config) →
      Going l.config (beginning (lines_taken l.fn.lines) (lines_number l.fn.lines) bytes) (lines_taken l.lines) (lines_number l.lines) (lines_left l.lines) l.fn.stage l.stage (g.W.Sink.taken l.fn.sink) (g.W.Sink.taken l.sink);
}

abbrev pub decreases-loop-number : goal.decreases-loop-number
decreases-loop-number g l = 1073741824 - lines_taken l.lines
