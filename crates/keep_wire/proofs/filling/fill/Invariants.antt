use Rattle.std.proofs.Common.{◌≤◌, ◌-◌, vec_len}
use Rattle.std.specs.Io.KnownBytes.{prepend_known, Keeps}
use Rattle.keep_wire.proofs.filling.fill.Given as goal

abbrev pub invariant-loop-pending : goal.invariant-loop-pending
invariant-loop-pending g l = record {
  short : vec_len l.pending ≤ 65536;
  bytes : Keeps (prepend_known l.fn.pending.items (g.R.Source.left l.fn.source)) (prepend_known l.pending.items (g.R.Source.left l.source));
  never_falls : g.R.Source.faults l.fn.source ≤ g.R.Source.faults l.source;
}

abbrev pub decreases-loop-pending : goal.decreases-loop-pending
decreases-loop-pending g l = 65537 - vec_len l.pending
