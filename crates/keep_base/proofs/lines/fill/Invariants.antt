use Rattle.std.proofs.Common.{◌≤◌, ◌+◌, ◌-◌, vec_len}
use Rattle.std.specs.Io.KnownBytes.{prepend_known, Keeps}
use Rattle.keep_base.specs.Ends.{IsPlain}
use Rattle.keep_base.proofs.lines.fill.Given as goal

abbrev pub invariant-loop-text : goal.invariant-loop-text
invariant-loop-text g l = record {
  scanned : l.scanned ≤ vec_len l.pending;
  plain : IsPlain l.pending.items 0 l.scanned;
  bytes : Keeps (prepend_known l.fn.pending.items (g.R.Source.left l.fn.source)) (prepend_known l.pending.items (g.R.Source.left l.source));
  never_falls : g.R.Source.faults l.fn.source ≤ g.R.Source.faults l.source;
}

abbrev pub decreases-loop-text : goal.decreases-loop-text
decreases-loop-text g l = 1073741825 - (l.taken + vec_len l.pending)
