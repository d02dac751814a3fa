use Rattle.std.proofs.Common.{◌≡◌}
use Rattle.keep_core.specs.Seen.{updated}
use Rattle.keep_core.proofs.held.updated.Given as goal

abbrev pub invariant-loop-version : goal.invariant-loop-version
invariant-loop-version l = l.kept.items ≡ updated l.config l.reading l.collection l.preserved (l.yielded)
