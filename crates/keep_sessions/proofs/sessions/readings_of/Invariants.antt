use Rattle.std.specs.Prelude.{All}
use Rattle.keep_spec.specs.Times.{IsReading}
use Rattle.keep_sessions.proofs.sessions.readings_of.Given as goal

abbrev pub invariant-loop-i : goal.invariant-loop-i
invariant-loop-i l = All IsReading l.readings.items
