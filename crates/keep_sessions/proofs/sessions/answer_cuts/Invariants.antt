use Rattle.std.proofs.Common.{◌<◌, length}
use Rattle.keep_sessions.proofs.sessions.answer_cuts.Given as goal

abbrev pub invariant-loop-cut : goal.invariant-loop-cut
invariant-loop-cut l = l.plan.server < length l.desk.config.now.servers
