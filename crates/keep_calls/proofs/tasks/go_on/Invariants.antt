use Rattle.std.proofs.Common.{◌≡◌}
use Rattle.keep_calls.proofs.tasks.go_on.Given as goal

abbrev pub invariant-loop : goal.invariant-loop
invariant-loop g l = g.T.Steps.may_ask l.task (g.P.Port.devices l.port) × (g.P.Port.devices l.port ≡ g.P.Port.devices l.fn.port)
