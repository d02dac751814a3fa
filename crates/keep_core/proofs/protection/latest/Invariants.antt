use Rattle.std.proofs.Common.{◌≡◌, take, reverse}
use Rattle.keep_safety.specs.Times.{now}
use Rattle.keep_core.proofs.protection.latest.Given as goal

abbrev pub invariant-loop-event : goal.invariant-loop-event
invariant-loop-event l = l.latest ≡ now (reverse (take l.event-index l.events))
