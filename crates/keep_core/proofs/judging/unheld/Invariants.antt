use Rattle.std.proofs.Common.{◌≡◌, filter, reverse}
use Rattle.keep_core.specs.Judged.{lacks}
use Rattle.keep_core.specs.Unheld.{protected_digests}
use Rattle.keep_core.proofs.judging.unheld.Given as goal

abbrev pub invariant-loop-device : goal.invariant-loop-device
invariant-loop-device l = l.unheld.items ≡ filter (lacks (reverse l.events) l.device) (protected_digests l.config (reverse l.events))
