use Rattle.std.proofs.Common.{◌≡◌, reverse, filter}
use Rattle.keep_safety.specs.Holds.{holds}
use Rattle.keep_spec.specs.Members.{numbers_from}
use Rattle.keep_core.proofs.holding.holders_among.Given as goal

abbrev pub invariant-loop-device : goal.invariant-loop-device
invariant-loop-device l = l.found.items ≡ filter (λ d. holds d l.digest (reverse l.events)) (numbers_from 0 l.device)
