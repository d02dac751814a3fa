use Rattle.std.proofs.Common.{◌≡◌, take, filter, is_some}
use Rattle.keep_plan.specs.Decided.{entry_or}
use Rattle.keep_plan.proofs.decide.holders.Given as goal

abbrev pub invariant-loop-device : goal.invariant-loop-device
invariant-loop-device l = l.holders.items ≡ filter (λ d. is_some (entry_or l.entries d)) (take l.device-index l.order)
