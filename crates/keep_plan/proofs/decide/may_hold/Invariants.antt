use Rattle.std.proofs.Common.{◌≡◌, ◌||◌, take, filter, is_some}
use Rattle.keep_event.specs.Plan.{is_writable}
use Rattle.keep_plan.specs.Decided.{entry_or}
use Rattle.keep_plan.proofs.decide.may_hold.Given as goal

abbrev pub invariant-loop-device : goal.invariant-loop-device
invariant-loop-device l = l.devices.items ≡ filter (λ d. is_writable l.config d || is_some (entry_or l.entries d)) (take l.device-index l.order)
