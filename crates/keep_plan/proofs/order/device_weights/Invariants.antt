use Rattle.std.proofs.Common.{◌≡◌, map}
use Rattle.keep_spec.specs.Members.{numbers_from}
use Rattle.keep_spec.specs.Order.{device_weight}
use Rattle.keep_plan.proofs.order.device_weights.Given as goal

abbrev pub invariant-loop-device : goal.invariant-loop-device
invariant-loop-device l = l.weights.items ≡ map (device_weight l.fn.config l.fn.digest) (numbers_from 0 l.device)
