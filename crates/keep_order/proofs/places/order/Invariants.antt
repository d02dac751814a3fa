use Rattle.std.proofs.Common.{◌≡◌, map, take}
use Rattle.keep_spec.specs.Order.{weight}
use Rattle.keep_order.proofs.places.order.Given as goal

abbrev pub invariant-loop-service : goal.invariant-loop-service
invariant-loop-service l = l.weights.items ≡ map (weight l.digest) (take l.service-index l.services)
