use Rattle.std.proofs.Common.{◌≡◌, map, take}
use Rattle.keep_spec.specs.Order.{weight}
use Rattle.keep_plan.proofs.order.server_weights.Given as goal

abbrev pub invariant-loop-server : goal.invariant-loop-server
invariant-loop-server l = l.weights.items ≡ map (λ s. weight l.digest s.uuid) (take l.server-index l.servers)
