use Rattle.std.proofs.Common.{◌≡◌, [], map}
use Rattle.keep_spec.specs.Members.{numbers_from}
use Rattle.keep_plan.proofs.plan.no_items.Given as goal

abbrev pub invariant-loop-device : goal.invariant-loop-device
invariant-loop-device l = l.drafts.items ≡ map (λ d. record { trash = []; pull = [] }) (numbers_from 0 l._device)
