use Rattle.std.proofs.Common.{◌≡◌, map, ℕ, List, [], ◌∙◌, ap, subst, slice_index_or, length, arith}
use Rattle.std.proofs.lemmas.List.{take_all, length-map}
use Rattle.std.proofs.lemmas.Result.{IfOk-weaker}
use Rattle.keep_spec.specs.Members.{numbers_from}
use Rattle.keep_spec.specs.Order.{weight, by_weight, IsByWeight, service_weight}
use Rattle.keep_order.proofs.places.order.Goals as goal

pub returns-clause-list : goal.returns-clause-list
returns-clause-list c =
    let h = c.args.digest.now in
    let services = c.args.services.now in
    let is : c.loop-service.weights.items ≡ map (weight h) services = c.loop-service.invariant ∙ ap (map (weight h)) (take_all c.loop-service.service-index services (omega arith)) in
    let ws : c.deref.result.now ≡ map (weight h) services = c.deref.ensures.value ∙ is in
    IfOk-weaker c.by_weight.result _ _ (λ v e. e ∙ ap (λ (w : List (List ℕ)). by_weight (λ n. slice_index_or w n []) (numbers_from 0 (length w))) ws ∙ ap (λ n. by_weight (service_weight h services) (numbers_from 0 n)) (length-map services (weight h))) c.by_weight.ensures.list

pub returns-clause-sorted : goal.returns-clause-sorted
returns-clause-sorted c =
    let h = c.args.digest.now in
    let services = c.args.services.now in
    let is : c.loop-service.weights.items ≡ map (weight h) services = c.loop-service.invariant ∙ ap (map (weight h)) (take_all c.loop-service.service-index services (omega arith)) in
    let ws : c.deref.result.now ≡ map (weight h) services = c.deref.ensures.value ∙ is in
    IfOk-weaker c.by_weight.result _ _
    (λ v e. subst (λ n. IsByWeight (service_weight h services) n v.items) (length-map services (weight h)) (subst (λ (w : List (List ℕ)). IsByWeight (λ n. slice_index_or w n []) (length w) v.items) ws e))
    c.by_weight.ensures.sorted
