use Rattle.std.proofs.Common.{map, List, [], ◌∙◌, sym, ap, subst, slice_index_or, length}
use Rattle.std.proofs.lemmas.Result.{IfOk-weaker}
use Rattle.std.specs.Prelude.{IsPermutation}
use Rattle.keep_spec.specs.Order.{IsByWeight}
use Rattle.keep_order.specs.declared.places.Candidate.{Candidate}
use Rattle.keep_order.proofs.Sorted.{in-order, the-list}
use Rattle.keep_order.proofs.places.by_weight.Goals as goal

pub returns-clause-list : goal.returns-clause-list
returns-clause-list c =
    let ws = c.args.weights.now in
    let moved = subst (λ (l : List Candidate). IsPermutation l c.sort_unstable.new.self.items) c.in_ok-candidates.ensures c.sort_unstable.ensures.permutation in
    let is = the-list ws c.sort_unstable.new.self.items moved c.sort_unstable.ensures.sorted in
    IfOk-weaker c.numbers_of.result _ _ (λ v e. e ∙ ap (map (λ (x : Candidate). x.number)) c.deref.ensures.value ∙ is) c.numbers_of.ensures

pub returns-clause-sorted : goal.returns-clause-sorted
returns-clause-sorted c =
    let ws = c.args.weights.now in
    let moved = subst (λ (l : List Candidate). IsPermutation l c.sort_unstable.new.self.items) c.in_ok-candidates.ensures c.sort_unstable.ensures.permutation in
    let is = in-order ws c.sort_unstable.new.self.items moved c.sort_unstable.ensures.sorted in
    IfOk-weaker c.numbers_of.result _ _ (λ v e. subst (IsByWeight (λ n. slice_index_or ws n []) (length ws)) (sym (e ∙ ap (map (λ (x : Candidate). x.number)) c.deref.ensures.value)) is) c.numbers_of.ensures
