use Rattle.std.proofs.Common.{◌≡◌, ◌+◌, ◌++◌, ◌∷◌, [], drop, sym, ◌∙◌, ap, arith, true, not, if◌then◌else◌}
use Rattle.std.specs.Result.{is_ok}
use Rattle.serde_json.specs.View.{view, items_view}
use Rattle.keep_event.specs.Lists.{pull_item_of, each_from}
use Rattle.keep_lists.proofs.Steps.{with_items, read-one}
use Rattle.keep_lists.proofs.parsing.pull_items.Goals as goal

pub loop-place-preserved : goal.loop-place-preserved
loop-place-preserved c =
    let f = pull_item_of c.args.config.now c.args.device in
    let vs = c.args.values.now in
    let i = c.loop-place.place in
    let d = c.index-values-place.result in
    let x = c.in-Some.item in
    let ok : is_ok c.push.result ≡ true = c.is_err.ensures.negation ∙ ap not c.if-is_err.false in
    let pushed : c.push.new.self.items ≡ c.loop-place.items.items ++ x ∷ [] = c.push.ensures.items ∙ ap (λ b. if b then c.loop-place.items.items ++ x ∷ [] else c.loop-place.items.items) ok in
    let is = ap (λ v. f (view v)) (sym c.index-values-place.is) ∙ sym c.in_ok-item.ensures ∙ c.in-Some.is in
    let n : c.args.trash + (i + 1) + 1 ≡ c.args.trash + i + 1 + 1 = omega arith in
    ap (λ v. with_items v (each_from (c.args.trash + (i + 1) + 1) f (items_view (drop (i + 1) vs)))) pushed
    ∙ ap (λ k. with_items (c.loop-place.items.items ++ x ∷ []) (each_from k f (items_view (drop (i + 1) vs)))) n
    ∙ sym (read-one f vs i d (omega arith) (c.args.trash + i + 1) c.loop-place.items.items x is)
    ∙ c.loop-place.invariant
