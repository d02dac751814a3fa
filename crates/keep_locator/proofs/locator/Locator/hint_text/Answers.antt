use Rattle.std.proofs.Common.{drop, arith, ap, ◌∙◌}
use Rattle.std.proofs.lemmas.List.{take_rest}
use Rattle.keep_spec.specs.Locator.{cut_before_plus, hints}
use Rattle.keep_spec.proofs.LocatorText.{locator_parts}
use Rattle.keep_locator.proofs.locator.Locator.hint_text.Goals as goal

pub slice_bounds-result-count : goal.slice_bounds-result-count
slice_bounds-result-count c = let parts = locator_parts c.self.inside.text.now c.self.invariant.whole in omega (arith, parts.within, c.self.invariant.ends)

pub slice_bounds-result-start : goal.slice_bounds-result-start
slice_bounds-result-start c = let parts = locator_parts c.self.inside.text.now c.self.invariant.whole in omega (arith, parts.within, c.self.invariant.ends)

pub returns : goal.returns
unfolding hints
returns c =
    let text = c.self.inside.text.now in
    ap cut_before_plus (take_rest text c.self.inside.size_end) ∙ ap (λ n. cut_before_plus (drop n text)) c.self.invariant.ends ∙ ap hints c.self.view_is
