use Rattle.std.proofs.Common.{take, sym, ap, ◌∙◌, arith}
use Rattle.std.proofs.lemmas.List.{length-take-le}
use Rattle.keep_spec.specs.Locator.{stripped}
use Rattle.keep_spec.proofs.LocatorText.{locator_parts}
use Rattle.keep_locator.proofs.locator.Locator.stripped.Goals as goal

pub slice_bounds-result-end : goal.slice_bounds-result-end
slice_bounds-result-end c =
    let text = c.self.inside.text.now in
    let within = (locator_parts text c.self.invariant.whole).within in
    sym (length-take-le c.self.inside.size_end text (omega (arith, within, c.self.invariant.ends)))

pub returns : goal.returns
unfolding stripped
returns c = ap (λ n. take n c.self.inside.text.now) c.self.invariant.ends ∙ ap stripped c.self.view_is
