use Rattle.std.proofs.Common.{◌&&◌, take, sym, ap, ◌∙◌, arith}
use Rattle.std.specs.Prelude.{codes}
use Rattle.std.specs.Str.{bytes_eq}
use Rattle.std.proofs.lemmas.Bool.{eq-eqb, ne_eqb}
use Rattle.std.proofs.lemmas.List.{length-take-le}
use Rattle.keep_spec.specs.Locator.{is_empty_block, size}
use Rattle.keep_spec.proofs.LocatorText.{locator_parts}
use Rattle.keep_locator.proofs.locator.Locator.is_empty_block.Goals as goal

pub slice_bounds-eq-end : goal.slice_bounds-eq-end
slice_bounds-eq-end c =
    let text = c.self.inside.text.now in
    let long = (locator_parts text c.self.invariant.whole).long in
    sym (length-take-le 32 text (omega (arith, long)))

pub returns-then-self-eq0 : goal.returns-then-self-eq0
unfolding is_empty_block
returns-then-self-eq0 c =
    let text = c.self.inside.text.now in
    let none = eq-eqb (size text) 0 (sym c.self.invariant.size ∙ c.if-self-eq0.true) in
    let same = bytes_eq (take 32 text) (codes "d41d8cd98f00b204e9800998ecf8427e") in
    c.eq.ensures ∙ ap (bytes_eq (take 32 text)) c.as_slice.ensures ∙ sym (ap (λ b. b && same) none) ∙ ap is_empty_block c.self.view_is

pub returns-else-self-eq0 : goal.returns-else-self-eq0
unfolding is_empty_block
returns-else-self-eq0 c =
    let text = c.self.inside.text.now in
    let same = bytes_eq (take 32 text) (codes "d41d8cd98f00b204e9800998ecf8427e") in
    let some = ne_eqb (size text) 0 (λ e. c.if-self-eq0.false (c.self.invariant.size ∙ e)) in
    ne_eqb c.self.inside.size 0 c.if-self-eq0.false ∙ sym (ap (λ b. b && same) some) ∙ ap is_empty_block c.self.view_is
