use Rattle.std.proofs.Common.{◌∙◌}
use Rattle.keep_spec.specs.Locator.{stripped}
use Rattle.keep_spec.proofs.TokenText.{all-through}
use Rattle.keep_normal.proofs.hash.stripped_text.Goals as goal

pub returns-clause-text : goal.returns-clause-text
returns-clause-text c = c.of.ensures ∙ all-through stripped c.loop-part.out.items c.loop-part.rest.now c.args.text.now c.in_default.ensures.parts c.loop-part.invariant
