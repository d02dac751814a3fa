use Rattle.std.proofs.Common.{◌∙◌}
use Rattle.keep_spec.specs.SignedText.{unsigned}
use Rattle.keep_spec.proofs.TokenText.{all-through}
use Rattle.keep_sign.proofs.text.unsigned_manifest.Goals as goal

pub returns-clause-text : goal.returns-clause-text
returns-clause-text c = c.of.ensures ∙ all-through unsigned c.loop-part.out.items c.loop-part.rest.now c.args.text.now c.in_default.ensures.parts c.loop-part.invariant
