use Rattle.std.proofs.Common.{◌∙◌}
use Rattle.keep_spec.specs.SignedText.{signed}
use Rattle.keep_spec.proofs.TokenText.{all-through}
use Rattle.keep_sign.proofs.text.sign_manifest.Goals as goal

pub returns-clause-text : goal.returns-clause-text
returns-clause-text c = c.of.ensures ∙ all-through (signed c.args.token.now c.args.expiry c.args.ttl c.args.secret.now) c.loop-part.out.items c.loop-part.rest.now c.args.text.now c.in_default.ensures.parts c.loop-part.invariant
