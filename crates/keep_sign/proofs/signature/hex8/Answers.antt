use Rattle.std.proofs.Common.{arith}
use Rattle.std.proofs.lemmas.Grind.{common_steps}
use Rattle.keep_spec.specs.Sign.{hex8}
use Rattle.keep_sign.proofs.signature.hex8.Goals as goal

pub returns : goal.returns
unfolding hex8
returns c = grind (arith, common_steps, c.encode_to_slice.ensures.fits)
