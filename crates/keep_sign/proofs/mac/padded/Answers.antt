use Rattle.std.proofs.Common.{arith}
use Rattle.keep_sign.proofs.PaddedKeys.{padded_is}
use Rattle.keep_sign.proofs.mac.padded.Goals as goal

pub returns : goal.returns
returns c = padded_is c.loop-i.block c.args.key.now c.args.pad c.requires c.loop-i.invariant.len (λ k lt. c.loop-i.invariant.done k (omega arith))
