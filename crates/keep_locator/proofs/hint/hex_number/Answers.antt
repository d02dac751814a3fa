use Rattle.std.proofs.Common.{get_or, arith}
use Rattle.keep_locator.proofs.HintText.{hex-take-more, sixteen-suc, sixteen-le, lower-value, all_at}
use Rattle.keep_locator.proofs.hint.hex_number.Goals as goal

pub overflow_mul-value : goal.overflow_mul-value
overflow_mul-value c = omega (arith, sixteen-le c.loop-byte.byte-index 7 (omega arith))

pub overflow_add-value : goal.overflow_add-value
overflow_add-value c =
    let i = c.loop-byte.byte-index in
    let lower = lower-value (get_or c.args.digits.now i 0) (all_at c.args.digits.now i c.requires.digits c.loop-byte-test.true) in
    omega (arith, lower, sixteen-le i 7 (omega arith))

pub digit_value-requires : goal.digit_value-requires
digit_value-requires c = all_at c.args.digits.now c.loop-byte.byte-index c.requires.digits c.loop-byte-test.true

pub loop-byte-preserved : goal.loop-byte-preserved
loop-byte-preserved c =
    let i = c.loop-byte.byte-index in
    let lower = lower-value (get_or c.args.digits.now i 0) (all_at c.args.digits.now i c.requires.digits c.loop-byte-test.true) in
    record {
      value = omega (arith, hex-take-more c.args.digits.now i c.loop-byte-test.true);
      bound = omega (arith, lower, sixteen-suc i);
    }
