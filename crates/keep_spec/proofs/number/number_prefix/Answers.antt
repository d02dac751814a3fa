use Rattle.std.proofs.Common.{◌≡◌, get_or, true, arith, sym, ◌∙◌}
use Rattle.std.proofs.lemmas.List.Sums.{prefix_len-drop_yes}
use Rattle.std.specs.Char.{is_ascii_digit}
use Rattle.keep_spec.proofs.NumberText.{number-take-more, digit-range, ten-suc, ten-le}
use Rattle.keep_spec.proofs.number.number_prefix.Goals as goal

pub overflow_mul-value : goal.overflow_mul-value
overflow_mul-value c = omega (arith, ten-le c.loop-digits.digits 18 (omega arith))

pub overflow_add-value : goal.overflow_add-value
overflow_add-value c =
    omega (arith, ten-le c.loop-digits.digits 18 (omega arith), digit-range (get_or c.args.text.now c.loop-digits.digits 0) (sym c.is_ascii_digit.ensures.value ∙ c.if-not-is_ascii_digit.false))

pub loop-digits-preserved : goal.loop-digits-preserved
loop-digits-preserved c =
    let text = c.args.text.now in
    let i = c.loop-digits.digits in
    let digit : is_ascii_digit (get_or text i 0) ≡ true = sym c.is_ascii_digit.ensures.value ∙ c.if-not-is_ascii_digit.false in
    let inside = c.loop-digits-test.true in
    let more = number-take-more text i inside digit in
    let value = c.loop-digits.invariant.value in
    record {
      short = omega arith;
      rest = omega (arith, c.loop-digits.invariant.rest, prefix_len-drop_yes is_ascii_digit text i 0 inside digit);
      value = cc;
      bound = omega (arith, c.loop-digits.invariant.bound, digit-range (get_or text i 0) digit, ten-suc i);
    }
