use Rattle.std.proofs.Common.{sym, ◌∙◌, ap, Some}
use Rattle.keep_script.proofs.LowerCase.{bytes-of_lower, no_bytes-of_other}
use Rattle.keep_script.proofs.hexadecimal.bytes_of_text.Goals as goal

pub returns-then-not-are_lower_digits : goal.returns-then-not-are_lower_digits
returns-then-not-are_lower_digits c = sym (no_bytes-of_other c.args.digits.now (sym c.are_lower_digits.ensures ∙ c.if-not-are_lower_digits.true))

pub returns-in-Ok : goal.returns-in-Ok
returns-in-Ok c = ap Some c.of.ensures ∙ sym (bytes-of_lower c.args.digits.now c.in-Ok.bytes.items (sym c.are_lower_digits.ensures ∙ c.if-not-are_lower_digits.false) c.in-Ok.ensures.ok)
