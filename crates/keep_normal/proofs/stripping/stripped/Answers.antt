use Rattle.std.proofs.Common.{sym, ◌∙◌, ap, ◌+◌, ◌-◌, take, length, drop, arith}
use Rattle.std.specs.List.{prefix_len}
use Rattle.std.specs.Char.{is_ascii_digit}
use Rattle.std.proofs.lemmas.List.{take_all, length-drop}
use Rattle.keep_normal.proofs.StrippedLocators.{stripped-is}
use Rattle.keep_normal.proofs.stripping.stripped.Goals as goal

pub returns : goal.returns
returns c =
    let text = c.args.locator.now in
    let whole = take_all (length text - 33) (drop 33 text) (omega (arith, length-drop 33 text)) in
    ap (λ n. take (33 + n) text) (c.digits_len-digits.ensures.front ∙ ap (prefix_len is_ascii_digit) whole) ∙ sym (stripped-is text)
