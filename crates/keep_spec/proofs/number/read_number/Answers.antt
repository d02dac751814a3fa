use Rattle.std.proofs.Common.{◌≡◌, arith, sym, ◌∙◌, ap, Some}
use Rattle.std.proofs.lemmas.List.{take_all}
use Rattle.std.proofs.lemmas.List.Sums.{prefix_len-le-length}
use Rattle.std.specs.Char.{is_ascii_digit}
use Rattle.keep_spec.specs.Locator.{number}
use Rattle.keep_spec.proofs.NumberText.{is_number-parts, is_number-from_parts, read_number-none, read_number-some}
use Rattle.keep_spec.proofs.number.read_number.Goals as goal

pub returns-then-prefix-eq0 : goal.returns-then-prefix-eq0
returns-then-prefix-eq0 c = let parts = is_number-parts c.args.text.now in sym (read_number-none c.args.text.now (λ h. omega (arith, (parts h).0, (parts h).1)))

pub returns-then-prefix-text : goal.returns-then-prefix-text
returns-then-prefix-text c = sym (read_number-none c.args.text.now (λ h. omega (arith, (is_number-parts c.args.text.now h).1)))

pub returns : goal.returns
returns c =
    let text = c.args.text.now in
    let within = prefix_len-le-length is_ascii_digit text in
    let value : c.number_prefix-prefix.result.value ≡ number text = c.number_prefix-prefix.ensures.value ∙ ap number (take_all c.number_prefix-prefix.result.digits text (omega arith)) in
    ap Some value ∙ sym (read_number-some text (is_number-from_parts text (omega (arith, within)) (omega (arith, within))))
