use Rattle.std.proofs.Common.{◌++◌, ap, sym, ◌∙◌, append_assoc}
use Rattle.keep_spec.specs.Locator.{stripped, hints, cut_before_plus}
use Rattle.keep_sign.proofs.SignedToken.{others, unsigned-is}
use Rattle.keep_sign.proofs.text.push_unsigned.Goals as goal

pub loop-hint-init : goal.loop-hint-init
loop-hint-init c =
    let old = c.args.out.now.items in
    let locator = c.args.locator.now in
    ap (λ x. x ++ others (cut_before_plus c.hint_text-rest.result.now)) (c.in_ok-extend_from_slice.ensures.items ∙ ap (λ x. old ++ x) c.stripped.ensures)
    ∙ ap (λ hs. (old ++ stripped locator) ++ others hs) c.hint_text-rest.ensures
    ∙ append_assoc old (stripped locator) (others (hints locator))
    ∙ ap (λ x. old ++ x) (sym (unsigned-is locator))
