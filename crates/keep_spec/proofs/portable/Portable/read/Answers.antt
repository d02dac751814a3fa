use Rattle.std.proofs.Common.{arith, sym, ◌∙◌, take, drop}
use Rattle.std.proofs.lemmas.List.{get_or_past, length-take-le, take_rest}
use Rattle.std.proofs.lemmas.Option.{none-some}
use Rattle.keep_spec.proofs.DigestText.{digest_of-some, digest_of_is}
use Rattle.keep_spec.proofs.NumberText.{read_number-some, read_number_is}
use Rattle.keep_spec.proofs.PortableText.{portable_of-none, is_portable-parts, portable_of-some}
use Rattle.keep_spec.proofs.portable.Portable.read.Goals as goal

pub returns-then-text-le-DIGEST_DIGITS : goal.returns-then-text-le-DIGEST_DIGITS
returns-then-text-le-DIGEST_DIGITS c =
    let text = c.args.text.now in
    sym (portable_of-none text (λ h. omega (arith, (is_portable-parts text h).plus, get_or_past text 32 0 c.if-text-le-DIGEST_DIGITS.true)))

pub returns-then-text-ne43 : goal.returns-then-text-ne43
returns-then-text-ne43 c = let text = c.args.text.now in sym (portable_of-none text (λ h. c.if-text-ne43.true (is_portable-parts text h).plus))

pub slice_bounds-read-end : goal.slice_bounds-read-end
slice_bounds-read-end c = sym (length-take-le 32 c.args.text.now (omega arith))

pub returns-in_err-digest : goal.returns-in_err-digest
returns-in_err-digest c =
    let text = c.args.text.now in
    c.from_residual.ensures
    ∙ sym (portable_of-none text (λ h. none-some _ (c.in_err-digest.ensures ∙ digest_of-some (take 32 text) (is_portable-parts text h).digits)))

pub returns-in_err-size : goal.returns-in_err-size
returns-in_err-size c =
    let text = c.args.text.now in
    c.from_residual-in_err-size.ensures
    ∙ sym (portable_of-none text (λ h. none-some _ ((rw (take_rest text 33) at c.in_err-size.ensures) ∙ read_number-some (drop 33 text) (is_portable-parts text h).length)))

pub returns : goal.returns
returns c =
    let text = c.args.text.now in
    let digits = digest_of_is (take 32 text) c.in_ok-digest.digest (sym c.in_ok-digest.ensures) in
    let length = read_number_is (drop 33 text) c.in_ok-size.size (sym (rw (take_rest text 33) at c.in_ok-size.ensures)) in
    rw (digits.1, length.1) (sym (portable_of-some text (record { digits = digits.0; plus = c.if-text-ne43.false; length = length.0 })))
