use Rattle.std.proofs.Common.{◌≡◌, ℕ, List, take, drop, sym, ◌∙◌, ap, slice_index, get_or, arith}
use Rattle.std.proofs.lemmas.List.{drop-drop, get_or-drop}
use Rattle.keep_spec.specs.Digest.{digest_of}
use Rattle.keep_lists.specs.Answers.{both}
use Rattle.keep_lists.proofs.Locators.{number_at, bare-is, bare-other, bare-short}
use Rattle.keep_lists.proofs.locator.read_locator.Goals as goal

pub returns-then-text-le-DIGEST_DIGITS : goal.returns-then-text-le-DIGEST_DIGITS
returns-then-text-le-DIGEST_DIGITS c = bare-short c.args.text.now (omega arith)

pub returns-then-rest-ne43 : goal.returns-then-rest-ne43
returns-then-rest-ne43 c =
    let text = c.args.text.now in
    bare-other text (λ e. c.if-rest-ne43.true (ap (λ (v : List ℕ). get_or v 0 0) c.split_at.ensures.back ∙ get_or-drop 32 text 0 0 ∙ e))

pub returns : goal.returns
returns c =
    let text = c.args.text.now in
    let plus : slice_index text 32 ≡ 43 = sym (ap (λ (v : List ℕ). get_or v 0 0) c.split_at.ensures.back ∙ get_or-drop 32 text 0 0) ∙ c.if-rest-ne43.false in
    let last = c.after_first.ensures ∙ ap (drop 1) c.split_at.ensures.back ∙ drop-drop 1 32 text in
    c.locator_of.ensures
    ∙ ap (λ o. both o c.read_number.result) (c.read.ensures ∙ ap digest_of c.split_at.ensures.front)
    ∙ ap (both (digest_of (take 32 text))) (c.read_number.ensures ∙ ap number_at last)
    ∙ bare-is text plus
