use Rattle.std.proofs.Common.{sym, ap, ◌∙◌}
use Rattle.std.proofs.lemmas.List.{take_rest}
use Rattle.std.specs.Option.{option_map}
use Rattle.keep_locator.proofs.ParserStates.{placed, is_final}
use Rattle.keep_locator.proofs.ParsedPrefix.{refused_answer, refused_longest, reads-front, reads-behind, reads-hints, refused-digits, refused-plus, refused-size, refused-step, refused-whole, accepted-end, accepted_answer, final-place, kept}
use Rattle.keep_locator.proofs.locator.Locator.read.Goals as goal

pub returns-then-digits-lt-DIGEST_DIGITS : goal.returns-then-digits-lt-DIGEST_DIGITS
returns-then-digits-lt-DIGEST_DIGITS c =
    let text = c.args.text.now in
    let is = refused-digits text c.digest_prefix_len-digits.result c.digest_prefix_len-digits.ensures c.if-digits-lt-DIGEST_DIGITS.true in
    record { parsed = refused_answer text _ is; longest = refused_longest text _ is }

pub returns-then-not-is_plus_at : goal.returns-then-not-is_plus_at
returns-then-not-is_plus_at c =
    let text = c.args.text.now in
    let is = refused-plus text (reads-front text _ c.if-digits-lt-DIGEST_DIGITS.false c.digest_prefix_len-digits.ensures) (sym c.is_plus_at.ensures ∙ c.if-not-is_plus_at.true) in
    record { parsed = refused_answer text 32 is; longest = refused_longest text 32 is }

pub returns-then-front-eq0 : goal.returns-then-front-eq0
returns-then-front-eq0 c =
    let text = c.args.text.now in
    let read = reads-behind text _ c.if-digits-lt-DIGEST_DIGITS.false c.digest_prefix_len-digits.ensures (sym c.is_plus_at.ensures ∙ c.if-not-is_plus_at.false) in
    let is = refused-size text (sym c.if-front-eq0.true ∙ (rw (take_rest text 33) at c.number_prefix-front.ensures.digits)) read in
    record { parsed = refused_answer text 33 is; longest = refused_longest text 33 is }

pub loop-at-init : goal.loop-at-init
loop-at-init c =
    let text = c.args.text.now in
    reads-hints text _ _ c.if-digits-lt-DIGEST_DIGITS.false c.digest_prefix_len-digits.ensures (sym c.is_plus_at.ensures ∙ c.if-not-is_plus_at.false) c.if-front-eq0.false
    (rw (take_rest text 33) at c.number_prefix-front.ensures.digits)

pub returns-in_default : goal.returns-in_default
returns-in_default c =
    let text = c.args.text.now in
    let stop = ap (option_map placed) (sym c.after.ensures ∙ c.in_default.is) in
    let is = refused-step text (placed c.loop-at.state) c.loop-at.at c.loop-at.invariant c.loop-at-test.true stop in
    record { parsed = refused_answer text _ is; longest = refused_longest text _ is }

pub returns-in-AfterPlus : goal.returns-in-AfterPlus
returns-in-AfterPlus c =
    let text = c.args.text.now in
    let is = refused-whole text (placed c.loop-at.state) c.loop-at.at c.loop-at.invariant c.loop-at-test.false (ap (λ p. is_final (placed p)) c.in-AfterPlus.is) in
    record { parsed = refused_answer text _ is; longest = refused_longest text _ is }

pub invariant_of-result : goal.invariant_of-result
invariant_of-result c =
    let text = c.args.text.now in
    let whole = accepted-end text (placed c.loop-at.state) c.loop-at.at c.loop-at.invariant c.loop-at-test.false (final-place c.loop-at.state c.in_default-state.not-AfterPlus) in
    kept text c.number_prefix-front.result.digits c.number_prefix-front.result.value whole
    (rw (take_rest text 33) at c.number_prefix-front.ensures.digits) (rw (take_rest text 33) at c.number_prefix-front.ensures.value)

pub returns : goal.returns
returns c =
    let text = c.args.text.now in
    let whole = accepted-end text (placed c.loop-at.state) c.loop-at.at c.loop-at.invariant c.loop-at-test.false (final-place c.loop-at.state c.in_default-state.not-AfterPlus) in
    record { parsed = accepted_answer text whole; longest = tt }
