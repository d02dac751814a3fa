use Rattle.std.proofs.Common.{ℕ, Err, ap, subst, arith, inl, inr}
use Rattle.httparse.specs.declared.Error.{Error}
use Rattle.httparse.specs.Spans.{IsResponseOf, IsResponseWithin, ResponseExceeds}
use Rattle.keep_wire.specs.Replies.{response_grammar, response_of}
use Rattle.keep_wire.proofs.Begins.{looked-begun, looked-refused, response_stands}
use Rattle.keep_wire.proofs.HeadLines.{many-lines}
use Rattle.keep_wire.proofs.Many.{many-from_lines}
use Rattle.keep_wire.proofs.ResponseLines.{responses_lined}
use Rattle.keep_wire.proofs.response_head.look_at_response.Goals as goal

pub returns-in-Ok : goal.returns-in-Ok
returns-in-Ok c =
    let is : IsResponseOf c.args.bytes.now c.parse_response.new.headers c.in-Ok-Complete.head = rw c.in-Ok-Complete.field-0-is at c.in-Ok-Complete.ensures.complete in
    let within : IsResponseWithin c.args.bytes.now c.parse_response.new.headers c.in-Ok-Complete.head = rw c.in-Ok-Complete.field-0-is at c.in-Ok-Complete.ensures.within in
    looked-begun response_grammar response_of c.args.bytes.now is.0 c.in-Ok-Complete.head.len c.in-Ok.begun (response_stands c.args.bytes.now c.parse_response.new.headers c.in-Ok-Complete.head is.0 c.requires.short (omega (arith, c.parse_response.auto.headers, c.requires.room)) within is.1) (c.in-Ok.ensures is.0 is.1)

pub returns-in-Err-begin_response : goal.returns-in-Err-begin_response
returns-in-Err-begin_response c =
    let is : IsResponseOf c.args.bytes.now c.parse_response.new.headers c.in-Ok-Complete.head = rw c.in-Ok-Complete.field-0-is at c.in-Ok-Complete.ensures.complete in
    let within : IsResponseWithin c.args.bytes.now c.parse_response.new.headers c.in-Ok-Complete.head = rw c.in-Ok-Complete.field-0-is at c.in-Ok-Complete.ensures.within in
    looked-refused response_grammar response_of c.args.bytes.now is.0 c.in-Ok-Complete.head.len c.in-Err-begin_response.error (response_stands c.args.bytes.now c.parse_response.new.headers c.in-Ok-Complete.head is.0 c.requires.short (omega (arith, c.parse_response.auto.headers, c.requires.room)) within is.1) (c.in-Err-begin_response.ensures is.0 is.1)

pub returns-then-count_lines : goal.returns-then-count_lines
returns-then-count_lines c =
    let partial = rw c.in-Ok-Partial.field-0-is at c.in-Ok-Partial.ensures.partial in
    let unfinished = rw c.in-Ok-Partial.field-0-is at c.in-Ok-Partial.ensures.unfinished in
    inr (inl (many-from_lines response_grammar responses_lined c.args.bytes.now partial (inr unfinished) (omega (arith, c.if-count_lines.true, c.count_lines.ensures))))

pub returns-else-count_lines : goal.returns-else-count_lines
returns-else-count_lines c =
    let partial = rw c.in-Ok-Partial.field-0-is at c.in-Ok-Partial.ensures.partial in
    let unfinished = rw c.in-Ok-Partial.field-0-is at c.in-Ok-Partial.ensures.unfinished in (
      c.requires.short,
      record {
        none = partial;
        few = λ many. let m = many-lines response_grammar responses_lined c.args.bytes.now many in absurd (omega (arith, m, c.if-count_lines.false, c.count_lines.ensures));
        goes_on = inr unfinished;
      },
    )

pub returns-in-TooManyHeaders : goal.returns-in-TooManyHeaders
returns-in-TooManyHeaders c = inr (inl (subst (λ (n : ℕ). ResponseExceeds n c.args.bytes.now) c.requires.room (c.in-Err.ensures.too_many (ap (λ (e : Error). Err e) c.in-TooManyHeaders.is))))

pub returns-in_default : goal.returns-in_default
returns-in_default c = inl (λ within. within, c.in-Err.ensures.invalid c.in_default.not-TooManyHeaders)
