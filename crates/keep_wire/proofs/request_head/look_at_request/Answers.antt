use Rattle.std.proofs.Common.{ℕ, Err, ap, subst, arith, inl, inr, sym, ◌∙◌}
use Rattle.std.proofs.lemmas.Bool.{false≢true}
use Rattle.httparse.specs.declared.Error.{Error}
use Rattle.httparse.specs.Spans.{IsRequestOf, IsRequestWithin, RequestExceeds}
use Rattle.keep_wire.specs.Requests.{request_grammar, request_of}
use Rattle.keep_wire.proofs.Begins.{looked-begun, looked-refused, request_stands}
use Rattle.keep_wire.proofs.HeadLines.{many-lines, waits-few}
use Rattle.keep_wire.proofs.Many.{many-from_lines}
use Rattle.keep_wire.proofs.RequestLines.{requests_lined}
use Rattle.keep_wire.proofs.InTarget.{goes_on-from_unfinished}
use Rattle.keep_wire.proofs.Longer.{never-none}
use Rattle.keep_wire.proofs.request_head.look_at_request.Goals as goal

pub returns-in-Ok : goal.returns-in-Ok
returns-in-Ok c =
    let is : IsRequestOf c.args.bytes.now c.parse_request.new.headers c.in-Ok-Complete.head = rw c.in-Ok-Complete.field-0-is at c.in-Ok-Complete.ensures.complete in
    let within : IsRequestWithin c.args.bytes.now c.parse_request.new.headers c.in-Ok-Complete.head = rw c.in-Ok-Complete.field-0-is at c.in-Ok-Complete.ensures.within in
    looked-begun request_grammar request_of c.args.bytes.now is.0 c.in-Ok-Complete.head.len c.in-Ok.begun (request_stands c.args.bytes.now c.parse_request.new.headers c.in-Ok-Complete.head is.0 c.requires.short (omega (arith, c.parse_request.auto.headers, c.requires.room)) within is.1) (c.in-Ok.ensures is.0 is.1)

pub returns-in-Err-begin_request : goal.returns-in-Err-begin_request
returns-in-Err-begin_request c =
    let is : IsRequestOf c.args.bytes.now c.parse_request.new.headers c.in-Ok-Complete.head = rw c.in-Ok-Complete.field-0-is at c.in-Ok-Complete.ensures.complete in
    let within : IsRequestWithin c.args.bytes.now c.parse_request.new.headers c.in-Ok-Complete.head = rw c.in-Ok-Complete.field-0-is at c.in-Ok-Complete.ensures.within in
    looked-refused request_grammar request_of c.args.bytes.now is.0 c.in-Ok-Complete.head.len c.in-Err-begin_request.error (request_stands c.args.bytes.now c.parse_request.new.headers c.in-Ok-Complete.head is.0 c.requires.short (omega (arith, c.parse_request.auto.headers, c.requires.room)) within is.1) (c.in-Err-begin_request.ensures is.0 is.1)

pub returns-then-count_lines : goal.returns-then-count_lines
returns-then-count_lines c =
    let partial = rw c.in-Ok-Partial.field-0-is at c.in-Ok-Partial.ensures.partial in
    let unfinished = rw c.in-Ok-Partial.field-0-is at c.in-Ok-Partial.ensures.unfinished in
    inr (inl (many-from_lines request_grammar requests_lined c.args.bytes.now partial (goes_on-from_unfinished c.args.bytes.now unfinished) (omega (arith, c.if-count_lines.true, c.count_lines.ensures))))

pub returns-else-count_lines : goal.returns-else-count_lines
returns-else-count_lines c =
    let partial = rw c.in-Ok-Partial.field-0-is at c.in-Ok-Partial.ensures.partial in
    let unfinished = rw c.in-Ok-Partial.field-0-is at c.in-Ok-Partial.ensures.unfinished in (
      c.requires.short,
      record {
        none = partial;
        few = λ many. let m = many-lines request_grammar requests_lined c.args.bytes.now many in absurd (omega (arith, m, c.if-count_lines.false, c.count_lines.ensures));
        goes_on = goes_on-from_unfinished c.args.bytes.now unfinished;
      },
    )

pub returns-in-TooManyHeaders : goal.returns-in-TooManyHeaders
returns-in-TooManyHeaders c = inr (inl (subst (λ (n : ℕ). RequestExceeds n c.args.bytes.now) c.requires.room (c.in-Err.ensures.too_many (ap (λ (e : Error). Err e) c.in-TooManyHeaders.is))))

pub returns-then-ends_within_target : goal.returns-then-ends_within_target
returns-then-ends_within_target c =
    let within = c.ends_within_target.ensures.0 c.if-ends_within_target.true in
    let never = c.in-Err.ensures.invalid c.in_default.not-TooManyHeaders in
    (c.requires.short, record { none = never-none request_grammar c.args.bytes.now never; few = waits-few request_grammar requests_lined c.args.bytes.now within; goes_on = inl within })

pub returns-else-ends_within_target : goal.returns-else-ends_within_target
returns-else-ends_within_target c =
    let never = c.in-Err.ensures.invalid c.in_default.not-TooManyHeaders in
    inl (λ within. false≢true (sym c.if-ends_within_target.false ∙ c.ends_within_target.ensures.1 within), never)
