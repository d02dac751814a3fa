use Rattle.std.proofs.Common.{◌≡◌, ◌-◌, length, eqb, false, ◌∙◌, ap, sym, Ok, Err, arith}
use Rattle.std.proofs.lemmas.Result.{err_from_is_err_and}
use Rattle.std.proofs.lemmas.Bool.Decides.{nat_tests}
use Rattle.keep_manifest.proofs.SplitText.{length_found}
use Rattle.keep_manifest.proofs.TextLines.{line_read, line_refused, text_ends, unfinished_refused, unfinished, streams_refused}
use Rattle.keep_manifest.proofs.parsing.parse_streams.Goals as goal

pub returns-in_err-stream : goal.returns-in_err-stream
returns-in_err-stream c =
    let p = err_from_is_err_and c.from_residual.result c.from_residual.ensures.1 in
    streams_refused c.in_err-stream.field-0.0 _ _ _ c.in_err-stream.ensures (p.1 ∙ ap Err p.2)
    (λ f e. sym c.loop-line.invariant.1 ∙ line_refused _ c.loop-line.streams.items c.loop-line.rest.now c.in-Some.line.now c.in-Some.after.now f (sym c.in-Some.ensures) e)

pub loop-line-smaller : goal.loop-line-smaller
loop-line-smaller c =
    let long = length_found 10 c.loop-line.rest.now (c.in-Some.line.now, c.in-Some.after.now) (sym c.in-Some.ensures) in
    omega (arith, long)

pub loop-line-preserved : goal.loop-line-preserved
loop-line-preserved c =
    let long = length_found 10 c.loop-line.rest.now (c.in-Some.line.now, c.in-Some.after.now) (sym c.in-Some.ensures) in
    let read = line_read (length c.args.text.now) c.loop-line.streams.items c.loop-line.rest.now c.in-Some.line.now c.in-Some.after.now c.in_ok-stream.stream (sym c.in-Some.ensures) c.loop-line.invariant.0 c.in_ok-stream.ensures in
    (omega (arith, long, c.loop-line.invariant.0), rw c.in_ok-push.ensures.items (read ∙ c.loop-line.invariant.1))

pub returns-then-is_empty : goal.returns-then-is_empty
returns-then-is_empty c =
    let empty : length c.loop-line.rest.now ≡ 0 = grind (arith, nat_tests) in
    sym c.loop-line.invariant.1 ∙ text_ends _ _ c.loop-line.rest.now empty ∙ ap Ok (sym c.of.ensures)

pub returns-in_err-_unfinished : goal.returns-in_err-_unfinished
returns-in_err-_unfinished c =
    let p = err_from_is_err_and c.from_residual-in_err-_unfinished.result c.from_residual-in_err-_unfinished.ensures.1 in
    let some : eqb (length c.loop-line.rest.now) 0 ≡ false = cc in
    streams_refused c.in_err-_unfinished.field-0.0 _ _ _ c.in_err-_unfinished.ensures (p.1 ∙ ap Err p.2)
    (λ f e. sym c.loop-line.invariant.1 ∙ unfinished_refused _ c.loop-line.streams.items c.loop-line.rest.now f (sym c.in_default.ensures) some e)

pub returns : goal.returns
returns c =
    let some : eqb (length c.loop-line.rest.now) 0 ≡ false = cc in
    let fits = c.loop-line.invariant.0 in
    rw c.refused.ensures (sym c.loop-line.invariant.1 ∙ unfinished (length c.args.text.now - length c.loop-line.rest.now) (length c.args.text.now) c.loop-line.streams.items c.loop-line.rest.now c.in_ok-_unfinished._unfinished (sym c.in_default.ensures) some c.in_ok-_unfinished.ensures (omega (arith, fits)))
