use Rattle.std.proofs.Common.{◌≡◌, ◌+◌, ◌-◌, length, true, false, Err, ap, sym, ◌∙◌, arith}
use Rattle.std.proofs.lemmas.Result.{err_from_is_err_and}
use Rattle.keep_spec.specs.Names.{decode, is_stream_name}
use Rattle.keep_manifest.specs.Builder.{parts_of}
use Rattle.keep_manifest.proofs.LineTokens.{left, left_behind, step_more, step_fail, step_end, line_named, line_unnamed, line_refused, line_stops, line_ends}
use Rattle.keep_manifest.proofs.line.parse_line.Goals as goal

pub returns-then-not-is_stream_name : goal.returns-then-not-is_stream_name
returns-then-not-is_stream_name c =
    let unnamed : is_stream_name (decode c.first_token.result.0.now) ≡ false =
    ap is_stream_name (sym (c.as_slice.ensures ∙ c.in_ok-name.ensures)) ∙ sym c.is_stream_name.ensures ∙ c.if-not-is_stream_name.true in
    rw c.refused.ensures (line_unnamed c.args.at c.args.line.now _ _ c.first_token.ensures.tokens unnamed)

pub returns-in_err-push_token : goal.returns-in_err-push_token
returns-in_err-push_token c =
    let p = err_from_is_err_and c.from_residual-in_err-push_token.result c.from_residual-in_err-push_token.ensures.1 in
    let named : is_stream_name (decode c.first_token.result.0.now) ≡ true =
    ap is_stream_name (sym (c.as_slice.ensures ∙ c.in_ok-name.ensures)) ∙ sym c.is_stream_name.ensures ∙ c.if-not-is_stream_name.false in
    let long = left_behind c.first_token.result.1 c.first_token.result.0.now c.args.line.now c.first_token.ensures.length in
    let line = line_named c.args.at (c.args.at + length c.args.line.now + 1 - left c.first_token.result.1) c.args.line.now _ _ _ c.first_token.ensures.tokens named (omega (arith, long)) c.loop-rest.invariant.1 in
    line_refused c.in_err-push_token.field-0.0 _ _ _ _ c.in_err-push_token.ensures (p.1 ∙ ap Err p.2)
    (λ f e. line_stops _ _ _ _ f line (step_fail (c.args.at + length c.args.line.now) c.loop-rest.rest c.in-Some.tokens c.first_token-in-Some.result.0.now c.first_token-in-Some.result.1 (parts_of c.loop-rest.builder) f c.in-Some.is c.first_token-in-Some.ensures.tokens e))

pub loop-rest-preserved : goal.loop-rest-preserved
loop-rest-preserved c =
    let text = c.in-Some.tokens.now in
    let long = left_behind c.first_token-in-Some.result.1 c.first_token-in-Some.result.0.now text c.first_token-in-Some.ensures.length in
    let fits = ap left c.in-Some.is in
    (omega (arith, long, fits, c.loop-rest.invariant.0), step_more (c.args.at + length c.args.line.now) c.loop-rest.rest c.in-Some.tokens _ c.first_token-in-Some.result.1 _ _ c.in-Some.is c.loop-rest.invariant.0 c.first_token-in-Some.ensures.tokens long c.in_ok-push_token.ensures ∙ c.loop-rest.invariant.1)

pub returns : goal.returns
returns c =
    let named : is_stream_name (decode c.first_token.result.0.now) ≡ true =
    ap is_stream_name (sym (c.as_slice.ensures ∙ c.in_ok-name.ensures)) ∙ sym c.is_stream_name.ensures ∙ c.if-not-is_stream_name.false in
    let long = left_behind c.first_token.result.1 c.first_token.result.0.now c.args.line.now c.first_token.ensures.length in
    let line = line_named c.args.at (c.args.at + length c.args.line.now + 1 - left c.first_token.result.1) c.args.line.now _ _ _ c.first_token.ensures.tokens named (omega (arith, long)) c.loop-rest.invariant.1 in
    let all = line_ends _ _ _ _ _ line (step_end _ c.loop-rest.rest _ c.in_default.is) in
    rw (all, ← c.in_ok-name.ensures) c.finish.ensures
