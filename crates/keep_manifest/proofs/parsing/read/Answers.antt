use Rattle.std.proofs.Common.{◌∙◌, ap, Err}
use Rattle.std.proofs.lemmas.Result.{err_from_is_err_and}
use Rattle.keep_manifest.proofs.Agreement.{text_read, text_bad, refused_or_read}
use Rattle.keep_manifest.proofs.TextLines.{text_refused}
use Rattle.keep_manifest.proofs.parsing.read.Goals as goal

pub returns-in_err-streams-clause-refusal : goal.returns-in_err-streams-clause-refusal
returns-in_err-streams-clause-refusal c =
    let p = err_from_is_err_and c.from_residual.result c.from_residual.ensures.1 in
    text_refused c.in_err-streams.field-0.0 _ _ c.args.text.now c.in_err-streams.ensures (p.1 ∙ ap Err p.2) (text_bad c.args.text.now)

pub returns-in_err-streams-clause-refused_or_manifest : goal.returns-in_err-streams-clause-refused_or_manifest
returns-in_err-streams-clause-refused_or_manifest c = refused_or_read c.args.text.now

pub returns-clause-manifest : goal.returns-clause-manifest
returns-clause-manifest c = text_read c.args.text.now c.in_ok-streams.streams c.in_ok-streams.ensures

pub returns-clause-refused_or_manifest : goal.returns-clause-refused_or_manifest
returns-clause-refused_or_manifest c = refused_or_read c.args.text.now
