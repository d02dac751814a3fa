use Rattle.std.proofs.Common.{◌∙◌, ap, take}
use Rattle.keep_normal.specs.Joined.{joined_after}
use Rattle.keep_normal.specs.Normal.{meet, both_spans, span_in, spans}
use Rattle.keep_normal.proofs.JoinedNeighbours.{joined_more}
use Rattle.keep_normal.proofs.SoundParts.{span_joins}
use Rattle.keep_normal.proofs.segments.spans_of.Goals as goal

pub loop-part-preserved : goal.loop-part-preserved
loop-part-preserved c =
    let bs = c.args.blocks.now.locators.items in
    let part = c.part-item.result in
    let i = c.loop-part.part-index in
    c.in_ok-join_span.ensures
    ∙ ap (λ ss. joined_after meet both_spans ss c.span_in.result) c.loop-part.invariant
    ∙ ap (joined_after meet both_spans (spans bs (take i c.args.parts.now))) c.span_in.ensures
    ∙ joined_more meet both_spans span_joins (span_in bs) c.args.parts.now i part c.loop-part-test.true c.part-item.is
