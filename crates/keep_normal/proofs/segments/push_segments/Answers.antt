use Rattle.std.proofs.Common.{◌++◌, ◌∙◌, ap, sym, subst, Err, map}
use Rattle.std.specs.List.{list_all}
use Rattle.std.proofs.lemmas.Result.{err_from_is_err_and}
use Rattle.std.proofs.lemmas.List.Folds.{list_all_at, list_all-map}
use Rattle.keep_normal.specs.Outcomes.{LeavesIf}
use Rattle.keep_normal.specs.Normal.{segment_of, is_small_segment}
use Rattle.keep_normal.proofs.TooLarge.{fails_with}
use Rattle.keep_normal.proofs.segments.push_segments.Goals as goal

pub returns-in_err-segment_of : goal.returns-in_err-segment_of
returns-in_err-segment_of c =
    let p = err_from_is_err_and c.from_residual.result c.from_residual.ensures.1 in
    let name = c.args.name.now in
    let all = map (segment_of name) c.args.spans.now in
    let P = λ (r : _). LeavesIf r c.loop-span.segments.items (c.args.segments.now.items ++ all) (list_all is_small_segment all) in
    subst P (sym (p.1 ∙ ap Err p.2)) (fails_with c.in_err-segment_of.field-0.0 _ (list_all is_small_segment all) c.in_err-segment_of.ensures
    (λ h. list_all-map is_small_segment (segment_of name) c.args.spans.now ∙ list_all_at (λ s. is_small_segment (segment_of name s)) c.args.spans.now c.loop-span.span-index _ c.loop-span-test.true h))
