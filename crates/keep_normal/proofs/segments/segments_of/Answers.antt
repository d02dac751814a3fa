use Rattle.std.proofs.Common.{◌∙◌, ap, sym, subst, Err}
use Rattle.std.specs.List.{list_all, flat_map}
use Rattle.std.proofs.lemmas.Result.{err_from_is_err_and}
use Rattle.std.proofs.lemmas.List.Folds.{list_all_at}
use Rattle.keep_normal.specs.Outcomes.{CollectsIf}
use Rattle.keep_normal.specs.Normal.{file_segments, is_small_segment}
use Rattle.keep_normal.proofs.TooLarge.{fails_with, list_all-flat_map}
use Rattle.keep_normal.proofs.segments.segments_of.Goals as goal

pub returns-in_err-push_file : goal.returns-in_err-push_file
returns-in_err-push_file c =
    let p = err_from_is_err_and c.from_residual.result c.from_residual.ensures.1 in
    let f = file_segments c.args.blocks.now.locators.items in
    let all = flat_map f c.args.files.now in
    let P = λ (r : _). CollectsIf r all (list_all is_small_segment all) in
    subst P (sym (p.1 ∙ ap Err p.2)) (fails_with c.in_err-push_file.field-0.0 _ (list_all is_small_segment all) c.in_err-push_file.ensures
    (λ h. list_all-flat_map is_small_segment f c.args.files.now
    ∙ list_all_at (λ x. list_all is_small_segment (f x)) c.args.files.now c.loop-file.file-index c.file-item.result c.loop-file-test.true (ap (λ x. list_all is_small_segment (f x)) (sym c.file-item.is) ∙ h)))
