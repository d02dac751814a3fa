use Rattle.std.proofs.Common.{◌∙◌, ap, sym, subst, Err, map, length, ℕ, List}
use Rattle.keep_normal.specs.declared.part.FileParts.{FileParts}
use Rattle.std.specs.List.{list_all}
use Rattle.std.proofs.lemmas.Result.{err_from_is_err_and}
use Rattle.std.proofs.lemmas.List.Folds.{list_all_at, list_all-map}
use Rattle.std.proofs.lemmas.Map.Iter.{iter_turn}
use Rattle.std.proofs.lemmas.Option.{get_or_from_slice_get}
use Rattle.keep_normal.specs.Outcomes.{CollectsIf}
use Rattle.keep_normal.specs.Normal.{line_of, is_small_stream}
use Rattle.keep_normal.proofs.TooLarge.{fails_with}
use Rattle.keep_normal.proofs.normal.lines_of.Goals as goal

pub returns-in_err-line_of : goal.returns-in_err-line_of
returns-in_err-line_of c =
    let p = err_from_is_err_and c.from_residual.result c.from_residual.ensures.1 in
    let entries = c.args.directories.entries in
    let all = map line_of entries in
    let item : List ℕ × List FileParts = (c.in-Some.name, c.in-Some.files) in
    let at = iter_turn (λ e. e) entries c.loop-name.yielded c.into_iter-name-iterator.result c.loop-name.name-iterator c.next.new.self c.next.result
    c.into_iter-name-iterator.ensures.into_iter_gives.0 c.loop-name.yielded_by item c.in-Some.is c.next.ensures.steps in
    let P = λ (r : _). CollectsIf r all (list_all is_small_stream all) in
    subst P (sym (p.1 ∙ ap Err p.2)) (fails_with c.in_err-line_of.field-0.0 _ (list_all is_small_stream all) c.in_err-line_of.ensures
    (λ h. list_all-map is_small_stream line_of entries
    ∙ list_all_at (λ g. is_small_stream (line_of g)) entries (length c.loop-name.yielded) item at.0 (ap (λ g. is_small_stream (line_of g)) (get_or_from_slice_get entries (length c.loop-name.yielded) item item at.1) ∙ h)))
