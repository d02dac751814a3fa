use Rattle.std.proofs.Common.{◌≡◌, ℕ, ◌∙◌, ap, sym, subst, Err, map, List}
use Rattle.keep_spec.specs.declared.manifest.Manifest.{Manifest}
use Rattle.keep_spec.specs.declared.manifest.Stream.{Stream}
use Rattle.std.specs.Prelude.{◌↔◌, All, Contains}
use Rattle.std.specs.List.{list_all}
use Rattle.std.specs.List.Sorted.{IsStrictlySortedBy}
use Rattle.std.proofs.lemmas.Result.{err_from_is_err_and}
use Rattle.keep_manifest.proofs.GoodManifests.{good_is}
use Rattle.keep_normal.specs.Outcomes.{ReturnsIf}
use Rattle.keep_normal.specs.Files.{stripped_file, ranges}
use Rattle.keep_normal.specs.Grouped.{byte_order, grouped}
use Rattle.keep_normal.specs.FirstUse.{ListsBlocks}
use Rattle.keep_normal.specs.Normal.{normal, normal_of, is_small, is_small_stream, line_of, by_directory, directory, files_in, uses}
use Rattle.keep_normal.specs.Sound.{are_sound}
use Rattle.keep_normal.proofs.NormalFiles.{ranges-normal, normal-normal}
use Rattle.keep_normal.proofs.FileProperties.{lines-ascending, lines-directories, lines-are, lines-list}
use Rattle.keep_normal.proofs.TooLarge.{fails_with}
use Rattle.keep_normal.proofs.Grouping.{all_values}
use Rattle.keep_normal.proofs.GoodNormalForms.{normal-good}
use Rattle.keep_spec.specs.Manifest.{IsGood}
use Rattle.keep_normal.proofs.SoundFiles.{ranges_sound, directories_sound}
use Rattle.keep_normal.proofs.normal.normalize.Goals as goal

abbrev with_streams : List Stream → Manifest
with_streams ss = record { streams = ss }

pub lines_of-requires : goal.lines_of-requires
lines_of-requires c =
    let m = c.args.manifest.now in
    let files = c.deref.ensures.value ∙ c.in_ok-files.ensures.files in
    let groups = c.in_ok-directories.ensures ∙ ap (λ fs. grouped (by_directory (map stripped_file fs))) files in
    ap (all_values (λ f. are_sound f.parts)) groups ∙ directories_sound (ranges m) (ranges_sound m (good_is m c.requires))

pub returns-in_err-streams-clause-normal_form : goal.returns-in_err-streams-clause-normal_form
unfolding normal_of
returns-in_err-streams-clause-normal_form c =
    let m = c.args.manifest.now in
    let files = c.deref.ensures.value ∙ c.in_ok-files.ensures.files in
    let groups = c.in_ok-directories.ensures ∙ ap (λ fs. grouped (by_directory (map stripped_file fs))) files in
    let p = err_from_is_err_and c.from_residual-in_err-streams.result c.from_residual-in_err-streams.ensures.1 in
    let P = λ (r : _). ReturnsIf r (normal m) (is_small (normal m)) in
    subst P (sym (p.1 ∙ ap Err p.2)) (fails_with c.in_err-streams.field-0.0 _ (is_small (normal m)) c.in_err-streams.ensures
    (λ h. sym (ap (λ gs. list_all is_small_stream (map line_of gs)) groups) ∙ h))

pub returns-clause-normal_form : goal.returns-clause-normal_form
unfolding normal_of
returns-clause-normal_form c =
    let m = c.args.manifest.now in
    let files = c.deref.ensures.value ∙ c.in_ok-files.ensures.files in
    let groups = c.in_ok-directories.ensures ∙ ap (λ fs. grouped (by_directory (map stripped_file fs))) files in
    let streams = c.of.ensures ∙ c.in_ok-streams.ensures.0 ∙ ap (map line_of) groups in
    (ap with_streams streams, sym (ap (λ gs. list_all is_small_stream (map line_of gs)) groups) ∙ c.in_ok-streams.ensures.1)

pub returns-clause-files : goal.returns-clause-files
returns-clause-files c =
    let m = c.args.manifest.now in
    ap ranges (returns-clause-normal_form c).0 ∙ ranges-normal m c.requires

pub returns-clause-own_normal_form : goal.returns-clause-own_normal_form
returns-clause-own_normal_form c =
    let m = c.args.manifest.now in
    ap normal (returns-clause-normal_form c).0 ∙ normal-normal m c.requires ∙ sym (returns-clause-normal_form c).0

pub returns-clause-good : goal.returns-clause-good
returns-clause-good c =
    let m = c.args.manifest.now in
    subst IsGood (sym (returns-clause-normal_form c).0) (normal-good m c.requires (returns-clause-normal_form c).1)

pub returns-clause-ascending : goal.returns-clause-ascending
returns-clause-ascending c =
    subst (λ (n : Manifest). IsStrictlySortedBy byte_order (map (λ (s : Stream). s.name) n.streams)) (sym (returns-clause-normal_form c).0) (lines-ascending (ranges c.args.manifest.now))

pub returns-clause-directories : goal.returns-clause-directories
returns-clause-directories c =
    let fs = ranges c.args.manifest.now in
    subst (λ (n : Manifest). (d : List ℕ) → Contains (map (λ (s : Stream). s.name) n.streams) d ↔ Contains (map directory fs) d) (sym (returns-clause-normal_form c).0) (lines-directories fs)

pub returns-clause-lines : goal.returns-clause-lines
returns-clause-lines c =
    let fs = ranges c.args.manifest.now in
    subst (λ (n : Manifest). All (λ s. s ≡ line_of (s.name, files_in fs s.name)) n.streams) (sym (returns-clause-normal_form c).0) (lines-are fs)

pub returns-clause-blocks : goal.returns-clause-blocks
returns-clause-blocks c =
    let fs = ranges c.args.manifest.now in
    subst (λ (n : Manifest). All (λ s. ListsBlocks (uses (files_in fs s.name)) s.locators) n.streams) (sym (returns-clause-normal_form c).0) (lines-list fs)
