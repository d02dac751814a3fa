use Rattle.std.proofs.Common.{◌≡◌, ◌∙◌, ℕ, true, List, ap, sym, subst, Err, arith}
use Rattle.std.specs.BTreeMap.{get}
use Rattle.std.specs.List.{list_all}
use Rattle.std.proofs.lemmas.Result.{err_from_is_err_and}
use Rattle.keep_manifest.proofs.GoodManifests.{good_is}
use Rattle.keep_normal.specs.Grouped.{byte_order}
use Rattle.keep_normal.specs.Sound.{are_sound}
use Rattle.keep_normal.specs.declared.part.FileParts.{FileParts}
use Rattle.keep_normal.proofs.BlockPlaces.{all_read}
use Rattle.keep_normal.proofs.SoundFiles.{files_sound}
use Rattle.keep_files.specs.Stored.{Collects, files_of, unpacking}
use Rattle.keep_files.proofs.ReadOn.{files-more, files-fail, files-done, passed_on}
use Rattle.keep_files.proofs.unpacking.unpack.Goals as goal

pub file_of-requires : goal.file_of-requires
file_of-requires c =
    let m = c.args.manifest.now in
    let is = c.as_slice-file-items.ensures.value ∙ c.in_ok-found.ensures.files in
    let sound : list_all (λ (f : FileParts). are_sound f.parts) c.as_slice-file-items.result.now ≡ true = ap (list_all (λ (f : FileParts). are_sound f.parts)) is ∙ files_sound m (good_is m c.requires) in
    all_read (λ (f : FileParts). are_sound f.parts) c.as_slice-file-items.result.now c.loop-file.file-index c.file-item.result sound (omega (arith, c.loop-file-test.true)) c.file-item.is

pub returns-in_err-file_of : goal.returns-in_err-file_of
returns-in_err-file_of c =
    let stored = λ (d : List ℕ). get byte_order c.args.blocks.now d in
    let m = c.args.manifest.now in
    let fs = c.as_slice-file-items.result.now in
    let is = c.as_slice-file-items.ensures.value ∙ c.in_ok-found.ensures.files in
    let p = err_from_is_err_and c.from_residual-in_err-file_of.result c.from_residual-in_err-file_of.ensures.1 in
    subst (λ (r : _). Collects r (unpacking m stored)) (sym (p.1 ∙ ap Err p.2))
    (passed_on c.in_err-file_of.field-0.0 _ (unpacking m stored) c.in_err-file_of.ensures
    (λ e read. ap (files_of stored) (sym is) ∙ files-fail stored fs c.loop-file.file-index _ (files_of stored fs) c.loop-file.unpacked.items e (omega (arith, c.loop-file-test.true)) c.file-item.is c.loop-file.invariant read))

pub loop-file-preserved : goal.loop-file-preserved
loop-file-preserved c =
    let stored = λ (d : List ℕ). get byte_order c.args.blocks.now d in
    let fs = c.as_slice-file-items.result.now in
    files-more stored fs c.loop-file.file-index _ (files_of stored fs) c.loop-file.unpacked.items _ _ (omega (arith, c.loop-file-test.true)) c.file-item.is c.loop-file.invariant c.in_ok-file_of.ensures c.in_ok-push.ensures.items

pub returns : goal.returns
returns c =
    let stored = λ (d : List ℕ). get byte_order c.args.blocks.now d in
    let fs = c.as_slice-file-items.result.now in
    let is = c.as_slice-file-items.ensures.value ∙ c.in_ok-found.ensures.files in
    ap (files_of stored) (sym is) ∙ files-done stored fs c.loop-file.file-index (files_of stored fs) c.loop-file.unpacked.items (omega (arith, c.loop-file-test.false)) c.loop-file.invariant
