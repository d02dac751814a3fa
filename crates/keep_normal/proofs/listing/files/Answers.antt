use Rattle.std.proofs.Common.{◌≡◌, ℕ, ◌∙◌, ap, sym, subst, map, List}
use Rattle.std.specs.Prelude.{◌↔◌, All, Contains}
use Rattle.std.specs.List.Sorted.{IsStrictlySortedBy}
use Rattle.keep_manifest.proofs.GoodManifests.{good_is}
use Rattle.keep_normal.specs.Files.{files, file_of, paths_named, parts_named}
use Rattle.keep_normal.specs.Grouped.{byte_order}
use Rattle.keep_normal.specs.Sound.{are_sound}
use Rattle.keep_normal.specs.declared.part.FileParts.{FileParts}
use Rattle.keep_normal.proofs.NormalFiles.{files-ascending}
use Rattle.keep_normal.proofs.FileProperties.{files-paths, files-parts}
use Rattle.keep_normal.proofs.Grouping.{all_values}
use Rattle.keep_normal.proofs.SoundFiles.{pieces_sound}
use Rattle.keep_normal.proofs.listing.files.Goals as goal

pub pieces_of-requires : goal.pieces_of-requires
pieces_of-requires c = good_is c.args.manifest.now c.requires

pub files_from-requires : goal.files_from-requires
files_from-requires c =
    ap (all_values (λ ps. are_sound ps)) c.in_ok-pieces.ensures ∙ pieces_sound c.args.manifest.now (good_is c.args.manifest.now c.requires)

pub returns-clause-files : goal.returns-clause-files
unfolding files
returns-clause-files c = c.in_ok-files_from.ensures ∙ ap (map file_of) c.in_ok-pieces.ensures

pub returns-clause-ascending : goal.returns-clause-ascending
returns-clause-ascending c =
    subst (λ (fs : List FileParts). IsStrictlySortedBy byte_order (map (λ (f : FileParts). f.path) fs)) (sym (returns-clause-files c)) (files-ascending c.args.manifest.now)

pub returns-clause-paths : goal.returns-clause-paths
returns-clause-paths c =
    let m = c.args.manifest.now in
    subst (λ (fs : List FileParts). (path : List ℕ) → Contains (map (λ (f : FileParts). f.path) fs) path ↔ Contains (paths_named m) path) (sym (returns-clause-files c)) (files-paths m)

pub returns-clause-parts : goal.returns-clause-parts
returns-clause-parts c =
    let m = c.args.manifest.now in
    subst (λ (fs : List FileParts). All (λ f. f.parts ≡ parts_named m f.path) fs) (sym (returns-clause-files c)) (files-parts m)
