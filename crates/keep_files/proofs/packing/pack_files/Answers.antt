use Rattle.std.proofs.Common.{◌≡◌, ◌∙◌, ℕ, List, [], sym, ap, subst, arith, length, map, Some, option_map}
use Rattle.std.specs.List.{list_all}
use Rattle.keep_spec.specs.Manifest.{IsGood, text_of}
use Rattle.keep_spec.specs.declared.manifest.Manifest.{Manifest}
use Rattle.keep_spec.specs.declared.manifest.Stream.{Stream}
use Rattle.keep_normal.specs.Normal.{normal}
use Rattle.keep_files.specs.Layout.{directories, laid_out, blocks_of}
use Rattle.keep_files.specs.Places.{group_at, are_within}
use Rattle.keep_files.specs.Stored.{stored_in, unpacking}
use Rattle.keep_files.specs.declared.file.Packed.{Packed}
use Rattle.keep_files.proofs.AscendingFiles.{found_there}
use Rattle.keep_files.proofs.FilePlaces.{paths_good}
use Rattle.keep_files.proofs.LaidOutFiles.{ascending-keyed, laid-good}
use Rattle.keep_files.proofs.Packings.{directories_at, lines_at, pieces_at, small_at, within_at, text_unpacked}
use Rattle.keep_files.proofs.packing.pack_files.Goals as goal

abbrev with_streams : List Stream → Manifest
with_streams ss = record { streams = ss }

abbrev with_parts : List (List ℕ) → List ℕ → Packed
with_parts blocks text = record { blocks = blocks; text = text }

pub lay_out-requires-clause-within : goal.lay_out-requires-clause-within
lay_out-requires-clause-within c =
    let n = length c.args.files.now in
    ap (list_all (λ (g : List ℕ × List ℕ). are_within n g.1)) c.in_ok-directories.ensures ∙ within_at n c.in_ok-places.places.entries c.in_ok-places.ensures.2

pub normalize-requires : goal.normalize-requires
normalize-requires c =
    let fs = c.args.files.now in
    let n = c.args.block_size in
    let dirs = c.in_ok-directories.directories.entries in
    let paths = paths_good [] fs c.in_ok-places.ensures.0 in
    let are : map (group_at fs) dirs ≡ directories fs =
    ap (map (group_at fs)) c.in_ok-directories.ensures ∙ directories_at fs c.in_ok-places.places.entries c.in_ok-places.ensures.1 (ascending-keyed fs paths) in
    let laid : with_streams c.of.result ≡ laid_out n fs = ap with_streams (c.of.ensures ∙ c.in_ok-blocks.ensures.streams ∙ lines_at n fs dirs are) in
    subst IsGood (sym laid) (laid-good n fs (omega (arith, c.requires.least)) (omega (arith, c.requires.most)) paths (small_at fs dirs are c.in_ok-blocks.ensures.small))

pub returns-clause-packed : goal.returns-clause-packed
returns-clause-packed c =
    let fs = c.args.files.now in
    let n = c.args.block_size in
    let dirs = c.in_ok-directories.directories.entries in
    let paths = paths_good [] fs c.in_ok-places.ensures.0 in
    let are : map (group_at fs) dirs ≡ directories fs =
    ap (map (group_at fs)) c.in_ok-directories.ensures ∙ directories_at fs c.in_ok-places.places.entries c.in_ok-places.ensures.1 (ascending-keyed fs paths) in
    let laid : with_streams c.of.result ≡ laid_out n fs = ap with_streams (c.of.ensures ∙ c.in_ok-blocks.ensures.streams ∙ lines_at n fs dirs are) in
    let blocks : c.of-2.result ≡ blocks_of n fs = c.of-2.ensures ∙ c.in_ok-blocks.ensures.blocks ∙ pieces_at n fs dirs are in
    let text : c.in_ok-text.text ≡ text_of (normal (laid_out n fs)) = c.in_ok-text.ensures.written ∙ ap text_of (c.in_ok-normal.ensures.normal_form.0 ∙ ap normal laid) in
    (c.in_ok-places.ensures.0, ap (λ b. with_parts b c.in_ok-text.text) blocks ∙ ap (with_parts (blocks_of n fs)) text)

pub returns-clause-unpacked : goal.returns-clause-unpacked
returns-clause-unpacked c =
    let fs = c.args.files.now in
    let n = c.args.block_size in
    let dirs = c.in_ok-directories.directories.entries in
    let paths = paths_good [] fs c.in_ok-places.ensures.0 in
    let are : map (group_at fs) dirs ≡ directories fs =
    ap (map (group_at fs)) c.in_ok-directories.ensures ∙ directories_at fs c.in_ok-places.places.entries c.in_ok-places.ensures.1 (ascending-keyed fs paths) in
    let laid : with_streams c.of.result ≡ laid_out n fs = ap with_streams (c.of.ensures ∙ c.in_ok-blocks.ensures.streams ∙ lines_at n fs dirs are) in
    let good = laid-good n fs (omega (arith, c.requires.least)) (omega (arith, c.requires.most)) paths (small_at fs dirs are c.in_ok-blocks.ensures.small) in
    let blocks : c.of-2.result ≡ blocks_of n fs = c.of-2.ensures ∙ c.in_ok-blocks.ensures.blocks ∙ pieces_at n fs dirs are in
    let is : c.in_ok-normal.normal ≡ normal (laid_out n fs) = c.in_ok-normal.ensures.normal_form.0 ∙ ap normal laid in
    λ stored held.
    ap (option_map (λ m. unpacking m stored)) c.in_ok-text.ensures.read_again
    ∙ ap Some (text_unpacked stored n fs c.of-2.result c.in_ok-normal.normal (omega (arith, c.requires.least)) (omega (arith, c.requires.most)) paths good blocks held is)

pub returns-clause-unpacked_alone : goal.returns-clause-unpacked_alone
returns-clause-unpacked_alone c = λ own. returns-clause-unpacked c (stored_in c.of-2.result) (found_there c.of-2.result own)
