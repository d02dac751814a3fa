-- What packing makes of the places of files: the directories, the lines, the blocks; and that the text is unpacked to the files.
-- Laws: `directories_at`, `lines_at`, `pieces_at`, `small_at`, `within_at`, `text_unpacked`.
use Rattle.std.proofs.Common.{◌≡◌, ℕ, ◌<◌, ◌^◌, true, ltb, List, [], ◌∷◌, map, Option, Some, Ok, refl, ap, sym, subst, ◌∙◌}
use Rattle.std.specs.Prelude.{All}
use Rattle.std.specs.List.{list_all, flat_map}
use Rattle.std.proofs.lemmas.List.Elements.{recursion_from_All}
use Rattle.std.proofs.lemmas.List.Folds.{list_all-map, flat_map-map}
use Rattle.md5.specs.Md5.{md5}
use Rattle.keep_spec.specs.Names.{is_path}
use Rattle.keep_spec.specs.Manifest.{IsGood}
use Rattle.keep_spec.specs.declared.manifest.Manifest.{Manifest}
use Rattle.keep_normal.specs.Grouped.{grouped}
use Rattle.keep_normal.specs.Normal.{normal}
use Rattle.keep_normal.proofs.Grouping.{grouped-all}
use Rattle.keep_files.specs.Layout.{directory_of, by_path, ascending, directories, pieces_of, line_of, laid_out, distinct, blocks_of}
use Rattle.keep_files.specs.Places.{file_at, entry_at, group_at, are_within, places_by_directory}
use Rattle.keep_files.specs.Stored.{unpacking}
use Rattle.keep_files.specs.declared.file.FileIn.{FileIn}
use Rattle.keep_files.proofs.KnownBlocks.{held-distinct}
use Rattle.keep_files.proofs.LaidOutFiles.{is_small_group, laid-unpacked, normal-unpacked}
use Rattle.keep_files.proofs.Regrouped.{under, grouped-mapped}

entries_apart : (fs : List FileIn) (entries : List (List ℕ × ℕ)) → map (under (file_at fs)) (map {B = List ℕ × ℕ} (λ (e : List ℕ × ℕ). (directory_of e.0, e.1)) entries) ≡ map {B = List ℕ × FileIn} (λ (e : List ℕ × FileIn). (directory_of e.0, e.1)) (map (entry_at fs) entries)
entries_apart fs [] = refl
entries_apart fs (e ∷ es) = ap (λ t. (directory_of e.0, file_at fs e.1) ∷ t) (entries_apart fs es)

-- the directories with the files at their places are those of the files
pub directories_at : (fs : List FileIn) (entries : List (List ℕ × ℕ)) → map (entry_at fs) entries ≡ by_path fs → map {B = List ℕ × FileIn} (λ (e : List ℕ × FileIn). (directory_of e.0, e.1)) (by_path fs) ≡ map {B = List ℕ × FileIn} (λ (f : FileIn). (directory_of f.path, f)) (ascending fs)
    → map (group_at fs) (places_by_directory entries) ≡ directories fs
directories_at fs entries are keyed =
    grouped-mapped (file_at fs) (map {B = List ℕ × ℕ} (λ (e : List ℕ × ℕ). (directory_of e.0, e.1)) entries)
    ∙ ap grouped (entries_apart fs entries ∙ ap (map {B = List ℕ × FileIn} (λ (e : List ℕ × FileIn). (directory_of e.0, e.1))) are ∙ keyed)

map-map : {X Y Z : Type 0} (h : Y → Z) (f : X → Y) (xs : List X) → map h (map f xs) ≡ map (λ x. h (f x)) xs
map-map h f [] = refl
map-map h f (x ∷ xs) = ap (λ zs. h (f x) ∷ zs) (map-map h f xs)

pub lines_at : (n : ℕ) (fs : List FileIn) (gs : List (List ℕ × List ℕ)) → map (group_at fs) gs ≡ directories fs → map (λ g. line_of n (group_at fs g)) gs ≡ (laid_out n fs).streams
unfolding laid_out
lines_at n fs gs are = sym (map-map (line_of n) (group_at fs) gs) ∙ ap (map (line_of n)) are

pub pieces_at : (n : ℕ) (fs : List FileIn) (gs : List (List ℕ × List ℕ)) → map (group_at fs) gs ≡ directories fs → distinct (flat_map (λ g. pieces_of n (group_at fs g)) gs) ≡ blocks_of n fs
unfolding blocks_of
pieces_at n fs gs are = ap distinct (sym (flat_map-map (pieces_of n) (group_at fs) gs) ∙ ap (flat_map (pieces_of n)) are)

pub small_at : (fs : List FileIn) (gs : List (List ℕ × List ℕ)) → map (group_at fs) gs ≡ directories fs → list_all (λ g. is_small_group (group_at fs g)) gs ≡ true → list_all is_small_group (directories fs) ≡ true
small_at fs gs are h = ap (list_all is_small_group) (sym are) ∙ list_all-map is_small_group (group_at fs) gs ∙ h

pub within_at : (n : ℕ) (entries : List (List ℕ × ℕ)) → list_all (λ e. ltb e.1 n) entries ≡ true → list_all (λ g. are_within n g.1) (places_by_directory entries) ≡ true
within_at n entries h =
    grouped-all (λ place. ltb place n) (map {B = List ℕ × ℕ} (λ (e : List ℕ × ℕ). (directory_of e.0, e.1)) entries)
    (list_all-map (λ (e : List ℕ × ℕ). ltb e.1 n) (λ (e : List ℕ × ℕ). (directory_of e.0, e.1)) entries ∙ h)

-- any store that has each block under its digest
pub text_unpacked : (stored : List ℕ → Option (List ℕ)) (n : ℕ) (fs : List FileIn) (blocks : List (List ℕ)) (m : Manifest) → 0 < n → n < 10 ^ 19 → list_all (λ (f : FileIn). is_path f.path) fs ≡ true → IsGood (laid_out n fs)
    → blocks ≡ blocks_of n fs → All (λ b. stored (md5 b) ≡ Some b) blocks → m ≡ normal (laid_out n fs) → unpacking m stored ≡ Ok (ascending fs)
unfolding blocks_of
text_unpacked stored n fs blocks m some most paths good are held is =
    let P : List ℕ → Type 0 = λ b. stored (md5 b) ≡ Some b in
    let all = recursion_from_All P (distinct (flat_map (pieces_of n) (directories fs))) (subst (λ bs. All P bs) are held) in
    ap (λ k. unpacking k stored) is ∙ normal-unpacked (laid_out n fs) stored good
    ∙ laid-unpacked stored n fs some most paths (held-distinct P (flat_map (pieces_of n) (directories fs)) [] all).1
