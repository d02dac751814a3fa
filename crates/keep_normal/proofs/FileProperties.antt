-- What the files of a manifest and the lines of its normal form are, without the map that they are made by: `files-paths`, `files-parts`,
-- `lines-ascending`, `lines-directories`, `lines-are`, `lines-list`.
use Rattle.std.proofs.Common.{◌≡◌, ℕ, Bool, true, false, cond, List, [], ◌∷◌, map, refl, ap, sym, subst, ◌∙◌}
use Rattle.std.specs.Prelude.{◌↔◌, All, Contains, filter}
use Rattle.std.specs.List.{flat_map, AllByRecursion}
use Rattle.std.specs.List.Sorted.{IsStrictlySortedBy}
use Rattle.std.specs.Map.{keys_of}
use Rattle.std.specs.Str.{bytes_eq}
use Rattle.std.proofs.lemmas.List.Elements.{All-from_recursion}
use Rattle.keep_spec.specs.declared.manifest.Manifest.{Manifest}
use Rattle.keep_spec.specs.declared.manifest.Stream.{Stream}
use Rattle.keep_normal.specs.declared.part.Part.{Part}
use Rattle.keep_normal.specs.declared.part.FileParts.{FileParts}
use Rattle.keep_normal.specs.Files.{pieces, joined_parts, file_of, files, paths_named, parts_named}
use Rattle.keep_normal.specs.FirstUse.{ListsBlocks}
use Rattle.keep_normal.specs.Grouped.{byte_order, values_of, keys_in, grouped}
use Rattle.keep_normal.specs.Normal.{blocks, or_empty_block, uses, files_in, directory, by_directory, line_of, normal_of}
use Rattle.keep_normal.proofs.NormalFiles.{file_paths}
use Rattle.keep_normal.proofs.FirstUses.{line-lists}
use Rattle.keep_normal.proofs.Grouping.{grouped-ascending}
use Rattle.keep_normal.proofs.GroupedPairs.{grouped-entries, grouped-keys}

-- Files.

pub files-paths : (m : Manifest) (path : List ℕ) → Contains (map (λ (f : FileParts). f.path) (files m)) path ↔ Contains (paths_named m) path
unfolding files
files-paths m path = subst (λ ks. Contains ks path ↔ Contains (paths_named m) path) (sym (file_paths (grouped (pieces m)))) (grouped-keys (pieces m) path)

each_parts : (m : Manifest) (gs : List (List ℕ × List (List Part))) → AllByRecursion (λ g. g.1 ≡ values_of g.0 (pieces m)) gs → AllByRecursion (λ f. f.parts ≡ parts_named m f.path) (map file_of gs)
each_parts m [] h = tt
each_parts m (g ∷ gs) h = (ap (λ vs. joined_parts (flat_map (λ ps. ps) vs)) h.0, each_parts m gs h.1)

pub files-parts : (m : Manifest) → All (λ f. f.parts ≡ parts_named m f.path) (files m)
unfolding files
files-parts m = All-from_recursion (λ f. f.parts ≡ parts_named m f.path) (files m) (each_parts m (grouped (pieces m)) (grouped-entries (pieces m)))

-- Lines.

abbrev name_of : Stream → List ℕ
name_of s = s.name

line_names : (gs : List (List ℕ × List FileParts)) → map name_of (map line_of gs) ≡ keys_of gs
line_names [] = refl
line_names (g ∷ gs) = ap (λ ks. g.0 ∷ ks) (line_names gs)

directory_keys : (fs : List FileParts) → keys_in (by_directory fs) ≡ map directory fs
directory_keys [] = refl
directory_keys (f ∷ fs) = ap (λ ks. directory f ∷ ks) (directory_keys fs)

directory_values : (fs : List FileParts) (d : List ℕ) → values_of d (by_directory fs) ≡ files_in fs d
directory_values [] d = refl
directory_values (f ∷ fs) d = by_directory_of (bytes_eq d (directory f)) (directory_values fs d)
  where
    by_directory_of : (b : Bool) → values_of d (by_directory fs) ≡ files_in fs d → map (λ (p : List ℕ × FileParts). p.1) (cond b ((directory f, f) ∷ filter (λ p. bytes_eq d p.0) (by_directory fs)) (filter (λ p. bytes_eq d p.0) (by_directory fs)))
        ≡ cond b (f ∷ files_in fs d) (files_in fs d)
    by_directory_of true rest = ap (λ gs. f ∷ gs) rest
    by_directory_of false rest = rest

pub lines-ascending : (fs : List FileParts) → IsStrictlySortedBy byte_order (map (λ (s : Stream). s.name) (normal_of fs).streams)
unfolding normal_of
lines-ascending fs = subst (λ ks. IsStrictlySortedBy byte_order ks) (sym (line_names (grouped (by_directory fs)))) (grouped-ascending (by_directory fs))

pub lines-directories : (fs : List FileParts) (d : List ℕ) → Contains (map (λ (s : Stream). s.name) (normal_of fs).streams) d ↔ Contains (map directory fs) d
unfolding normal_of
lines-directories fs d =
    subst (λ ks. Contains ks d ↔ Contains (map directory fs) d) (sym (line_names (grouped (by_directory fs))))
    (subst (λ ks. Contains (keys_of (grouped (by_directory fs))) d ↔ Contains ks d) (directory_keys fs) (grouped-keys (by_directory fs) d))

abbrev group_with : List ℕ → List FileParts → List ℕ × List FileParts
group_with d fs = (d, fs)

each_line : (fs : List FileParts) (gs : List (List ℕ × List FileParts)) → AllByRecursion (λ g. g.1 ≡ values_of g.0 (by_directory fs)) gs → AllByRecursion (λ s. s ≡ line_of (s.name, files_in fs s.name)) (map line_of gs)
each_line fs [] h = tt
each_line fs (g ∷ gs) h = (ap (λ vs. line_of (group_with g.0 vs)) (h.0 ∙ directory_values fs g.0), each_line fs gs h.1)

pub lines-are : (fs : List FileParts) → All (λ s. s ≡ line_of (s.name, files_in fs s.name)) (normal_of fs).streams
unfolding normal_of
lines-are fs = All-from_recursion (λ s. s ≡ line_of (s.name, files_in fs s.name)) (normal_of fs).streams (each_line fs (grouped (by_directory fs)) (grouped-entries (by_directory fs)))

each_lists : (fs : List FileParts) (gs : List (List ℕ × List FileParts)) → AllByRecursion (λ g. g.1 ≡ values_of g.0 (by_directory fs)) gs → AllByRecursion (λ s. ListsBlocks (uses (files_in fs s.name)) s.locators) (map line_of gs)
each_lists fs [] h = tt
each_lists fs (g ∷ gs) h = (subst (λ vs. ListsBlocks (uses vs) (or_empty_block (blocks g.1))) (h.0 ∙ directory_values fs g.0) (line-lists g.1), each_lists fs gs h.1)

pub lines-list : (fs : List FileParts) → All (λ s. ListsBlocks (uses (files_in fs s.name)) s.locators) (normal_of fs).streams
unfolding normal_of
lines-list fs = All-from_recursion (λ s. ListsBlocks (uses (files_in fs s.name)) s.locators) (normal_of fs).streams (each_lists fs (grouped (by_directory fs)) (grouped-entries (by_directory fs)))
