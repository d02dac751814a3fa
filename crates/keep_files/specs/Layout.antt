-- How files are laid out in blocks (this project's own rule): directories in order of their bytes, the files of each end to end in order of their names' bytes, and cut into blocks of one size.
use Rattle.std.specs.Prelude.{ℕ, zero, suc, ◌+◌, List, [], ◌∷◌, ◌++◌, length, map, fold, take, drop, if◌then◌else◌}
use Rattle.std.specs.List.{flat_map, list_any}
use Rattle.std.specs.Str.{bytes_eq}
use Rattle.std.specs.BTreeMap.{insert_entry}
use Rattle.md5.specs.Md5.{md5}
use Rattle.keep_spec.specs.declared.manifest.Manifest.{Manifest}
use Rattle.keep_spec.specs.declared.manifest.Stream.{Stream}
use Rattle.keep_spec.specs.declared.manifest.Segment.{Segment}
use Rattle.keep_event.specs.Index.{locator_text}
use Rattle.keep_normal.specs.Grouped.{byte_order, grouped}
use Rattle.keep_normal.specs.Normal.{path_parts, or_empty_block}
use Rattle.keep_files.specs.declared.file.FileIn.{FileIn}

-- a path as manifests have it: `./` and the path
abbrev pub whole_path : List ℕ → List ℕ
whole_path path = 46 ∷ 47 ∷ path

abbrev pub directory_of : List ℕ → List ℕ
directory_of path = (path_parts (whole_path path)).0

abbrev pub name_of : List ℕ → List ℕ
name_of path = (path_parts (whole_path path)).1

-- an ordered map from each path to its file
abbrev pub by_path : List FileIn → List (List ℕ × FileIn)
by_path fs = fold (λ m f. insert_entry byte_order m f.path f) [] fs

-- the files in ascending order of their paths' bytes
abbrev pub ascending : List FileIn → List FileIn
ascending fs = map (λ e. e.1) (by_path fs)

-- an ordered map from each directory to its files, which ascend
abbrev pub directories : List FileIn → List (List ℕ × List FileIn)
directories fs = grouped (map (λ f. (directory_of f.path, f)) (ascending fs))

-- the bytes of files, end to end
abbrev pub end_to_end : List FileIn → List ℕ
end_to_end fs = flat_map (λ f. f.bytes) fs

-- the first pieces of n bytes each, at most so many; the last one is shorter where the bytes end in it
unfoldable pub first_pieces : ℕ → ℕ → List ℕ → List (List ℕ)
first_pieces zero n bytes = []
first_pieces (suc most) n [] = []
first_pieces (suc most) n (b ∷ bs) = take n (b ∷ bs) ∷ first_pieces most n (drop n (b ∷ bs))

-- bytes cut into pieces of n bytes each, the last one shorter where they don't come out even
unfoldable pub cut : ℕ → List ℕ → List (List ℕ)
cut n bytes = first_pieces (length bytes) n bytes

-- a block's locator: the digits of its MD5, `+` and its size
abbrev pub locator_of : List ℕ → List ℕ
locator_of block = locator_text (md5 block) (length block)

-- the segments of files that lie end to end, the first at `start`
unfoldable pub segments_from : ℕ → List FileIn → List Segment
segments_from start [] = []
segments_from start (f ∷ fs) =
    record { position = start; size = length f.bytes; name = name_of f.path } ∷ segments_from (start + length f.bytes) fs

-- the blocks of a directory's files
abbrev pub pieces_of : ℕ → List ℕ × List FileIn → List (List ℕ)
pieces_of n g = cut n (end_to_end g.1)

-- the line of a directory and its files; one without bytes lists the empty block
abbrev pub line_of : ℕ → List ℕ × List FileIn → Stream
line_of n g =
    record { name = g.0; locators = or_empty_block (map locator_of (pieces_of n g)); segments = segments_from 0 g.1 }

-- where the files lie in blocks of n bytes
unfoldable pub laid_out : ℕ → List FileIn → Manifest
laid_out n fs = record { streams = map (line_of n) (directories fs) }

-- blocks with one more at the end, unless it is one of them
abbrev pub with_block : List (List ℕ) → List ℕ → List (List ℕ)
with_block blocks block = if list_any (bytes_eq block) blocks then blocks else blocks ++ block ∷ []

-- blocks, each once, in the order in which each comes first
abbrev pub distinct : List (List ℕ) → List (List ℕ)
distinct blocks = fold with_block [] blocks

-- all blocks, in the order in which each is first cut
unfoldable pub blocks_of : ℕ → List FileIn → List (List ℕ)
blocks_of n fs = distinct (flat_map (pieces_of n) (directories fs))
