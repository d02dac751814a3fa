-- The normal form of a manifest (Arvados), which its files alone decide.
use Rattle.std.specs.Prelude.{ℕ, ◌+◌, ◌-◌, ◌^◌, ◌==◌, ◌&&◌, nat_lt, Bool, List, [], ◌∷◌, ◌++◌, map, filter, fold, codes, Option, None, Some, option_map, unwrap_or, is_some, if◌then◌else◌}
use Rattle.std.specs.List.{flat_map, list_all}
use Rattle.std.specs.Str.{bytes_eq}
use Rattle.keep_spec.specs.Locator.{size}
use Rattle.keep_spec.specs.declared.manifest.Manifest.{Manifest}
use Rattle.keep_spec.specs.declared.manifest.Stream.{Stream}
use Rattle.keep_spec.specs.declared.manifest.Segment.{Segment}
use Rattle.keep_normal.specs.declared.part.Part.{Part}
use Rattle.keep_normal.specs.declared.part.FileParts.{FileParts}
use Rattle.keep_normal.specs.declared.span.Span.{Span}
use Rattle.keep_normal.specs.Files.{ranges}
use Rattle.keep_normal.specs.Grouped.{grouped}
use Rattle.keep_normal.specs.Joined.{joined}

abbrev pub cut_onto : ℕ → List ℕ → Option (List ℕ × List ℕ) → Option (List ℕ × List ℕ)
cut_onto x xs None = if x == 47 then Some ([], xs) else None
cut_onto x xs (Some p) = Some (x ∷ p.0, p.1)

-- a path cut at its last `/`, which is in neither part
abbrev pub cut_last : List ℕ → Option (List ℕ × List ℕ)
cut_last [] = None
cut_last (x ∷ xs) = cut_onto x xs (cut_last xs)

-- the directory of a path, and the name below it
abbrev pub path_parts : List ℕ → List ℕ × List ℕ
path_parts path = unwrap_or (cut_last path) ([], path)

abbrev pub directory : FileParts → List ℕ
directory f = (path_parts f.path).0

abbrev pub file_name : FileParts → List ℕ
file_name f = (path_parts f.path).1

-- where a block begins among blocks that lie end to end; nothing where it isn't one of them
abbrev pub start_at : List (List ℕ) → List ℕ → Option ℕ
start_at [] locator = None
start_at (b ∷ bs) locator = if bytes_eq b locator then Some 0 else option_map (λ n. size b + n) (start_at bs locator)

-- blocks with one more at the end, unless it is one of them
abbrev pub with_block : List (List ℕ) → List ℕ → List (List ℕ)
with_block bs locator = if is_some (start_at bs locator) then bs else bs ++ locator ∷ []

abbrev pub locators_of : FileParts → List (List ℕ)
locators_of f = map (λ p. p.locator) f.parts

-- the blocks of files, each once, in the order of their first use
abbrev pub blocks : List FileParts → List (List ℕ)
blocks fs = fold with_block [] (flat_map locators_of fs)

-- where a part lies among blocks
abbrev pub span_in : List (List ℕ) → Part → Span
span_in bs p =
    let from = unwrap_or (start_at bs p.locator) 0 + p.offset in
    record { from = from; to = from + p.length }

-- two spans of which the second begins where the first ends
abbrev pub meet : Span → Span → Bool
meet s t = s.to == t.from

abbrev pub both_spans : Span → Span → Span
both_spans s t = record { from = s.from; to = t.to }

abbrev pub spans : List (List ℕ) → List Part → List Span
spans bs ps = joined meet both_spans (map (span_in bs) ps)

abbrev pub segment_of : List ℕ → Span → Segment
segment_of name s = record { position = s.from; size = s.to - s.from; name = name }

-- a file of no bytes keeps one segment
abbrev pub or_empty : List Span → List Span
or_empty [] = record { from = 0; to = 0 } ∷ []
or_empty (s ∷ ss) = s ∷ ss

abbrev pub file_segments : List (List ℕ) → FileParts → List Segment
file_segments bs f = map (segment_of (file_name f)) (or_empty (spans bs f.parts))

-- a line without blocks lists the empty block
abbrev pub or_empty_block : List (List ℕ) → List (List ℕ)
or_empty_block [] = codes "d41d8cd98f00b204e9800998ecf8427e+0" ∷ []
or_empty_block (b ∷ bs) = b ∷ bs

-- the line of a directory and its files
abbrev pub line_of : List ℕ × List FileParts → Stream
line_of g =
    record { name = g.0; locators = or_empty_block (blocks g.1); segments = flat_map (file_segments (blocks g.1)) g.1 }

abbrev pub by_directory : List FileParts → List (List ℕ × FileParts)
by_directory fs = map (λ f. (directory f, f)) fs

-- the files of a directory, in their order
abbrev pub files_in : List FileParts → List ℕ → List FileParts
files_in fs d = filter (λ f. bytes_eq d (directory f)) fs

-- the blocks that files use, as often as they do, in their order
abbrev pub uses : List FileParts → List (List ℕ)
uses fs = flat_map locators_of fs

-- one line for each directory of files with stripped locators, directories and the names in each in order of their bytes
unfoldable pub normal_of : List FileParts → Manifest
normal_of fs = record { streams = map line_of (grouped (by_directory fs)) }

abbrev pub normal : Manifest → Manifest
normal m = normal_of (ranges m)

-- numbers that have at most 19 digits
abbrev pub is_small_segment : Segment → Bool
is_small_segment g = nat_lt g.position (10 ^ 19) && nat_lt g.size (10 ^ 19)

abbrev pub is_small_stream : Stream → Bool
is_small_stream s = list_all is_small_segment s.segments

abbrev pub is_small : Manifest → Bool
is_small m = list_all is_small_stream m.streams
