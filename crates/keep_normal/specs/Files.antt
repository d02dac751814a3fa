-- The files of a manifest: which bytes of which blocks each of them has, in the order of the text (Arvados).
use Rattle.std.specs.Prelude.{ℕ, ◌+◌, ◌-◌, ◌==◌, ◌&&◌, max, min, Bool, List, [], ◌∷◌, ◌++◌, map, codes, if◌then◌else◌}
use Rattle.std.specs.List.{flat_map}
use Rattle.std.specs.Str.{bytes_eq}
use Rattle.keep_spec.specs.Locator.{stripped, size}
use Rattle.keep_spec.specs.declared.manifest.Manifest.{Manifest}
use Rattle.keep_spec.specs.declared.manifest.Stream.{Stream}
use Rattle.keep_spec.specs.declared.manifest.Segment.{Segment}
use Rattle.keep_normal.specs.declared.part.Part.{Part}
use Rattle.keep_normal.specs.declared.part.FileParts.{FileParts}
use Rattle.keep_normal.specs.declared.span.Span.{Span}
use Rattle.keep_normal.specs.Grouped.{grouped, keys_in, values_of}
use Rattle.keep_normal.specs.Joined.{joined}

-- the bytes of a stream that a segment names
abbrev pub span_of : Segment → Span
span_of g = record { from = g.position; to = g.position + g.size }

-- the part of a block that lies in a span, where the block begins at `start` of the stream
abbrev pub part_in : ℕ → Span → List ℕ → Part
part_in start s locator =
    record { locator = locator; offset = max start s.from - start; length = min (start + size locator) s.to - max start s.from }

-- a part of no bytes is left out
abbrev pub kept : Part → List Part
kept p = if p.length == 0 then [] else p ∷ []

-- the parts of blocks that lie in a span; the blocks lie end to end, the first at `start`
abbrev pub parts_in : ℕ → Span → List (List ℕ) → List Part
parts_in start s [] = []
parts_in start s (locator ∷ locators) = kept (part_in start s locator) ++ parts_in (start + size locator) s locators

-- the mark of an empty directory, which names no file
abbrev pub is_mark : Segment → Bool
is_mark g = g.size == 0 && bytes_eq g.name (codes ".")

-- a file's path is its stream's name, `/` and its own
abbrev pub path_of : List ℕ → List ℕ → List ℕ
path_of directory name = directory ++ 47 ∷ name

-- the path and the parts of a segment
abbrev pub piece_of : Stream → Segment → List (List ℕ × List Part)
piece_of s g = if is_mark g then [] else (path_of s.name g.name, parts_in 0 (span_of g) s.locators) ∷ []

abbrev pub stream_pieces : Stream → List (List ℕ × List Part)
stream_pieces s = flat_map (piece_of s) s.segments

abbrev pub pieces : Manifest → List (List ℕ × List Part)
pieces m = flat_map stream_pieces m.streams

-- the second part follows the first in one block; two blocks are one where their stripped locators are
abbrev pub touch : Part → Part → Bool
touch p q = bytes_eq (stripped p.locator) (stripped q.locator) && p.offset + p.length == q.offset

-- with the first one's locator
abbrev pub both_parts : Part → Part → Part
both_parts p q = record { locator = p.locator; offset = p.offset; length = p.length + q.length }

abbrev pub joined_parts : List Part → List Part
joined_parts ps = joined touch both_parts ps

abbrev pub file_of : List ℕ × List (List Part) → FileParts
file_of g = record { path = g.0; parts = joined_parts (flat_map (λ ps. ps) g.1) }

-- the files in ascending order of their paths, each with its parts in the order of the text; parts have whole locators
unfoldable pub files : Manifest → List FileParts
files m = map file_of (grouped (pieces m))

-- the paths that segments name, as often as they do
abbrev pub paths_named : Manifest → List (List ℕ)
paths_named m = keys_in (pieces m)

-- what the segments with this path name, in the order of the text, parts that touch joined
abbrev pub parts_named : Manifest → List ℕ → List Part
parts_named m path = joined_parts (flat_map (λ ps. ps) (values_of path (pieces m)))

abbrev pub stripped_part : Part → Part
stripped_part p = record { locator = stripped p.locator; offset = p.offset; length = p.length }

abbrev pub stripped_file : FileParts → FileParts
stripped_file f = record { path = f.path; parts = map stripped_part f.parts }

-- the same with stripped locators: which ranges of which blocks a path stands for
abbrev pub ranges : Manifest → List FileParts
ranges m = map stripped_file (files m)
