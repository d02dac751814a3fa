-- A manifest and its normal form have the same files.
-- Laws: `flat_map-flat_map`, `flat_map_none`, `flat_map_same_all`, `file_paths`, `files-ascending`, `segment_named`, `keys_named`, `ranges-normal`, `normal-normal`.
use Rattle.std.proofs.Common.{◌≡◌, ℕ, ◌+◌, ◌-◌, Bool, true, false, not, ◌&&◌, cond, eqb, ltb, ◌^◌, inl, inr, List, [], ◌∷◌, ◌++◌, length, map, refl, ap, sym, subst, ◌∙◌, arith, append-nil}
use Rattle.std.specs.Prelude.{codes}
use Rattle.std.specs.List.{list_all, flat_map, AllByRecursion}
use Rattle.std.specs.List.Sorted.{IsStrictlySortedBy}
use Rattle.std.specs.Map.{keys_of}
use Rattle.std.specs.Str.{bytes_eq}
use Rattle.std.proofs.lemmas.Bool.{and_parts, and_from, and_right, or_cases, not-true, leb-true, lt-ltb, false≢true}
use Rattle.std.proofs.lemmas.List.Concat.{flat_map-append}
use Rattle.std.proofs.lemmas.List.Folds.{list_all-map, flat_map-map}
use lib.Pointwise.{bytes_decides}
use Rattle.keep_spec.specs.Locator.{stripped}
use Rattle.keep_spec.specs.Names.{is_path}
use Rattle.keep_spec.specs.Manifest.{IsGood, total_size, is_segment, is_named, is_within}
use Rattle.keep_spec.specs.declared.manifest.Manifest.{Manifest}
use Rattle.keep_spec.specs.declared.manifest.Stream.{Stream}
use Rattle.keep_spec.specs.declared.manifest.Segment.{Segment}
use Rattle.keep_manifest.specs.Good.{is_good_segment, is_good_stream, is_good_manifest}
use Rattle.keep_locator.proofs.Lists.{list_all-weaker}
use Rattle.keep_manifest.proofs.GoodManifests.{good_is}
use Rattle.keep_normal.specs.declared.part.Part.{Part}
use Rattle.keep_normal.specs.declared.part.FileParts.{FileParts}
use Rattle.keep_normal.specs.declared.span.Span.{Span}
use Rattle.keep_normal.specs.Files.{span_of, parts_in, is_mark, path_of, piece_of, stream_pieces, pieces, touch, both_parts, joined_parts, file_of, files, stripped_part, stripped_file, ranges}
use Rattle.keep_normal.specs.Grouped.{byte_order, values_at, grouped}
use Rattle.keep_normal.specs.Normal.{path_parts, directory, file_name, blocks, spans, segment_of, or_empty, file_segments, or_empty_block, line_of, by_directory, normal_of, normal}
use Rattle.keep_normal.specs.Sound.{are_sound}
use Rattle.keep_normal.proofs.FileSegments.{is_known, segments_forward, file_again, blocks_known}
use Rattle.keep_normal.proofs.TooLarge.{list_all-flat_map}
use Rattle.keep_normal.proofs.Grouping.{grouped-ascending, all_true, has_key, key-same, same_maps, selected, grouped-values, values_are, is_filled, grouped-filled, each_at, grouped-each, one_given}
use Rattle.keep_normal.proofs.JoinedNeighbours.{joined-map, joined-joined}
use Rattle.keep_normal.proofs.FilePaths.{is_named_path, path-named}
use Rattle.keep_normal.proofs.SpanParts.{part_with}
use Rattle.keep_normal.proofs.SoundFiles.{good_stream_is, ranges_sound}
use Rattle.keep_normal.proofs.SoundParts.{part_joins}
use Rattle.keep_normal.proofs.SplitSpans.{is_forward}
use Rattle.keep_normal.proofs.StrippedLocators.{stripped-again}
use Rattle.keep_normal.proofs.OrderedEntries.{at-same}

-- Lists.

pub flat_map-flat_map : {X Y Z : Type 0} (h : Y → List Z) (f : X → List Y) (xs : List X) → flat_map h (flat_map f xs) ≡ flat_map (λ x. flat_map h (f x)) xs
flat_map-flat_map h f [] = refl
flat_map-flat_map h f (x ∷ xs) = flat_map-append h (f x) (flat_map f xs) ∙ ap (λ zs. flat_map h (f x) ++ zs) (flat_map-flat_map h f xs)

flat_map_same : {X Y : Type 0} (t : X → Bool) (f g : X → List Y) → ((x : X) → t x ≡ true → f x ≡ g x) → (xs : List X) → list_all t xs ≡ true → flat_map f xs ≡ flat_map g xs
flat_map_same t f g same [] h = refl
flat_map_same t f g same (x ∷ xs) h =
    let parts = and_parts (t x) (list_all t xs) h in
    ap (λ ys. ys ++ flat_map f xs) (same x parts.0) ∙ ap (λ ys. g x ++ ys) (flat_map_same t f g same xs parts.1)

pub flat_map_none : {X Y : Type 0} (t : X → Bool) (f : X → List Y) → ((x : X) → t x ≡ true → f x ≡ []) → (xs : List X) → list_all t xs ≡ true → flat_map f xs ≡ []
flat_map_none t f none [] h = refl
flat_map_none t f none (x ∷ xs) h =
    let parts = and_parts (t x) (list_all t xs) h in
    ap (λ ys. ys ++ flat_map f xs) (none x parts.0) ∙ flat_map_none t f none xs parts.1

pub flat_map_same_all : {X Y : Type 0} (f g : X → List Y) → ((x : X) → f x ≡ g x) → (xs : List X) → flat_map f xs ≡ flat_map g xs
flat_map_same_all f g same xs = flat_map_same (λ x. true) f g (λ x _. same x) xs (all_true xs)

map-map : {X Y Z : Type 0} (h : Y → Z) (f : X → Y) (xs : List X) → map h (map f xs) ≡ map (λ x. h (f x)) xs
map-map h f [] = refl
map-map h f (x ∷ xs) = ap (λ zs. h (f x) ∷ zs) (map-map h f xs)

-- The files of a good manifest.

-- a file whose parts can't be joined further
abbrev IsJoined : FileParts → Type 0
IsJoined f = joined_parts f.parts ≡ f.parts

record IsTidy (fs : List FileParts) : Type 0 where
  ascending : IsStrictlySortedBy byte_order (map (λ (f : FileParts). f.path) fs)
  named : list_all (λ f. is_named_path f.path) fs ≡ true
  sound : list_all (λ f. are_sound f.parts) fs ≡ true
  apart : AllByRecursion IsJoined fs

touch-stripped : (p q : Part) → touch (stripped_part p) (stripped_part q) ≡ touch p q
touch-stripped p q =
    ap (λ s. bytes_eq s (stripped (stripped q.locator)) && eqb (p.offset + p.length) q.offset) (stripped-again p.locator)
    ∙ ap (λ s. bytes_eq (stripped p.locator) s && eqb (p.offset + p.length) q.offset) (stripped-again q.locator)

joined-stripped : (ps : List Part) → joined_parts (map stripped_part (joined_parts ps)) ≡ map stripped_part (joined_parts ps)
joined-stripped ps =
    joined-map touch both_parts stripped_part touch-stripped (λ p q. refl) (joined_parts ps)
    ∙ ap (map stripped_part) (joined-joined touch both_parts part_joins ps)

abbrev pub ranges_of : List (List ℕ × List (List Part)) → List FileParts
ranges_of gs = map stripped_file (map file_of gs)

all_joined : (gs : List (List ℕ × List (List Part))) → AllByRecursion IsJoined (ranges_of gs)
all_joined [] = tt
all_joined (g ∷ gs) = (joined-stripped (flat_map (λ ps. ps) g.1), all_joined gs)

paths_of : (gs : List (List ℕ × List (List Part))) → map (λ (f : FileParts). f.path) (ranges_of gs) ≡ keys_of gs
paths_of [] = refl
paths_of (g ∷ gs) = ap (λ ks. g.0 ∷ ks) (paths_of gs)

pub file_paths : (gs : List (List ℕ × List (List Part))) → map (λ (f : FileParts). f.path) (map file_of gs) ≡ keys_of gs
file_paths [] = refl
file_paths (g ∷ gs) = ap (λ ks. g.0 ∷ ks) (file_paths gs)

pub files-ascending : (m : Manifest) → IsStrictlySortedBy byte_order (map (λ (f : FileParts). f.path) (files m))
unfolding files
files-ascending m = subst (λ ks. IsStrictlySortedBy byte_order ks) (sym (file_paths (grouped (pieces m)))) (grouped-ascending (pieces m))

-- a file's own name is a path, but for the mark of an empty directory
pub segment_named : (total : ℕ) (g : Segment) → is_good_segment total g ≡ true → is_mark g ≡ false → is_path g.name ≡ true
segment_named total g good mark =
    let numbers = ltb g.position (10 ^ 19) && ltb g.size (10 ^ 19) in
    let segment = (and_parts numbers (is_segment total g) good).1 in
    elim (or_cases (is_path g.name) (is_mark g) (and_parts (is_named g) (is_within total g) segment).0) [
      | inl path ↦ path
      | inr is ↦ absurd (false≢true (sym mark ∙ is))
    ]

abbrev names_its_files : List ℕ × List Part → Bool
names_its_files e = is_named_path e.0

piece_named : (s : Stream) (g : Segment) (total : ℕ) → is_good_segment total g ≡ true → list_all names_its_files (piece_of s g) ≡ true
piece_named s g total good = by_mark (is_mark g) refl
  where
    by_mark : (b : Bool) → is_mark g ≡ b → list_all names_its_files (cond b [] ((path_of s.name g.name, parts_in 0 (span_of g) s.locators) ∷ [])) ≡ true
    by_mark true m = refl
    by_mark false m = and_from (is_named_path (path_of s.name g.name)) true (path-named s.name g.name (segment_named total g good m)) refl

stream_named : (s : Stream) → is_good_stream s ≡ true → list_all names_its_files (stream_pieces s) ≡ true
stream_named s good =
    list_all-flat_map names_its_files (piece_of s) s.segments
    ∙ list_all-weaker (is_good_segment (total_size s.locators)) (λ g. list_all names_its_files (piece_of s g)) (λ g h. piece_named s g (total_size s.locators) h) s.segments (good_stream_is s good).segments

pub keys_named : (q : List ℕ → Bool) (gs : List (List ℕ × List (List Part))) → list_all is_filled gs ≡ true → list_all (each_at (λ k _. q k)) gs ≡ true → list_all (λ f. q f.path) (ranges_of gs) ≡ true
keys_named q [] filled each = refl
keys_named q ((k, []) ∷ gs) filled each = absurd (false≢true (and_parts false (list_all is_filled gs) filled).0)
keys_named q ((k, x ∷ xs) ∷ gs) filled each =
    let f = and_parts (is_filled (k, x ∷ xs)) (list_all is_filled gs) filled in
    let e = and_parts (list_all (λ _. q k) (x ∷ xs)) (list_all (each_at (λ k _. q k)) gs) each in
    and_from (q k) (list_all (λ f. q f.path) (ranges_of gs)) (and_parts (q k) (list_all (λ _. q k) xs) e.0).0 (keys_named q gs f.1 e.1)

ranges_tidy : (m : Manifest) → is_good_manifest m ≡ true → IsTidy (ranges m)
unfolding files
ranges_tidy m good =
    let gs = grouped (pieces m) in
    record {
      ascending = subst (λ ks. IsStrictlySortedBy byte_order ks) (sym (paths_of gs)) (grouped-ascending (pieces m));
      named = keys_named is_named_path gs (grouped-filled (pieces m)) (grouped-each (λ k _. is_named_path k) (pieces m)
          (list_all-flat_map names_its_files stream_pieces m.streams ∙ list_all-weaker is_good_stream (λ s. list_all names_its_files (stream_pieces s)) stream_named m.streams good));
      sound = ranges_sound m good;
      apart = all_joined gs;
    }

-- The pieces of the normal form.

-- a file that lies in this directory, and has a path that can be cut
abbrev own : List ℕ → FileParts → Bool
own k f = bytes_eq (directory f) k && is_named_path f.path

abbrev Group : Type 0
Group = List ℕ × List FileParts

-- what a file's segments stand for in the line of its group
abbrev values : Group → FileParts → List (List Part)
values g f = map (λ s. parts_in 0 s (or_empty_block (blocks g.1))) (or_empty (spans (blocks g.1) f.parts))

abbrev file_pieces : Group → FileParts → List (List ℕ × List Part)
file_pieces g f = map (λ s. (f.path, parts_in 0 s (or_empty_block (blocks g.1)))) (or_empty (spans (blocks g.1) f.parts))

abbrev span_ends : ℕ → ℕ → Span
span_ends from to = record { from = from; to = to }

-- one segment
segment_again : (g : Group) (f : FileParts) (s : Span) → own g.0 f ≡ true → is_forward s ≡ true → piece_of (line_of g) (segment_of (file_name f) s) ≡ (f.path, parts_in 0 s (or_empty_block (blocks g.1))) ∷ []
segment_again g f s h forward =
    let a = and_parts (bytes_eq (directory f) g.0) (is_named_path f.path) h in
    let b = and_parts (bytes_eq f.path (path_of (directory f) (file_name f))) (not (bytes_eq (file_name f) (codes "."))) a.1 in
    let here = (bytes_decides (directory f) g.0).0 a.0 in
    let whole = (bytes_decides f.path (path_of (directory f) (file_name f))).0 b.0 in
    let mark : is_mark (segment_of (file_name f) s) ≡ false = and_right (eqb (s.to - s.from) 0) (bytes_eq (file_name f) (codes ".")) (not-true (bytes_eq (file_name f) (codes ".")) b.1) in
    let ordered = leb-true s.from s.to forward in
    let end : s.from + (s.to - s.from) ≡ s.to = omega arith in
    let L = or_empty_block (blocks g.1) in
    ap (λ c. cond c [] ((path_of g.0 (file_name f), parts_in 0 (span_of (segment_of (file_name f) s)) L) ∷ [])) mark
    ∙ ap (λ n. (path_of g.0 (file_name f), parts_in 0 (span_ends s.from n) L) ∷ []) end
    ∙ ap (λ p. (p, parts_in 0 s L) ∷ []) (ap (λ d. path_of d (file_name f)) (sym here) ∙ sym whole)

segments_again : (g : Group) (f : FileParts) (ss : List Span) → own g.0 f ≡ true → list_all is_forward ss ≡ true
    → flat_map (piece_of (line_of g)) (map (segment_of (file_name f)) ss) ≡ map (λ s. (f.path, parts_in 0 s (or_empty_block (blocks g.1)))) ss
segments_again g f [] h forward = refl
segments_again g f (s ∷ ss) h forward =
    let parts = and_parts (is_forward s) (list_all is_forward ss) forward in
    ap (λ ps. ps ++ flat_map (piece_of (line_of g)) (map (segment_of (file_name f)) ss)) (segment_again g f s h parts.0)
    ∙ ap (λ ps. (f.path, parts_in 0 s (or_empty_block (blocks g.1))) ∷ ps) (segments_again g f ss h parts.1)

line_again : (g : Group) → each_at own g ≡ true → stream_pieces (line_of g) ≡ flat_map (file_pieces g) g.1
line_again g h =
    flat_map-flat_map (piece_of (line_of g)) (file_segments (blocks g.1)) g.1
    ∙ flat_map_same (own g.0) (λ f. flat_map (piece_of (line_of g)) (file_segments (blocks g.1) f)) (file_pieces g)
    (λ f o. segments_again g f (or_empty (spans (blocks g.1) f.parts)) o (segments_forward (blocks g.1) f.parts)) g.1 h

-- all of them, group by group
pieces_again : (fs : List FileParts) → list_all (λ f. is_named_path f.path) fs ≡ true → pieces (normal_of fs) ≡ flat_map (λ g. flat_map (file_pieces g) g.1) (grouped (by_directory fs))
unfolding normal_of
pieces_again fs named =
    let gs = grouped (by_directory fs) in
    let owned = grouped-each own (by_directory fs) (list_all-map (λ e. own e.0 e.1) (λ f. (directory f, f)) fs
    ∙ list_all-weaker (λ (f : FileParts). is_named_path f.path) (λ f. own (directory f) f) (λ f h. and_from (bytes_eq (directory f) (directory f)) (is_named_path f.path) ((bytes_decides (directory f) (directory f)).1 refl) h) fs named) in
    flat_map-map stream_pieces line_of gs
    ∙ flat_map_same (each_at own) (λ g. stream_pieces (line_of g)) (λ g. flat_map (file_pieces g) g.1) line_again gs owned

-- The values at a path.

selected_map : (k path : List ℕ) (V : Span → List Part) (ss : List Span) (b : Bool) → has_key k path ≡ b → selected k (map {B = List ℕ × List Part} (λ s. (path, V s)) ss) ≡ cond b (map V ss) []
selected_map k path V [] true h = refl
selected_map k path V [] false h = refl
selected_map k path V (s ∷ ss) true h =
    ap (λ c. cond c (V s ∷ []) [] ++ selected k (map {B = List ℕ × List Part} (λ s. (path, V s)) ss)) h ∙ ap (λ vs. V s ∷ vs) (selected_map k path V ss true h)
selected_map k path V (s ∷ ss) false h =
    ap (λ c. cond c (V s ∷ []) [] ++ selected k (map {B = List ℕ × List Part} (λ s. (path, V s)) ss)) h ∙ selected_map k path V ss false h

-- what a group has at a path
abbrev at_path : List ℕ → Group → List (List Part)
at_path k g = flat_map (λ f. cond (has_key k f.path) (values g f) []) g.1

selected_groups : (k : List ℕ) (gs : List Group) → selected k (flat_map (λ g. flat_map (file_pieces g) g.1) gs) ≡ flat_map (at_path k) gs
selected_groups k gs =
    let pick : List ℕ × List Part → List (List Part) = λ e. cond (has_key k e.0) (e.1 ∷ []) [] in
    flat_map-flat_map pick (λ (g : Group). flat_map (file_pieces g) g.1) gs
    ∙ flat_map_same_all (λ g. flat_map pick (flat_map (file_pieces g) g.1)) (at_path k)
    (λ g. flat_map-flat_map pick (file_pieces g) g.1
    ∙ flat_map_same_all (λ f. flat_map pick (file_pieces g f)) (λ f. cond (has_key k f.path) (values g f) [])
    (λ f. selected_map k f.path (λ s. parts_in 0 s (or_empty_block (blocks g.1))) (or_empty (spans (blocks g.1) f.parts)) (has_key k f.path) refl) g.1) gs

-- the directory of a path alone has it
other_group : (k : List ℕ) (g : Group) → each_at own g ≡ true → has_key (path_parts k).0 g.0 ≡ false → at_path k g ≡ []
other_group k g h other = flat_map_none (own g.0) (λ f. cond (has_key k f.path) (values g f) []) (λ f o. by_key f o (has_key k f.path) refl) g.1 h
  where
    by_key : (f : FileParts) → own g.0 f ≡ true → (b : Bool) → has_key k f.path ≡ b → cond b (values g f) [] ≡ []
    by_key f o true e =
        let here = (bytes_decides (directory f) g.0).0 (and_parts (bytes_eq (directory f) g.0) (is_named_path f.path) o).0 in
        let same : (path_parts k).0 ≡ g.0 = ap (λ p. (path_parts p).0) (at-same k f.path e) ∙ here in
        absurd (false≢true (sym other ∙ ap (has_key (path_parts k).0) (sym same) ∙ key-same (path_parts k).0))
    by_key f o false e = refl

-- the group of a file among all
abbrev group_of : List FileParts → List ℕ → Group
group_of fs d = (d, values_at (grouped (by_directory fs)) d)

abbrev pieces_at : List FileParts → FileParts → List (List Part)
pieces_at fs f = values (group_of fs (directory f)) f

in_group : (fs : List FileParts) (d : List ℕ) → values_at (grouped (by_directory fs)) d ≡ flat_map (λ f. cond (has_key d (directory f)) (f ∷ []) []) fs
in_group fs d = grouped-values (by_directory fs) d ∙ flat_map-map (λ (e : List ℕ × FileParts). cond (has_key d e.0) (e.1 ∷ []) []) (λ f. (directory f, f)) fs

one_file : (fs : List FileParts) (k : List ℕ) (f : FileParts) (b : Bool) → has_key k f.path ≡ b
    → flat_map (λ f. cond (has_key k f.path) (values (group_of fs (path_parts k).0) f) []) (cond (has_key (path_parts k).0 (directory f)) (f ∷ []) []) ≡ cond b (pieces_at fs f) []
one_file fs k f true h =
    let d = (path_parts k).0 in
    let Q : FileParts → List (List Part) = λ f. cond (has_key k f.path) (values (group_of fs d) f) [] in
    let same : d ≡ directory f = ap (λ p. (path_parts p).0) (at-same k f.path h) in
    let inside : has_key d (directory f) ≡ true = ap (has_key d) (sym same) ∙ key-same d in
    ap (λ c. flat_map Q (cond c (f ∷ []) [])) inside ∙ append-nil (Q f) ∙ ap (λ c. cond c (values (group_of fs d) f) []) h ∙ ap (λ q. values (group_of fs q) f) same
one_file fs k f false h = by_directory_of (has_key (path_parts k).0 (directory f))
  where
    by_directory_of : (c : Bool) → flat_map (λ f. cond (has_key k f.path) (values (group_of fs (path_parts k).0) f) []) (cond c (f ∷ []) []) ≡ []
    by_directory_of true = append-nil (cond (has_key k f.path) (values (group_of fs (path_parts k).0) f) []) ∙ ap (λ c. cond c (values (group_of fs (path_parts k).0) f) []) h
    by_directory_of false = refl

selected_again : (fs : List FileParts) → list_all (λ f. is_named_path f.path) fs ≡ true → (k : List ℕ) → selected k (pieces (normal_of fs)) ≡ flat_map (λ f. cond (has_key k f.path) (pieces_at fs f) []) fs
selected_again fs named k =
    let gs = grouped (by_directory fs) in
    let d = (path_parts k).0 in
    let owned = grouped-each own (by_directory fs) (list_all-map (λ e. own e.0 e.1) (λ f. (directory f, f)) fs
    ∙ list_all-weaker (λ (f : FileParts). is_named_path f.path) (λ f. own (directory f) f) (λ f h. and_from (bytes_eq (directory f) (directory f)) (is_named_path f.path) ((bytes_decides (directory f) (directory f)).1 refl) h) fs named) in
    let Q : FileParts → List (List Part) = λ f. cond (has_key k f.path) (values (group_of fs d) f) [] in
    ap (selected k) (pieces_again fs named)
    ∙ selected_groups k gs
    ∙ one_given (at_path k) (each_at own) d (other_group k) refl gs (grouped-ascending (by_directory fs)) owned
    ∙ ap (flat_map Q) (in_group fs d)
    ∙ flat_map-flat_map Q (λ f. cond (has_key d (directory f)) (f ∷ []) []) fs
    ∙ flat_map_same_all (λ f. flat_map Q (cond (has_key d (directory f)) (f ∷ []) [])) (λ f. cond (has_key k f.path) (pieces_at fs f) []) (λ f. one_file fs k f (has_key k f.path) refl) fs

-- The files of the normal form.

-- each file's path, and what its segments stand for
abbrev file_table : List FileParts → List FileParts → List (List ℕ × List (List Part))
file_table all fs = map (λ f. (f.path, pieces_at all f)) fs

table_paths : (all fs : List FileParts) → keys_of (file_table all fs) ≡ map (λ (f : FileParts). f.path) fs
table_paths all [] = refl
table_paths all (f ∷ fs) = ap (λ ks. f.path ∷ ks) (table_paths all fs)

some_segments : (V : Span → List Part) (ss : List Span) → ltb 0 (length (map V (or_empty ss))) ≡ true
some_segments V [] = lt-ltb 0 1 (omega arith)
some_segments V (s ∷ ss) = lt-ltb 0 (length (map V (s ∷ ss))) (omega arith)

table_filled : (all fs : List FileParts) → list_all is_filled (file_table all fs) ≡ true
table_filled all [] = refl
table_filled all (f ∷ fs) =
    let bs = blocks (group_of all (directory f)).1 in
    and_from (is_filled (f.path, pieces_at all f)) (list_all is_filled (file_table all fs)) (some_segments (λ s. parts_in 0 s (or_empty_block bs)) (spans bs f.parts)) (table_filled all fs)

table_again : (fs : List FileParts) → IsTidy fs → grouped (pieces (normal_of fs)) ≡ file_table fs fs
table_again fs tidy =
    let ascending = subst (λ ks. IsStrictlySortedBy byte_order ks) (sym (table_paths fs fs)) tidy.ascending in
    same_maps (grouped (pieces (normal_of fs))) (file_table fs fs) (grouped-ascending (pieces (normal_of fs))) ascending (grouped-filled (pieces (normal_of fs))) (table_filled fs fs)
    (λ k. grouped-values (pieces (normal_of fs)) k ∙ selected_again fs tidy.named k
    ∙ sym (values_are (file_table fs fs) k ascending ∙ flat_map-map (λ (g : List ℕ × List (List Part)). cond (has_key k g.0) g.1 []) (λ f. (f.path, pieces_at fs f)) fs))

-- each file's blocks are among its group's
diagonal : (key : FileParts → List ℕ) (R : List ℕ → FileParts → Bool) (fs : List FileParts) → ((d : List ℕ) → list_all (λ f. list_all (R d) (cond (has_key d (key f)) (f ∷ []) [])) fs ≡ true) → list_all (λ f. R (key f) f) fs ≡ true
diagonal key R [] h = refl
diagonal key R (f ∷ fs) h =
    let here = and_parts (list_all (R (key f)) (cond (has_key (key f) (key f)) (f ∷ []) [])) (list_all (λ g. list_all (R (key f)) (cond (has_key (key f) (key g)) (g ∷ []) [])) fs) (h (key f)) in
    let one = sym (ap (λ c. list_all (R (key f)) (cond c (f ∷ []) [])) (key-same (key f))) ∙ here.0 in
    and_from (R (key f) f) (list_all (λ g. R (key g) g) fs) (and_parts (R (key f) f) true one).0
    (diagonal key R fs (λ d. (and_parts (list_all (R d) (cond (has_key d (key f)) (f ∷ []) [])) (list_all (λ g. list_all (R d) (cond (has_key d (key g)) (g ∷ []) [])) fs) (h d)).1))

abbrev knows : List FileParts → List ℕ → FileParts → Bool
knows all d f = list_all (is_known (blocks (group_of all d).1)) f.parts

all_known : (fs : List FileParts) → list_all (λ f. knows fs (directory f) f) fs ≡ true
all_known fs =
    diagonal directory (knows fs) fs (λ d.
    sym (list_all-flat_map (knows fs d) (λ f. cond (has_key d (directory f)) (f ∷ []) []) fs)
    ∙ ap (list_all (knows fs d)) (sym (in_group fs d)) ∙ blocks_known (group_of fs d).1)

abbrev with_parts : List ℕ → List Part → FileParts
with_parts path parts = record { path = path; parts = parts }

one_again : (all : List FileParts) (f : FileParts) → knows all (directory f) f ≡ true → are_sound f.parts ≡ true → IsJoined f → file_of (f.path, pieces_at all f) ≡ f
one_again all f known sound apart =
    let bs = blocks (group_of all (directory f)).1 in
    ap (λ ps. with_parts f.path (joined_parts ps)) (flat_map-map (λ (ps : List Part). ps) (λ s. parts_in 0 s (or_empty_block bs)) (or_empty (spans bs f.parts)))
    ∙ ap (with_parts f.path) (file_again bs f.parts known sound apart)

each_again : (all fs : List FileParts) → list_all (λ f. knows all (directory f) f) fs ≡ true → list_all (λ f. are_sound f.parts) fs ≡ true → AllByRecursion IsJoined fs → map file_of (file_table all fs) ≡ fs
each_again all [] known sound apart = refl
each_again all (f ∷ fs) known sound apart =
    let k = and_parts (knows all (directory f) f) (list_all (λ f. knows all (directory f) f) fs) known in
    let s = and_parts (are_sound f.parts) (list_all (λ (f : FileParts). are_sound f.parts) fs) sound in
    ap (λ g. g ∷ map file_of (file_table all fs)) (one_again all f k.0 s.0 apart.0) ∙ ap (λ gs. f ∷ gs) (each_again all fs k.1 s.1 apart.1)

files_again : (fs : List FileParts) → IsTidy fs → files (normal_of fs) ≡ fs
unfolding files
files_again fs tidy = ap (map file_of) (table_again fs tidy) ∙ each_again fs fs (all_known fs) tidy.sound tidy.apart

-- stripping what is stripped changes nothing
parts_stripped : (ps : List Part) → map stripped_part (map stripped_part ps) ≡ map stripped_part ps
parts_stripped [] = refl
parts_stripped (p ∷ ps) =
    ap (λ l. part_with l p.offset p.length ∷ map stripped_part (map stripped_part ps)) (stripped-again p.locator) ∙ ap (λ qs. stripped_part p ∷ qs) (parts_stripped ps)

files_stripped : (fs : List FileParts) → map stripped_file (map stripped_file fs) ≡ map stripped_file fs
files_stripped [] = refl
files_stripped (f ∷ fs) =
    ap (λ ps. with_parts f.path ps ∷ map stripped_file (map stripped_file fs)) (parts_stripped f.parts) ∙ ap (λ gs. stripped_file f ∷ gs) (files_stripped fs)

pub ranges-normal : (m : Manifest) → IsGood m → ranges (normal m) ≡ ranges m
ranges-normal m good = ap (map stripped_file) (files_again (ranges m) (ranges_tidy m (good_is m good))) ∙ files_stripped (files m)

pub normal-normal : (m : Manifest) → IsGood m → normal (normal m) ≡ normal m
normal-normal m good = ap normal_of (ranges-normal m good)
