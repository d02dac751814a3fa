-- A normal form whose numbers are small is good.
-- Laws: `whole_join`, `line_locators`, `normal-good`.
use Rattle.std.proofs.Common.{◌≡◌, ℕ, ◌+◌, ◌-◌, ◌≤◌, ◌<◌, Bool, true, false, ◌&&◌, cond, eqb, leb, ltb, List, [], ◌∷◌, ◌++◌, length, Option, Some, None, map, refl, ap, sym, ◌∙◌, arith, append_assoc, length-append}
use Rattle.std.specs.Prelude.{codes, fold, is_some, unwrap_or}
use Rattle.std.specs.List.{list_all, flat_map, slice_split, onto_first}
use Rattle.std.specs.Str.{bytes_eq}
use Rattle.std.proofs.lemmas.Bool.{and_parts, and_from, or_left, leb-true, le-leb, lt-ltb, false≢true}
use Rattle.std.proofs.lemmas.List.Folds.{list_all-append, list_all-map}
use Rattle.std.proofs.lemmas.List.Sums.{sum_by-cons}
use Rattle.std.proofs.lemmas.Option.{none-some, same_Some}
use lib.Pointwise.{bytes_decides}
use Rattle.keep_spec.specs.Locator.{is_locator, is_number, size, size_digits, hints, cut_before_plus}
use Rattle.keep_spec.specs.Names.{is_component, is_path, is_stream_name}
use Rattle.keep_spec.specs.Manifest.{IsGood, total_size, is_segment, is_named, is_within}
use Rattle.keep_spec.specs.declared.manifest.Manifest.{Manifest}
use Rattle.keep_spec.specs.declared.manifest.Stream.{Stream}
use Rattle.keep_spec.specs.declared.manifest.Segment.{Segment}
use Rattle.keep_manifest.specs.Good.{is_good_segment, is_good_stream, is_good_manifest}
use Rattle.keep_locator.proofs.Lists.{list_all-weaker}
use Rattle.keep_manifest.proofs.GoodManifests.{good_is, good_tests}
use Rattle.keep_normal.specs.declared.part.Part.{Part}
use Rattle.keep_normal.specs.declared.part.FileParts.{FileParts}
use Rattle.keep_normal.specs.declared.span.Span.{Span}
use Rattle.keep_normal.specs.Files.{span_of, parts_in, is_mark, path_of, piece_of, stream_pieces, pieces, files, ranges}
use Rattle.keep_normal.specs.Grouped.{grouped}
use Rattle.keep_normal.specs.Normal.{cut_last, path_parts, directory, file_name, start_at, with_block, locators_of, blocks, span_in, spans, meet, both_spans, segment_of, or_empty, file_segments, or_empty_block, line_of, by_directory, normal_of, normal, is_small_segment, is_small_stream, is_small}
use Rattle.keep_normal.specs.Joined.{joined_before, joined}
use Rattle.keep_normal.specs.Sound.{is_sound, are_sound}
use Rattle.keep_normal.proofs.NormalFiles.{keys_named, segment_named}
use Rattle.keep_normal.proofs.FileSegments.{is_known, some_is, segments_forward, blocks_known}
use Rattle.keep_normal.proofs.TooLarge.{list_all-flat_map}
use Rattle.keep_normal.proofs.JoinedNeighbours.{one_or_two}
use Rattle.keep_normal.proofs.Grouping.{is_filled, grouped-filled, each_at, grouped-each}
use Rattle.keep_normal.proofs.FilePaths.{cut_is}
use Rattle.keep_normal.proofs.LastSlash.{cut_last-at}
use Rattle.keep_normal.proofs.SoundFiles.{good_stream_is, ranges_sound}
use Rattle.keep_normal.proofs.SoundParts.{sound_is}
use Rattle.keep_normal.proofs.SplitSpans.{is_forward}
use Rattle.keep_normal.proofs.BlockStarts.{start_by}

-- Names: the directory of a file is the name of a stream, and its own name a path.

some_part : (xs : List ℕ) → (y : List ℕ) × (ys : List (List ℕ)) × (slice_split (λ b. eqb b 47) xs ≡ y ∷ ys)
some_part [] = ([], [], refl)
some_part (x ∷ xs) = by_slash (eqb x 47) (slice_split (λ b. eqb b 47) xs)
  where
    by_slash : (b : Bool) (parts : List (List ℕ)) → (y : List ℕ) × (ys : List (List ℕ)) × (cond b ([] ∷ parts) (onto_first x parts) ≡ y ∷ ys)
    by_slash true parts = ([], parts, refl)
    by_slash false [] = (x ∷ [], [], refl)
    by_slash false (p ∷ ps) = (x ∷ p, ps, refl)

onto_joined : (x : ℕ) (parts more : List (List ℕ)) (y : List ℕ) (ys : List (List ℕ)) → parts ≡ y ∷ ys → onto_first x (parts ++ more) ≡ onto_first x parts ++ more
onto_joined x parts more y ys e = ap (λ ps. onto_first x (ps ++ more)) e ∙ sym (ap (λ ps. onto_first x ps ++ more) e)

split_joined : (xs ys : List ℕ) → slice_split (λ b. eqb b 47) (xs ++ 47 ∷ ys) ≡ slice_split (λ b. eqb b 47) xs ++ slice_split (λ b. eqb b 47) ys
split_joined [] ys = refl
split_joined (x ∷ xs) ys =
    let parts = slice_split (λ b. eqb b 47) xs in
    let more = slice_split (λ b. eqb b 47) ys in
    let some = some_part xs in
    ap (λ ps. cond (eqb x 47) ([] ∷ ps) (onto_first x ps)) (split_joined xs ys) ∙ by_slash x parts more some.0 some.1 some.2 (eqb x 47)
  where
    by_slash : (x : ℕ) (parts more : List (List ℕ)) (y : List ℕ) (ys : List (List ℕ)) → parts ≡ y ∷ ys → (b : Bool) → cond b ([] ∷ (parts ++ more)) (onto_first x (parts ++ more)) ≡ cond b ([] ∷ parts) (onto_first x parts) ++ more
    by_slash x parts more y ys e true = refl
    by_slash x parts more y ys e false = onto_joined x parts more y ys e

path_joined : (xs ys : List ℕ) → is_path xs ≡ true → is_path ys ≡ true → is_path (xs ++ 47 ∷ ys) ≡ true
unfolding is_path
path_joined xs ys hx hy =
    ap (list_all is_component) (split_joined xs ys) ∙ list_all-append is_component (slice_split (λ b. eqb b 47) xs) (slice_split (λ b. eqb b 47) ys)
    ∙ and_from (list_all is_component (slice_split (λ b. eqb b 47) xs)) (list_all is_component (slice_split (λ b. eqb b 47) ys)) hx hy

path_parted : (xs ys : List ℕ) → is_path (xs ++ 47 ∷ ys) ≡ true → (is_path xs ≡ true) × (is_path ys ≡ true)
unfolding is_path
path_parted xs ys h =
    and_parts (list_all is_component (slice_split (λ b. eqb b 47) xs)) (list_all is_component (slice_split (λ b. eqb b 47) ys))
    (sym (ap (list_all is_component) (split_joined xs ys) ∙ list_all-append is_component (slice_split (λ b. eqb b 47) xs) (slice_split (λ b. eqb b 47) ys)) ∙ h)

stream_joined : (name path : List ℕ) → is_stream_name name ≡ true → is_path path ≡ true → is_stream_name (name ++ 47 ∷ path) ≡ true
stream_joined [] path hn hp = absurd (false≢true hn)
stream_joined (a ∷ []) path hn hp = and_from (eqb a 46 && eqb 47 47) (is_path path) (and_from (eqb a 46) (eqb 47 47) hn refl) hp
stream_joined (a ∷ b ∷ rest) path hn hp =
    let parts = and_parts (eqb a 46 && eqb b 47) (is_path rest) hn in
    and_from (eqb a 46 && eqb b 47) (is_path (rest ++ 47 ∷ path)) parts.0 (path_joined rest path parts.1 hp)

abbrev pub is_whole_path : List ℕ → Bool
is_whole_path path = is_stream_name (path_parts path).0 && is_path (path_parts path).1

whole_by : (path : List ℕ) (p : List ℕ × List ℕ) → cut_last path ≡ Some p → is_stream_name p.0 ≡ true → is_path p.1 ≡ true → is_whole_path path ≡ true
whole_by path p e hd hn =
    ap (λ (o : Option (List ℕ × List ℕ)). is_stream_name (unwrap_or o ([], path)).0 && is_path (unwrap_or o ([], path)).1) e
    ∙ and_from (is_stream_name p.0) (is_path p.1) hd hn

pub whole_join : (name path : List ℕ) (o : Option (List ℕ × List ℕ)) → cut_last path ≡ o → is_stream_name name ≡ true → is_path path ≡ true → is_whole_path (path_of name path) ≡ true
whole_join name path None e hn hp = whole_by (path_of name path) (name, path) (cut_last-at name path e) hn hp
whole_join name path (Some p) e hn hp =
    let cut = cut_is path p e in
    let whole : path_of name path ≡ path_of (path_of name p.0) p.1 = ap (λ t. name ++ 47 ∷ t) cut.whole ∙ sym (append_assoc name (47 ∷ p.0) (47 ∷ p.1)) in
    let parts = path_parted p.0 p.1 (sym (ap is_path cut.whole) ∙ hp) in
    whole_by (path_of name path) (path_of name p.0, p.1) (ap cut_last whole ∙ cut_last-at (path_of name p.0) p.1 cut.none) (stream_joined name p.0 hn parts.0) parts.1

abbrev has_whole_path : List ℕ × List Part → Bool
has_whole_path e = is_whole_path e.0

piece_whole : (s : Stream) (g : Segment) (total : ℕ) → is_stream_name s.name ≡ true → is_good_segment total g ≡ true → list_all has_whole_path (piece_of s g) ≡ true
piece_whole s g total hn good = by_mark (is_mark g) refl
  where
    by_mark : (b : Bool) → is_mark g ≡ b → list_all has_whole_path (cond b [] ((path_of s.name g.name, parts_in 0 (span_of g) s.locators) ∷ [])) ≡ true
    by_mark true m = refl
    by_mark false m = and_from (is_whole_path (path_of s.name g.name)) true (whole_join s.name g.name (cut_last g.name) refl hn (segment_named total g good m)) refl

stream_whole : (s : Stream) → is_good_stream s ≡ true → list_all has_whole_path (stream_pieces s) ≡ true
stream_whole s good =
    let is = good_stream_is s good in
    list_all-flat_map has_whole_path (piece_of s) s.segments
    ∙ list_all-weaker (is_good_segment (total_size s.locators)) (λ g. list_all has_whole_path (piece_of s g)) (λ g h. piece_whole s g (total_size s.locators) is.name h) s.segments is.segments

ranges_whole : (m : Manifest) → is_good_manifest m ≡ true → list_all (λ f. is_whole_path f.path) (ranges m) ≡ true
unfolding files
ranges_whole m good =
    keys_named is_whole_path (grouped (pieces m)) (grouped-filled (pieces m)) (grouped-each (λ k _. is_whole_path k) (pieces m)
    (list_all-flat_map has_whole_path stream_pieces m.streams ∙ list_all-weaker is_good_stream (λ s. list_all has_whole_path (stream_pieces s)) stream_whole m.streams good))

-- Blocks: each is a locator, and spans lie within them.

one_more : (bs : List (List ℕ)) (l : List ℕ) (b : Bool) → list_all is_locator bs ≡ true → is_locator l ≡ true → list_all is_locator (cond b bs (bs ++ l ∷ [])) ≡ true
one_more bs l true hb hl = hb
one_more bs l false hb hl = list_all-append is_locator bs (l ∷ []) ∙ and_from (list_all is_locator bs) (list_all is_locator (l ∷ [])) hb (and_from (is_locator l) true hl refl)

along_locators : (ls bs : List (List ℕ)) → list_all is_locator bs ≡ true → list_all is_locator ls ≡ true → list_all is_locator (fold with_block bs ls) ≡ true
along_locators [] bs hb h = hb
along_locators (l ∷ ls) bs hb h =
    let parts = and_parts (is_locator l) (list_all is_locator ls) h in
    along_locators ls (with_block bs l) (one_more bs l (is_some (start_at bs l)) hb parts.0) parts.1

file_locators : (f : FileParts) → are_sound f.parts ≡ true → list_all is_locator (locators_of f) ≡ true
file_locators f h = list_all-map is_locator (λ (p : Part). p.locator) f.parts ∙ list_all-weaker is_sound (λ p. is_locator p.locator) (λ p hp. (sound_is p hp).locator) f.parts h

blocks_locators : (fs : List FileParts) → list_all (λ f. are_sound f.parts) fs ≡ true → list_all is_locator (blocks fs) ≡ true
blocks_locators fs h =
    along_locators (flat_map locators_of fs) [] refl
    (list_all-flat_map is_locator locators_of fs ∙ list_all-weaker (λ (f : FileParts). are_sound f.parts) (λ f. list_all is_locator (locators_of f)) file_locators fs h)

empty_block : is_locator (codes "d41d8cd98f00b204e9800998ecf8427e+0") ≡ true
unfolding is_locator size_digits hints is_number cut_before_plus
empty_block = refl

pub line_locators : (bs : List (List ℕ)) → list_all is_locator bs ≡ true → (ltb 0 (length (or_empty_block bs)) ≡ true) × (list_all is_locator (or_empty_block bs) ≡ true)
line_locators [] h = (refl, and_from (is_locator (codes "d41d8cd98f00b204e9800998ecf8427e+0")) true empty_block refl)
line_locators (b ∷ bs) h = (lt-ltb 0 (length (b ∷ bs)) (omega arith), h)

fits_by : (b : List ℕ) (bs : List (List ℕ)) (l : List ℕ) (n : ℕ) (e : Bool) (o : Option ℕ) → bytes_eq b l ≡ e → start_by (size b) e o ≡ Some n → ((k : ℕ) → o ≡ Some k → k + size l ≤ total_size bs) → n + size l ≤ total_size (b ∷ bs)
fits_by b bs l n true o e h rest =
    let zero = same_Some 0 n h in
    let same : size b ≡ size l = ap size ((bytes_decides b l).0 e) in
    omega (arith, zero, same, sum_by-cons size b bs)
fits_by b bs l n false None e h rest = absurd (none-some n h)
fits_by b bs l n false (Some k) e h rest =
    let next = same_Some (size b + k) n h in
    omega (arith, next, rest k refl, sum_by-cons size b bs)

fits : (bs : List (List ℕ)) (l : List ℕ) (n : ℕ) → start_at bs l ≡ Some n → n + size l ≤ total_size bs
fits [] l n h = absurd (none-some n h)
fits (b ∷ bs) l n h = fits_by b bs l n (bytes_eq b l) (start_at bs l) refl h (fits bs l)

abbrev ends_by : ℕ → Span → Bool
ends_by total s = leb s.to total

span_fits : (bs : List (List ℕ)) (p : Part) → is_known bs p ≡ true → is_sound p ≡ true → ends_by (total_size bs) (span_in bs p) ≡ true
span_fits bs p known sound =
    let at = some_is (start_at bs p.locator) known in
    let from : unwrap_or (start_at bs p.locator) 0 ≡ at.0 = ap (λ o. unwrap_or o 0) at.1 in
    let room = fits bs p.locator at.0 at.1 in
    let is = sound_is p sound in
    le-leb (span_in bs p).to (total_size bs) (omega (arith, from, room, is.ends))

spans_fit : (bs : List (List ℕ)) (ps : List Part) → list_all (is_known bs) ps ≡ true → are_sound ps ≡ true → list_all (ends_by (total_size bs)) (map (span_in bs) ps) ≡ true
spans_fit bs [] known sound = refl
spans_fit bs (p ∷ ps) known sound =
    let k = and_parts (is_known bs p) (list_all (is_known bs) ps) known in
    let s = and_parts (is_sound p) (are_sound ps) sound in
    and_from (ends_by (total_size bs) (span_in bs p)) (list_all (ends_by (total_size bs)) (map (span_in bs) ps)) (span_fits bs p k.0 s.0) (spans_fit bs ps k.1 s.1)

before_fits : (total : ℕ) (s : Span) (ts : List Span) → ends_by total s ≡ true → list_all (ends_by total) ts ≡ true → list_all (ends_by total) (joined_before meet both_spans s ts) ≡ true
before_fits total s [] hs h = and_from (ends_by total s) true hs refl
before_fits total s (t ∷ ts) hs h = by_meet (meet s t) (and_parts (ends_by total t) (list_all (ends_by total) ts) h)
  where
    by_meet : (b : Bool) → (ends_by total t ≡ true) × (list_all (ends_by total) ts ≡ true) → list_all (ends_by total) (one_or_two both_spans b s t ts) ≡ true
    by_meet true parts = and_from (ends_by total (both_spans s t)) (list_all (ends_by total) ts) parts.0 parts.1
    by_meet false parts = and_from (ends_by total s) (list_all (ends_by total) (t ∷ ts)) hs h

joined_fit : (total : ℕ) (ss : List Span) → list_all (ends_by total) ss ≡ true → list_all (ends_by total) (joined meet both_spans ss) ≡ true
joined_fit total [] h = refl
joined_fit total (s ∷ ss) h =
    let parts = and_parts (ends_by total s) (list_all (ends_by total) ss) h in
    before_fits total s (joined meet both_spans ss) parts.0 (joined_fit total ss parts.1)

or_empty_fit : (total : ℕ) (ss : List Span) → list_all (ends_by total) ss ≡ true → list_all (ends_by total) (or_empty ss) ≡ true
or_empty_fit total [] h = and_from (ends_by total (record { from = 0; to = 0 })) true (le-leb 0 total (omega arith)) refl
or_empty_fit total (s ∷ ss) h = h

file_fits : (bs : List (List ℕ)) (ps : List Part) → list_all (is_known bs) ps ≡ true → are_sound ps ≡ true → list_all (ends_by (total_size (or_empty_block bs))) (or_empty (spans bs ps)) ≡ true
file_fits [] [] known sound = or_empty_fit (total_size (or_empty_block [])) [] refl
file_fits [] (p ∷ ps) known sound = absurd (false≢true (and_parts (is_known [] p) (list_all (is_known []) ps) known).0)
file_fits (b ∷ bs) ps known sound =
    let total = total_size (b ∷ bs) in
    or_empty_fit total (spans (b ∷ bs) ps) (joined_fit total (map (span_in (b ∷ bs)) ps) (spans_fit (b ∷ bs) ps known sound))

-- Segments: a path, within the blocks.

segment_fits : (total : ℕ) (name : List ℕ) (s : Span) → is_path name ≡ true → is_forward s ≡ true → ends_by total s ≡ true → is_segment total (segment_of name s) ≡ true
segment_fits total name s path forward fit =
    let g = segment_of name s in
    let ordered = leb-true s.from s.to forward in
    let ends = leb-true s.to total fit in
    and_from (is_named g) (is_within total g) (or_left (is_path name) (eqb (s.to - s.from) 0 && bytes_eq name (codes ".")) path) (le-leb (s.from + (s.to - s.from)) total (omega arith))

segments_fit : (total : ℕ) (name : List ℕ) (ss : List Span) → is_path name ≡ true → list_all is_forward ss ≡ true → list_all (ends_by total) ss ≡ true → list_all (is_segment total) (map (segment_of name) ss) ≡ true
segments_fit total name [] path forward fit = refl
segments_fit total name (s ∷ ss) path forward fit =
    let f = and_parts (is_forward s) (list_all is_forward ss) forward in
    let e = and_parts (ends_by total s) (list_all (ends_by total) ss) fit in
    and_from (is_segment total (segment_of name s)) (list_all (is_segment total) (map (segment_of name) ss)) (segment_fits total name s path f.0 e.0) (segments_fit total name ss path f.1 e.1)

all_both : {X : Type 0} (p q : X → Bool) (xs : List X) → list_all p xs ≡ true → list_all q xs ≡ true → list_all (λ x. p x && q x) xs ≡ true
all_both p q [] hp hq = refl
all_both p q (x ∷ xs) hp hq =
    let a = and_parts (p x) (list_all p xs) hp in
    let b = and_parts (q x) (list_all q xs) hq in
    and_from (p x && q x) (list_all (λ y. p y && q y) xs) (and_from (p x) (q x) a.0 b.0) (all_both p q xs a.1 b.1)

-- Lines.

abbrev Group : Type 0
Group = List ℕ × List FileParts

-- a file of this directory, with sound parts
abbrev fit : List ℕ → FileParts → Bool
fit k f = bytes_eq (directory f) k && is_whole_path f.path && are_sound f.parts

file_segments_fit : (bs : List (List ℕ)) (f : FileParts) → is_path (file_name f) ≡ true → list_all (is_known bs) f.parts ≡ true → are_sound f.parts ≡ true → list_all (is_segment (total_size (or_empty_block bs))) (file_segments bs f) ≡ true
file_segments_fit bs f path known sound = segments_fit (total_size (or_empty_block bs)) (file_name f) (or_empty (spans bs f.parts)) path (segments_forward bs f.parts) (file_fits bs f.parts known sound)

some_spans : (name : List ℕ) (ss : List Span) → 0 < length (map (segment_of name) (or_empty ss))
some_spans name [] = omega arith
some_spans name (s ∷ ss) = omega arith

some_segments : (bs : List (List ℕ)) (fs : List FileParts) → ltb 0 (length fs) ≡ true → ltb 0 (length (flat_map (file_segments bs) fs)) ≡ true
some_segments bs [] h = absurd (false≢true h)
some_segments bs (f ∷ fs) h =
    lt-ltb 0 (length (flat_map (file_segments bs) (f ∷ fs))) (omega (arith, some_spans (file_name f) (spans bs f.parts), length-append (file_segments bs f) (flat_map (file_segments bs) fs)))

line_good : (g : Group) → is_filled g ≡ true → each_at fit g ≡ true → is_small_stream (line_of g) ≡ true → is_good_stream (line_of g) ≡ true
line_good (k, []) filled each small = absurd (false≢true filled)
line_good (k, f ∷ fs) filled each small =
    let gs = f ∷ fs in
    let bs = blocks gs in
    let total = total_size (or_empty_block bs) in
    let first = and_parts (bytes_eq (directory f) k && is_whole_path f.path) (are_sound f.parts) (and_parts (fit k f) (list_all (fit k) fs) each).0 in
    let here = and_parts (bytes_eq (directory f) k) (is_whole_path f.path) first.0 in
    let name : is_stream_name k ≡ true = sym (ap is_stream_name ((bytes_decides (directory f) k).0 here.0)) ∙ (and_parts (is_stream_name (directory f)) (is_path (file_name f)) here.1).0 in
    let sound = list_all-weaker (fit k) (λ f. are_sound f.parts) (λ f h. (and_parts (bytes_eq (directory f) k && is_whole_path f.path) (are_sound f.parts) h).1) gs each in
    let locators = line_locators bs (blocks_locators gs sound) in
    let segments = list_all-flat_map (is_segment total) (file_segments bs) gs
    ∙ list_all-weaker (λ f. fit k f && list_all (is_known bs) f.parts) (λ f. list_all (is_segment total) (file_segments bs f))
    (λ f h.
    let p = and_parts (fit k f) (list_all (is_known bs) f.parts) h in
    let q = and_parts (bytes_eq (directory f) k && is_whole_path f.path) (are_sound f.parts) p.0 in
    let w = and_parts (is_stream_name (directory f)) (is_path (file_name f)) (and_parts (bytes_eq (directory f) k) (is_whole_path f.path) q.0).1 in
    file_segments_fit bs f w.1 p.1 q.1)
    gs (all_both (fit k) (λ f. list_all (is_known bs) f.parts) gs each (blocks_known gs)) in
    let a = and_from (is_stream_name k) (ltb 0 (length (or_empty_block bs))) name locators.0 in
    let b = and_from (is_stream_name k && ltb 0 (length (or_empty_block bs))) (ltb 0 (length (flat_map (file_segments bs) gs))) a (some_segments bs gs filled) in
    let c = and_from (is_stream_name k && ltb 0 (length (or_empty_block bs)) && ltb 0 (length (flat_map (file_segments bs) gs))) (list_all is_locator (or_empty_block bs)) b locators.1 in
    and_from (is_stream_name k && ltb 0 (length (or_empty_block bs)) && ltb 0 (length (flat_map (file_segments bs) gs)) && list_all is_locator (or_empty_block bs))
    (list_all (is_good_segment total) (flat_map (file_segments bs) gs)) c (all_both is_small_segment (is_segment total) (flat_map (file_segments bs) gs) small segments)

lines_good : (gs : List Group) → list_all is_filled gs ≡ true → list_all (each_at fit) gs ≡ true → list_all is_small_stream (map line_of gs) ≡ true → list_all is_good_stream (map line_of gs) ≡ true
lines_good [] filled each small = refl
lines_good (g ∷ gs) filled each small =
    let f = and_parts (is_filled g) (list_all is_filled gs) filled in
    let e = and_parts (each_at fit g) (list_all (each_at fit) gs) each in
    let s = and_parts (is_small_stream (line_of g)) (list_all is_small_stream (map line_of gs)) small in
    and_from (is_good_stream (line_of g)) (list_all is_good_stream (map line_of gs)) (line_good g f.0 e.0 s.0) (lines_good gs f.1 e.1 s.1)

pub normal-good : (m : Manifest) → IsGood m → is_small (normal m) ≡ true → IsGood (normal m)
unfolding normal_of
normal-good m good small =
    let is = good_is m good in
    let fs = ranges m in
    let fits = all_both (λ (f : FileParts). is_whole_path f.path) (λ f. are_sound f.parts) fs (ranges_whole m is) (ranges_sound m is) in
    (good_tests (normal m)).0 (lines_good (grouped (by_directory fs)) (grouped-filled (by_directory fs))
    (grouped-each fit (by_directory fs) (list_all-map (λ e. fit e.0 e.1) (λ f. (directory f, f)) fs
    ∙ list_all-weaker (λ (f : FileParts). is_whole_path f.path && are_sound f.parts) (λ f. fit (directory f) f)
    (λ f h.
    let p = and_parts (is_whole_path f.path) (are_sound f.parts) h in
    and_from (bytes_eq (directory f) (directory f) && is_whole_path f.path) (are_sound f.parts)
    (and_from (bytes_eq (directory f) (directory f)) (is_whole_path f.path) ((bytes_decides (directory f) (directory f)).1 refl) p.0) p.1) fs fits)) small)
