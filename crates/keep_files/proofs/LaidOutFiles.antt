-- What was laid out and is unpacked gives the files.
-- Laws: `ascending-sorted`, `ascending-keyed`, `laid-good`, `laid-unpacked`, `normal-unpacked`.
use Rattle.std.proofs.Common.{◌≡◌, ℕ, ◌+◌, ◌-◌, ◌<◌, ◌≤◌, ◌^◌, Bool, true, false, not, ◌&&◌, ◌||◌, cond, eqb, leb, ltb, List, [], ◌∷◌, ◌++◌, length, take, drop, map, Option, Some, Ok, refl, ap, sym, subst, ◌∙◌, arith, append-nil, append_assoc, length-append}
use Rattle.std.specs.Prelude.{codes, fold, Result}
use Rattle.std.specs.List.{list_all, flat_map, AllByRecursion}
use Rattle.std.specs.List.Sorted.{IsStrictlySortedBy}
use Rattle.std.specs.Ordering.{match_ordering}
use Rattle.std.specs.declared.cmp.Ordering.{Ordering}
use Rattle.std.specs.declared.cmp.Ordering.TheVariants.{Less, Equal, Greater}
use Rattle.std.proofs.lemmas.Map.Lookups.{exact_bytes}
use Rattle.std.specs.Map.{keys_of}
use Rattle.std.specs.BTreeMap.{insert_entry}
use Rattle.std.specs.Str.{bytes_eq}
use Rattle.std.proofs.lemmas.Bool.{and_parts, and_from, and_right, or_left, not-true, lt-ltb, ltb-true, leb-true, le-leb, false≢true}
use Rattle.std.proofs.lemmas.List.{take_at, drop_at, map-append}
use Rattle.std.proofs.lemmas.List.Folds.{list_all-map}
use Rattle.std.proofs.lemmas.List.Sums.{sum_by-cons}
use lib.Pointwise.{bytes_decides}
use Rattle.md5.specs.Md5.{md5}
use Rattle.keep_spec.specs.Locator.{is_locator, size}
use Rattle.keep_spec.specs.Names.{is_path, is_stream_name}
use Rattle.keep_spec.specs.Manifest.{IsGood, total_size}
use Rattle.keep_spec.specs.Results.{◌>>=◌}
use Rattle.keep_spec.specs.declared.manifest.Manifest.{Manifest}
use Rattle.keep_spec.specs.declared.manifest.Stream.{Stream}
use Rattle.keep_spec.specs.declared.manifest.Segment.{Segment}
use Rattle.keep_manifest.specs.Good.{is_good_segment, is_good_stream}
use Rattle.keep_manifest.proofs.GoodManifests.{good_tests}
use Rattle.keep_locator.proofs.Lists.{list_all-weaker}
use Rattle.keep_normal.specs.declared.part.Part.{Part}
use Rattle.keep_normal.specs.declared.span.Span.{Span}
use Rattle.keep_normal.specs.Files.{span_of, parts_in, is_mark, path_of, piece_of, stream_pieces, pieces, file_of as file_of_group, files}
use Rattle.keep_normal.specs.Grouped.{byte_order, grouped}
use Rattle.keep_normal.specs.Normal.{path_parts, cut_last, or_empty_block, normal}
use Rattle.keep_normal.proofs.FilePaths.{path-named}
use Rattle.keep_normal.proofs.GoodNormalForms.{whole_join, line_locators}
use Rattle.keep_normal.proofs.Grouping.{is_filled, grouped-filled, each_at, grouped-each}
use Rattle.keep_normal.proofs.NormalFiles.{ranges-normal}
use Rattle.keep_normal.proofs.OrderedEntries.{IsAscending, ascending-insert}
use Rattle.keep_files.specs.Layout.{whole_path, directory_of, name_of, by_path, ascending, directories, end_to_end, cut, locator_of, segments_from, pieces_of, line_of, laid_out}
use Rattle.keep_files.specs.Stored.{bytes_of, file_with, files_of, unpacking}
use Rattle.keep_files.specs.declared.file.FileIn.{FileIn}
use Rattle.keep_files.specs.declared.fault.UnpackError.{UnpackError}
use Rattle.keep_files.proofs.BlockLocators.{is_locator-of, size-of}
use Rattle.keep_files.proofs.CutPieces.{cut-joined, cut-sizes}
use Rattle.keep_files.proofs.PartBytes.{bytes_of-joined, files_of-stripped, line_read, size_empty}
use Rattle.keep_files.proofs.Regrouped.{under, grouped-mapped, table_of, regrouped}

abbrev Store : Type 0
Store = List ℕ → Option (List ℕ)

-- The ascending files.

-- an entry of the map by path: the file stands at its path, which is one
record IsEntry (e : List ℕ × FileIn) : Type 0 where
  at : e.0 ≡ e.1.path
  path : is_path e.1.path ≡ true

inserted_entries : (f : FileIn) (m : List (List ℕ × FileIn)) → is_path f.path ≡ true → AllByRecursion IsEntry m → AllByRecursion IsEntry (insert_entry byte_order m f.path f)
inserted_entries f [] path h = (record { at = refl; path = path }, tt)
inserted_entries f (e ∷ m) path h = by_order (byte_order f.path e.0) refl (inserted_entries f m path h.1)
  where
    by_order : (o : Ordering) → byte_order f.path e.0 ≡ o → AllByRecursion IsEntry (insert_entry byte_order m f.path f)
        → AllByRecursion IsEntry (match_ordering o ((f.path, f) ∷ e ∷ m) ((e.0, f) ∷ m) (e ∷ insert_entry byte_order m f.path f))
    by_order Less same rest = (record { at = refl; path = path }, h)
    by_order Equal same rest = (record { at = sym (exact_bytes f.path e.0 same); path = path }, h.1)
    by_order Greater same rest = (h.0, rest)

along_entries : (fs : List FileIn) (m : List (List ℕ × FileIn)) → list_all (λ f. is_path f.path) fs ≡ true → AllByRecursion IsEntry m → AllByRecursion IsEntry (fold (λ m f. insert_entry byte_order m f.path f) m fs)
along_entries [] m paths h = h
along_entries (f ∷ fs) m paths h =
    let parts = and_parts (is_path f.path) (list_all (λ (f : FileIn). is_path f.path) fs) paths in
    along_entries fs (insert_entry byte_order m f.path f) parts.1 (inserted_entries f m parts.0 h)

along_sorted : (fs : List FileIn) (m : List (List ℕ × FileIn)) → IsAscending m → IsAscending (fold (λ m f. insert_entry byte_order m f.path f) m fs)
along_sorted [] m h = h
along_sorted (f ∷ fs) m h = along_sorted fs (insert_entry byte_order m f.path f) (ascending-insert f.path f m h)

by_path-sorted : (fs : List FileIn) → IsAscending (by_path fs)
unfolding IsStrictlySortedBy
by_path-sorted fs = along_sorted fs [] tt

entry_paths : (m : List (List ℕ × FileIn)) → AllByRecursion IsEntry m → keys_of m ≡ map (λ (f : FileIn). f.path) (map (λ e. e.1) m)
entry_paths [] h = refl
entry_paths (e ∷ m) h = ap (λ k. k ∷ keys_of m) h.0.at ∙ ap (λ ks. e.1.path ∷ ks) (entry_paths m h.1)

entries_named : (m : List (List ℕ × FileIn)) → AllByRecursion IsEntry m → list_all (λ (f : FileIn). is_path f.path) (map (λ e. e.1) m) ≡ true
entries_named [] h = refl
entries_named (e ∷ m) h = and_from (is_path e.1.path) (list_all (λ (f : FileIn). is_path f.path) (map (λ e. e.1) m)) h.0.path (entries_named m h.1)

-- their paths ascend
pub ascending-sorted : (fs : List FileIn) → list_all (λ f. is_path f.path) fs ≡ true → IsStrictlySortedBy byte_order (map (λ (f : FileIn). f.path) (ascending fs))
ascending-sorted fs paths = subst (λ ks. IsStrictlySortedBy byte_order ks) (entry_paths (by_path fs) (along_entries fs [] paths tt)) (by_path-sorted fs)

ascending-named : (fs : List FileIn) → list_all (λ f. is_path f.path) fs ≡ true → list_all (λ (f : FileIn). is_path f.path) (ascending fs) ≡ true
ascending-named fs paths = entries_named (by_path fs) (along_entries fs [] paths tt)

-- so do they with `./` before them
whole_above : (k : List ℕ) (fs : List FileIn) → AllByRecursion (λ y. byte_order k y ≡ Less) (map (λ (f : FileIn). f.path) fs) → AllByRecursion (λ y. byte_order (whole_path k) y ≡ Less) (map (λ (f : FileIn). whole_path f.path) fs)
whole_above k [] h = tt
whole_above k (f ∷ fs) h = (h.0, whole_above k fs h.1)

whole_sorted : (fs : List FileIn) → IsStrictlySortedBy byte_order (map (λ (f : FileIn). f.path) fs) → IsStrictlySortedBy byte_order (map (λ (f : FileIn). whole_path f.path) fs)
unfolding IsStrictlySortedBy
whole_sorted [] h = tt
whole_sorted (f ∷ fs) h = (whole_above f.path fs h.0, whole_sorted fs h.1)

entries_keyed : (m : List (List ℕ × FileIn)) → AllByRecursion IsEntry m → map {B = List ℕ × FileIn} (λ (e : List ℕ × FileIn). (directory_of e.0, e.1)) m ≡ map {B = List ℕ × FileIn} (λ (f : FileIn). (directory_of f.path, f)) (map (λ e. e.1) m)
entries_keyed [] h = refl
entries_keyed (e ∷ m) h = ap (λ k. (directory_of k, e.1) ∷ map {B = List ℕ × FileIn} (λ (e : List ℕ × FileIn). (directory_of e.0, e.1)) m) h.0.at ∙ ap (λ t. (directory_of e.1.path, e.1) ∷ t) (entries_keyed m h.1)

-- their directories, by path
pub ascending-keyed : (fs : List FileIn) → list_all (λ f. is_path f.path) fs ≡ true → map {B = List ℕ × FileIn} (λ (e : List ℕ × FileIn). (directory_of e.0, e.1)) (by_path fs) ≡ map {B = List ℕ × FileIn} (λ (f : FileIn). (directory_of f.path, f)) (ascending fs)
ascending-keyed fs paths = entries_keyed (by_path fs) (along_entries fs [] paths tt)

-- The name of a file.

-- where a path lies, and the name below
record IsNamed (path : List ℕ) : Type 0 where
  whole : path_of (directory_of path) (name_of path) ≡ whole_path path
  no_mark : bytes_eq (name_of path) (codes ".") ≡ false
  directory : is_stream_name (directory_of path) ≡ true
  name : is_path (name_of path) ≡ true

named : (path : List ℕ) → is_path path ≡ true → IsNamed path
named path h =
    let whole = whole_path path in
    let a = and_parts (bytes_eq whole (path_of (directory_of path) (name_of path))) (not (bytes_eq (name_of path) (codes "."))) (path-named (46 ∷ []) path h) in
    let b = and_parts (is_stream_name (directory_of path)) (is_path (name_of path)) (whole_join (46 ∷ []) path (cut_last path) refl refl h) in
    record {
      whole = sym ((bytes_decides whole (path_of (directory_of path) (name_of path))).0 a.0);
      no_mark = not-true (bytes_eq (name_of path) (codes ".")) a.1;
      directory = b.0;
      name = b.1;
    }

-- a file of this directory, with a path
abbrev own : List ℕ → FileIn → Bool
own d f = bytes_eq (directory_of f.path) d && is_path f.path

directories-own : (fs : List FileIn) → list_all (λ (f : FileIn). is_path f.path) fs ≡ true → list_all (λ (f : FileIn). own (directory_of f.path) f) fs ≡ true
directories-own fs h =
    list_all-weaker (λ (f : FileIn). is_path f.path) (λ f. own (directory_of f.path) f)
    (λ f p. and_from (bytes_eq (directory_of f.path) (directory_of f.path)) (is_path f.path) ((bytes_decides (directory_of f.path) (directory_of f.path)).1 refl) p) fs h

groups-own : (fs : List FileIn) → list_all (λ f. is_path f.path) fs ≡ true → list_all (each_at own) (directories fs) ≡ true
groups-own fs paths =
    let es = ascending fs in
    grouped-each own (map (λ (f : FileIn). (directory_of f.path, f)) es)
    (list_all-map (λ (e : List ℕ × FileIn). own e.0 e.1) (λ f. (directory_of f.path, f)) es ∙ directories-own es (ascending-named fs paths))

-- What was laid out is good.

pieces_small : (n : ℕ) (bytes : List ℕ) → n < 10 ^ 19 → list_all (λ b. ltb (length b) (10 ^ 19)) (cut n bytes) ≡ true
pieces_small n bytes small =
    list_all-weaker (λ (b : List ℕ). leb (length b) n) (λ b. ltb (length b) (10 ^ 19))
    (λ b h. let le = leb-true (length b) n h in lt-ltb (length b) (10 ^ 19) (omega arith)) (cut n bytes) (cut-sizes n bytes)

blocks_total : (ps : List (List ℕ)) → list_all (λ b. ltb (length b) (10 ^ 19)) ps ≡ true → total_size (map locator_of ps) ≡ length (flat_map (λ p. p) ps)
blocks_total [] h = refl
blocks_total (p ∷ ps) h =
    let parts = and_parts (ltb (length p) (10 ^ 19)) (list_all (λ b. ltb (length b) (10 ^ 19)) ps) h in
    let sized = size-of p (ltb-true (length p) (10 ^ 19) parts.0) in
    let rest = blocks_total ps parts.1 in
    omega (arith, sum_by-cons size (locator_of p) (map locator_of ps), sized, rest, length-append p (flat_map (λ p. p) ps))

line_total : (ps : List (List ℕ)) → list_all (λ b. ltb (length b) (10 ^ 19)) ps ≡ true → total_size (or_empty_block (map locator_of ps)) ≡ length (flat_map (λ p. p) ps)
line_total [] h = omega (arith, sum_by-cons size (codes "d41d8cd98f00b204e9800998ecf8427e+0") [], size_empty)
line_total (p ∷ ps) h = blocks_total (p ∷ ps) h

blocks_locators : (ps : List (List ℕ)) → list_all (λ b. ltb (length b) (10 ^ 19)) ps ≡ true → list_all is_locator (map locator_of ps) ≡ true
blocks_locators ps h =
    list_all-map is_locator locator_of ps
    ∙ list_all-weaker (λ (b : List ℕ). ltb (length b) (10 ^ 19)) (λ b. is_locator (locator_of b)) (λ b small. is_locator-of b (ltb-true (length b) (10 ^ 19) small)) ps h

segment_good : (total start n : ℕ) (name : List ℕ) → is_path name ≡ true → start + n ≤ total → total < 10 ^ 19 → is_good_segment total (record { position = start; size = n; name = name }) ≡ true
segment_good total start n name path within small =
    and_from (ltb start (10 ^ 19) && ltb n (10 ^ 19)) ((is_path name || (eqb n 0 && bytes_eq name (codes "."))) && leb (start + n) total)
    (and_from (ltb start (10 ^ 19)) (ltb n (10 ^ 19)) (lt-ltb start (10 ^ 19) (omega arith)) (lt-ltb n (10 ^ 19) (omega arith)))
    (and_from (is_path name || (eqb n 0 && bytes_eq name (codes "."))) (leb (start + n) total) (or_left (is_path name) (eqb n 0 && bytes_eq name (codes ".")) path) (le-leb (start + n) total within))

segments_good : (total start : ℕ) (d : List ℕ) (fs : List FileIn) → list_all (own d) fs ≡ true → start + length (end_to_end fs) ≤ total → total < 10 ^ 19 → list_all (is_good_segment total) (segments_from start fs) ≡ true
unfolding segments_from
segments_good total start d [] h within small = refl
segments_good total start d (f ∷ fs) h within small =
    let parts = and_parts (own d f) (list_all (own d) fs) h in
    let path = (and_parts (bytes_eq (directory_of f.path) d) (is_path f.path) parts.0).1 in
    let long = length-append f.bytes (end_to_end fs) in
    and_from (is_good_segment total (record { position = start; size = length f.bytes; name = name_of f.path })) (list_all (is_good_segment total) (segments_from (start + length f.bytes) fs))
    (segment_good total start (length f.bytes) (name_of f.path) (named f.path path).name (omega arith) small)
    (segments_good total (start + length f.bytes) d fs parts.1 (omega arith) small)

some_segment : (f : FileIn) (fs : List FileIn) → ltb 0 (length (segments_from 0 (f ∷ fs))) ≡ true
unfolding segments_from
some_segment f fs = lt-ltb 0 (length (segments_from 0 (f ∷ fs))) (omega arith)

-- so few bytes that each place has 19 digits
abbrev pub is_small_group : List ℕ × List FileIn → Bool
is_small_group g = ltb (length (end_to_end g.1)) (10 ^ 19)

line_good : (n : ℕ) (g : List ℕ × List FileIn) → 0 < n → n < 10 ^ 19 → is_filled g ≡ true → each_at own g ≡ true → is_small_group g ≡ true → is_good_stream (line_of n g) ≡ true
line_good n (d, []) some most filled each small = absurd (false≢true filled)
line_good n (d, f ∷ fs) some most filled each small =
    let gs = f ∷ fs in
    let ps = cut n (end_to_end gs) in
    let bs = or_empty_block (map locator_of ps) in
    let total = total_size bs in
    let first = and_parts (own d f) (list_all (own d) fs) each in
    let here = and_parts (bytes_eq (directory_of f.path) d) (is_path f.path) first.0 in
    let name : is_stream_name d ≡ true = sym (ap is_stream_name ((bytes_decides (directory_of f.path) d).0 here.0)) ∙ (named f.path here.1).directory in
    let few = pieces_small n (end_to_end gs) most in
    let locators = line_locators (map locator_of ps) (blocks_locators ps few) in
    let long : total ≡ length (end_to_end gs) = line_total ps few ∙ ap length (cut-joined n (end_to_end gs) some) in
    let fits = ltb-true (length (end_to_end gs)) (10 ^ 19) small in
    let segments = segments_good total 0 d gs each (omega (arith, long)) (omega (arith, long, fits)) in
    let a = and_from (is_stream_name d) (ltb 0 (length bs)) name locators.0 in
    let b = and_from (is_stream_name d && ltb 0 (length bs)) (ltb 0 (length (segments_from 0 gs))) a (some_segment f fs) in
    let c = and_from (is_stream_name d && ltb 0 (length bs) && ltb 0 (length (segments_from 0 gs))) (list_all is_locator bs) b locators.1 in
    and_from (is_stream_name d && ltb 0 (length bs) && ltb 0 (length (segments_from 0 gs)) && list_all is_locator bs) (list_all (is_good_segment total) (segments_from 0 gs)) c segments

lines_good : (n : ℕ) (gs : List (List ℕ × List FileIn)) → 0 < n → n < 10 ^ 19 → list_all is_filled gs ≡ true → list_all (each_at own) gs ≡ true → list_all is_small_group gs ≡ true
    → list_all is_good_stream (map (line_of n) gs) ≡ true
lines_good n [] some most filled each small = refl
lines_good n (g ∷ gs) some most filled each small =
    let f = and_parts (is_filled g) (list_all is_filled gs) filled in
    let e = and_parts (each_at own g) (list_all (each_at own) gs) each in
    let s = and_parts (is_small_group g) (list_all is_small_group gs) small in
    and_from (is_good_stream (line_of n g)) (list_all is_good_stream (map (line_of n) gs)) (line_good n g some most f.0 e.0 s.0) (lines_good n gs some most f.1 e.1 s.1)

pub laid-good : (n : ℕ) (fs : List FileIn) → 0 < n → n < 10 ^ 19 → list_all (λ f. is_path f.path) fs ≡ true → list_all is_small_group (directories fs) ≡ true → IsGood (laid_out n fs)
unfolding laid_out
laid-good n fs some most paths small =
    (good_tests (laid_out n fs)).0 (lines_good n (directories fs) some most (grouped-filled (map (λ (f : FileIn). (directory_of f.path, f)) (ascending fs))) (groups-own fs paths) small)

-- What is read of the parts of what was laid out.

abbrev Read : Type 0
Read = Result (List ℕ) UnpackError

-- a file, as it is read at its path
abbrev target : FileIn → List ℕ × Read
target f = (whole_path f.path, Ok f.bytes)

abbrev span_with : ℕ → ℕ → Span
span_with from to = record { from = from; to = to }

-- what a span of a line is read as, where its blocks have these bytes
abbrev Reads : Store → List (List ℕ) → List ℕ → Type 0
Reads stored locators bytes = (s : Span) → bytes_of stored (parts_in 0 s locators) ≡ Ok (take (s.to - s.from) (drop s.from bytes))

file_bytes : (before bytes rest : List ℕ) (start : ℕ) → length before ≡ start → take (start + length bytes - start) (drop start (before ++ (bytes ++ rest))) ≡ bytes
file_bytes before bytes rest start long =
    let n : start + length bytes - start ≡ length bytes = omega arith in
    ap (λ t. take (start + length bytes - start) t) (drop_at before (bytes ++ rest) start long) ∙ ap (λ k. take k (bytes ++ rest)) n ∙ take_at bytes rest (length bytes) refl

piece_read : (stored : Store) (s : Stream) (f : FileIn) (start : ℕ) (all before rest : List ℕ) → Reads stored s.locators all → own s.name f ≡ true → all ≡ before ++ (f.bytes ++ rest) → length before ≡ start
    → map (under (bytes_of stored)) (piece_of s (record { position = start; size = length f.bytes; name = name_of f.path })) ≡ target f ∷ []
piece_read stored s f start all before rest reads o are long =
    let parts = and_parts (bytes_eq (directory_of f.path) s.name) (is_path f.path) o in
    let here = (bytes_decides (directory_of f.path) s.name).0 parts.0 in
    let is = named f.path parts.1 in
    let g : Segment = record { position = start; size = length f.bytes; name = name_of f.path } in
    let mark : is_mark g ≡ false = and_right (eqb (length f.bytes) 0) (bytes_eq (name_of f.path) (codes ".")) is.no_mark in
    ap (λ c. map (under (bytes_of stored)) (cond c [] ((path_of s.name (name_of f.path), parts_in 0 (span_of g) s.locators) ∷ []))) mark
    ∙ ap (λ d. (path_of d (name_of f.path), bytes_of stored (parts_in 0 (span_of g) s.locators)) ∷ []) (sym here)
    ∙ ap (λ p. (p, bytes_of stored (parts_in 0 (span_of g) s.locators)) ∷ []) is.whole
    ∙ ap (λ (r : Read). (whole_path f.path, r) ∷ []) (reads (span_of g)
    ∙ ap (λ t. Ok (take (start + length f.bytes - start) (drop start t))) are
    ∙ ap (λ t. Ok t) (file_bytes before f.bytes rest start long))

files_read : (stored : Store) (s : Stream) (fs : List FileIn) (start : ℕ) (all before : List ℕ) → Reads stored s.locators all → list_all (own s.name) fs ≡ true → all ≡ before ++ end_to_end fs → length before ≡ start
    → map (under (bytes_of stored)) (flat_map (piece_of s) (segments_from start fs)) ≡ map target fs
unfolding segments_from
files_read stored s [] start all before reads o are long = refl
files_read stored s (f ∷ fs) start all before reads o are long =
    let parts = and_parts (own s.name f) (list_all (own s.name) fs) o in
    let g : Segment = record { position = start; size = length f.bytes; name = name_of f.path } in
    map-append (under (bytes_of stored)) (piece_of s g) (flat_map (piece_of s) (segments_from (start + length f.bytes) fs))
    ∙ ap (λ ts. ts ++ map (under (bytes_of stored)) (flat_map (piece_of s) (segments_from (start + length f.bytes) fs))) (piece_read stored s f start all before (end_to_end fs) reads parts.0 are long)
    ∙ ap (λ ts. target f ∷ ts) (files_read stored s fs (start + length f.bytes) all (before ++ f.bytes) reads parts.1 (are ∙ sym (append_assoc before f.bytes (end_to_end fs)))
    (omega (arith, length-append before f.bytes, long)))

abbrev Held : Store → List ℕ → Type 0
Held stored b = stored (md5 b) ≡ Some b

group_read : (stored : Store) (n : ℕ) (g : List ℕ × List FileIn) → 0 < n → n < 10 ^ 19 → AllByRecursion (Held stored) (pieces_of n g) → each_at own g ≡ true
    → map (under (bytes_of stored)) (stream_pieces (line_of n g)) ≡ map target g.1
group_read stored n g some most held each =
    let all = end_to_end g.1 in
    let reads : Reads stored (or_empty_block (map locator_of (pieces_of n g))) all = λ s.
    line_read stored s (pieces_of n g) held (pieces_small n all most) ∙ ap (λ t. Ok (take (s.to - s.from) (drop s.from t))) (cut-joined n all some) in
    files_read stored (line_of n g) g.1 0 all [] reads each refl refl

split_held : (P : List ℕ → Type 0) (xs ys : List (List ℕ)) → AllByRecursion P (xs ++ ys) → AllByRecursion P xs × AllByRecursion P ys
split_held P [] ys h = (tt, h)
split_held P (x ∷ xs) ys h = let rest = split_held P xs ys h.1 in ((h.0, rest.0), rest.1)

groups_read : (stored : Store) (n : ℕ) (gs : List (List ℕ × List FileIn)) → 0 < n → n < 10 ^ 19 → AllByRecursion (Held stored) (flat_map (pieces_of n) gs) → list_all (each_at own) gs ≡ true
    → map (under (bytes_of stored)) (flat_map stream_pieces (map (line_of n) gs)) ≡ map target (flat_map (λ g. g.1) gs)
groups_read stored n [] some most held each = refl
groups_read stored n (g ∷ gs) some most held each =
    let h = split_held (Held stored) (pieces_of n g) (flat_map (pieces_of n) gs) held in
    let e = and_parts (each_at own g) (list_all (each_at own) gs) each in
    map-append (under (bytes_of stored)) (stream_pieces (line_of n g)) (flat_map stream_pieces (map (line_of n) gs))
    ∙ ap (λ ts. ts ++ map (under (bytes_of stored)) (flat_map stream_pieces (map (line_of n) gs))) (group_read stored n g some most h.0 e.0)
    ∙ ap (λ ts. map target g.1 ++ ts) (groups_read stored n gs some most h.1 e.1)
    ∙ sym (map-append target g.1 (flat_map (λ g. g.1) gs))

-- Unpacked.

abbrev first_values : List (List ℕ × List Read) → List Read
first_values [] = []
first_values (g ∷ gs) = g.1

no_parts : (r : Read) → [] ≡ r ∷ [] → ⊥
no_parts r e = cc e

too_many : (q r s : Read) (rs : List Read) → q ∷ r ∷ rs ≡ s ∷ [] → ⊥
too_many q r s rs e = cc e

-- each entry's parts, read, are one file
table_unpacked : (stored : Store) (gs : List (List ℕ × List (List Part))) (fs : List FileIn) → map (under (map (bytes_of stored))) gs ≡ table_of (λ (f : FileIn). whole_path f.path) (λ f. Ok f.bytes) fs
    → files_of stored (map file_of_group gs) ≡ Ok fs
unfolding files_of
table_unpacked stored [] [] e = refl
table_unpacked stored [] (f ∷ fs) e = cc e
table_unpacked stored (g ∷ gs) [] e = cc e
table_unpacked stored ((k, []) ∷ gs) (f ∷ fs) e = absurd (no_parts (Ok f.bytes) (ap first_values e))
table_unpacked stored ((k, ps ∷ qs ∷ more) ∷ gs) (f ∷ fs) e = absurd (too_many (bytes_of stored ps) (bytes_of stored qs) (Ok f.bytes) (map (bytes_of stored) more) (ap first_values e))
table_unpacked stored ((k, ps ∷ []) ∷ gs) (f ∷ fs) e =
    let key : k ≡ whole_path f.path = ap (λ t. (head_of t).0) e in
    let value : bytes_of stored ps ≡ Ok f.bytes = ap (λ t. only_of (head_of t).1) e in
    let read : bytes_of stored (file_of_group (k, ps ∷ [])).parts ≡ Ok f.bytes =
    bytes_of-joined stored (ps ++ []) f.bytes (ap (bytes_of stored) (append-nil ps) ∙ value) in
    ap (λ (r : Read). (r >>= λ bytes. Ok (file_with k bytes)) >>= λ x. (files_of stored (map file_of_group gs) >>= λ y. Ok (x ∷ y))) read
    ∙ ap (λ p. files_of stored (map file_of_group gs) >>= λ y. Ok (file_with p f.bytes ∷ y)) key
    ∙ ap (λ (r : Result (List FileIn) UnpackError). r >>= λ y. Ok (f ∷ y)) (table_unpacked stored gs fs (ap tail_of e))
  where
    head_of : List (List ℕ × List Read) → List ℕ × List Read
    head_of [] = ([], [])
    head_of (g ∷ gs) = g

    tail_of : List (List ℕ × List Read) → List (List ℕ × List Read)
    tail_of [] = []
    tail_of (g ∷ gs) = gs

    only_of : List Read → Read
    only_of [] = Ok []
    only_of (r ∷ rs) = r

pub laid-unpacked : (stored : Store) (n : ℕ) (fs : List FileIn) → 0 < n → n < 10 ^ 19 → list_all (λ f. is_path f.path) fs ≡ true → AllByRecursion (Held stored) (flat_map (pieces_of n) (directories fs))
    → unpacking (laid_out n fs) stored ≡ Ok (ascending fs)
unfolding files laid_out
laid-unpacked stored n fs some most paths held =
    let es = ascending fs in
    let key : FileIn → List ℕ = λ f. whole_path f.path in
    let value : FileIn → Read = λ f. Ok f.bytes in
    table_unpacked stored (grouped (pieces (laid_out n fs))) es
    (grouped-mapped (bytes_of stored) (pieces (laid_out n fs))
    ∙ ap grouped (groups_read stored n (directories fs) some most held (groups-own fs paths))
    ∙ regrouped key (λ f. directory_of f.path) (λ k. (path_parts k).0) (λ f. refl) value es (whole_sorted es (ascending-sorted fs paths)))

pub normal-unpacked : (m : Manifest) (stored : Store) → IsGood m → unpacking (normal m) stored ≡ unpacking m stored
normal-unpacked m stored good =
    sym (files_of-stripped stored (files (normal m))) ∙ ap (files_of stored) (ranges-normal m good) ∙ files_of-stripped stored (files m)
