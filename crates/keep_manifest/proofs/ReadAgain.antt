-- What was written reads to what it was written of.
-- Laws: `written_reads`.
use Rattle.std.proofs.Common.{◌≡◌, ℕ, ◌^◌, ◌<◌, eqb, ltb, true, not, ◌&&◌, cond, List, [], ◌∷◌, ◌++◌, length, take, drop, Option, Some, None, option_map, option_and_then, refl, ap, sym, ◌∙◌, append_assoc, append-nil, arith}
use Rattle.std.specs.Prelude.{take_while, map}
use Rattle.std.specs.List.{list_all, flat_map, prefix_len}
use Rattle.std.proofs.lemmas.Bool.{and_parts, and_from, ltb-true}
use Rattle.std.proofs.lemmas.Bool.Decides.{nat_tests}
use Rattle.std.proofs.lemmas.List.{take_at, drop_at, length-map}
use Rattle.keep_spec.specs.Locator.{is_locator}
use Rattle.keep_spec.specs.Names.{encode, is_stream_name}
use Rattle.keep_spec.specs.Manifest.{segment_of, segment_text, is_segment, each, total_size, follow, stream_of, stream_of_tokens, stream_of_parts, streams_of, stream_text, text_of, manifest_of}
use Rattle.keep_spec.specs.declared.manifest.Manifest.{Manifest}
use Rattle.keep_spec.specs.declared.manifest.Stream.{Stream}
use Rattle.keep_spec.specs.declared.manifest.Segment.{Segment}
use Rattle.keep_manifest.specs.Good.{is_good_segment, is_good_stream, is_good_manifest}
use Rattle.keep_manifest.specs.Tokens.{lines_of}
use Rattle.keep_manifest.proofs.SplitText.{parts, split_found, split_none}
use Rattle.keep_manifest.proofs.Decoding.{decode_encode}
use Rattle.keep_manifest.proofs.TextLines.{some_line}
use Rattle.keep_locator.proofs.Lists.{list_all-weaker}
use Rattle.keep_manifest.proofs.WrittenBytes.{is_visible, lacks, list_all-joined, locator_visible, encode_visible, segment_visible, segment_no_locator, segment_form-text, cut_at-joined, cut_at-lacking}

split_joined : (c : ℕ) (xs ys : List ℕ) → lacks c xs ≡ true → parts c (xs ++ c ∷ ys) ≡ xs ∷ parts c ys
split_joined c xs ys h = split_found c (xs ++ c ∷ ys) (xs, ys) (cut_at-joined c xs ys h)

split_lacking : (c : ℕ) (xs : List ℕ) → lacks c xs ≡ true → parts c xs ≡ xs ∷ []
split_lacking c xs h = split_none c xs (cut_at-lacking c xs h)

visible_no_space : (b : ℕ) → is_visible b ≡ true → not (eqb b 32) ≡ true
visible_no_space b h = grind (arith, nat_tests)

no_space : (xs : List ℕ) → list_all is_visible xs ≡ true → lacks 32 xs ≡ true
no_space xs h = list_all-weaker is_visible (λ b. not (eqb b 32)) visible_no_space xs h

-- the tokens of a line

split_tokens : (token : List ℕ) (tokens : List (List ℕ)) → list_all is_visible token ≡ true → list_all (list_all is_visible) tokens ≡ true → parts 32 (token ++ flat_map follow tokens) ≡ token ∷ tokens
split_tokens token [] h g = ap (parts 32) (append-nil token) ∙ split_lacking 32 token (no_space token h)
split_tokens token (next ∷ more) h g =
    let shown = and_parts (list_all is_visible next) (list_all (list_all is_visible) more) g in
    split_joined 32 token (next ++ flat_map follow more) (no_space token h) ∙ ap (λ ts. token ∷ ts) (split_tokens next more shown.0 shown.1)

abbrev written_tokens : Stream → List (List ℕ)
written_tokens s = s.locators ++ map segment_text s.segments

abbrev line_text : Stream → List ℕ
line_text s = encode s.name ++ flat_map follow (written_tokens s)

follow_map : (segments : List Segment) → flat_map follow (map segment_text segments) ≡ flat_map (λ g. follow (segment_text g)) segments
follow_map [] = refl
follow_map (s ∷ ss) = ap (λ xs. follow (segment_text s) ++ xs) (follow_map ss)

flat_map-append : {X : Type 0} (f : X → List ℕ) (xs ys : List X) → flat_map f (xs ++ ys) ≡ flat_map f xs ++ flat_map f ys
flat_map-append f [] ys = refl
flat_map-append f (x ∷ xs) ys = ap (λ zs. f x ++ zs) (flat_map-append f xs ys) ∙ sym (append_assoc (f x) (flat_map f xs) (flat_map f ys))

line_regrouped : (s : Stream) → stream_text s ≡ line_text s ++ 10 ∷ []
line_regrouped s =
    let tokens : flat_map follow (written_tokens s) ≡ flat_map follow s.locators ++ flat_map (λ g. follow (segment_text g)) s.segments =
    flat_map-append follow s.locators (map segment_text s.segments) ∙ ap (λ xs. flat_map follow s.locators ++ xs) (follow_map s.segments) in
    ap (λ xs. xs ++ 10 ∷ []) (append_assoc (encode s.name) (flat_map follow s.locators) (flat_map (λ g. follow (segment_text g)) s.segments) ∙ ap (λ xs. encode s.name ++ xs) (sym tokens))

-- the parts of a good stream

record GoodStream (s : Stream) : Type 0 where
  named : is_stream_name s.name ≡ true
  some_locators : ltb 0 (length s.locators) ≡ true
  some_segments : ltb 0 (length s.segments) ≡ true
  locators : list_all is_locator s.locators ≡ true
  segments : list_all (is_good_segment (total_size s.locators)) s.segments ≡ true

good_parts : (s : Stream) → is_good_stream s ≡ true → GoodStream s
good_parts s h =
    let a = and_parts (is_stream_name s.name && ltb 0 (length s.locators) && ltb 0 (length s.segments) && list_all is_locator s.locators) (list_all (is_good_segment (total_size s.locators)) s.segments) h in
    let b = and_parts (is_stream_name s.name && ltb 0 (length s.locators) && ltb 0 (length s.segments)) (list_all is_locator s.locators) a.0 in
    let d = and_parts (is_stream_name s.name && ltb 0 (length s.locators)) (ltb 0 (length s.segments)) b.0 in
    let e = and_parts (is_stream_name s.name) (ltb 0 (length s.locators)) d.0 in
    record { named = e.0; some_locators = e.1; some_segments = d.1; locators = b.1; segments = a.1 }

record GoodSegment (total : ℕ) (s : Segment) : Type 0 where
  position : s.position < 10 ^ 19
  size : s.size < 10 ^ 19
  is : is_segment total s ≡ true

segment_parts : (total : ℕ) (s : Segment) → is_good_segment total s ≡ true → GoodSegment total s
segment_parts total s h =
    let a = and_parts (ltb s.position (10 ^ 19) && ltb s.size (10 ^ 19)) (is_segment total s) h in
    let b = and_parts (ltb s.position (10 ^ 19)) (ltb s.size (10 ^ 19)) a.0 in
    record { position = ltb-true s.position (10 ^ 19) b.0; size = ltb-true s.size (10 ^ 19) b.1; is = a.1 }

segments_visible : (total : ℕ) (segments : List Segment) → list_all (is_good_segment total) segments ≡ true → list_all (list_all is_visible) (map segment_text segments) ≡ true
segments_visible total [] h = refl
segments_visible total (s ∷ ss) h =
    let all = and_parts (is_good_segment total s) (list_all (is_good_segment total) ss) h in
    let good = segment_parts total s all.0 in
    and_from (list_all is_visible (segment_text s)) (list_all (list_all is_visible) (map segment_text ss)) (segment_visible s good.position good.size) (segments_visible total ss all.1)

segments_read : (total : ℕ) (segments : List Segment) → list_all (is_good_segment total) segments ≡ true → each (segment_of total) (map segment_text segments) ≡ Some segments
segments_read total [] h = refl
segments_read total (s ∷ ss) h =
    let all = and_parts (is_good_segment total s) (list_all (is_good_segment total) ss) h in
    let good = segment_parts total s all.0 in
    let one : segment_of total (segment_text s) ≡ Some s = ap (λ o. option_and_then (λ g. cond (is_segment total g) (Some g) None) o) (segment_form-text s good.position good.size) ∙ ap (λ b. cond b (Some s) None) good.is in
    rw (one, segments_read total ss all.1) refl

-- the locators go up to the first segment
locators_end : (locators : List (List ℕ)) (total : ℕ) (segments : List Segment) → list_all is_locator locators ≡ true → list_all (is_good_segment total) segments ≡ true → prefix_len is_locator (locators ++ map segment_text segments) ≡ length locators
locators_end [] total [] h g = refl
locators_end [] total (s ∷ ss) h g =
    let good = segment_parts total s (and_parts (is_good_segment total s) (list_all (is_good_segment total) ss) g).0 in
    rw (segment_no_locator s good.position) refl
locators_end (l ∷ ls) total segments h g =
    let all = and_parts (is_locator l) (list_all is_locator ls) h in
    let more = locators_end ls total segments all.1 g in
    rw all.0 (omega (arith, more))

parts_read : (s : Stream) → GoodStream s → stream_of_parts s.name s.locators (map segment_text s.segments) ≡ Some s
parts_read s good =
    let some : ltb 0 (length (map segment_text s.segments)) ≡ true = ap (λ n. ltb 0 n) (length-map s.segments segment_text) ∙ good.some_segments in
    rw (good.named, good.some_locators, some, segments_read (total_size s.locators) s.segments good.segments) refl

line_read : (s : Stream) → is_good_stream s ≡ true → stream_of (line_text s) ≡ Some s
line_read s h =
    let good = good_parts s h in
    let shown = list_all-joined (list_all is_visible) s.locators (map segment_text s.segments) (list_all-weaker is_locator (list_all is_visible) locator_visible s.locators good.locators) (segments_visible (total_size s.locators) s.segments good.segments) in
    let tokens = split_tokens (encode s.name) (written_tokens s) (encode_visible s.name) shown in
    let front = locators_end s.locators (total_size s.locators) s.segments good.locators good.segments in
    let locators : take_while is_locator (written_tokens s) ≡ s.locators = ap (λ n. take n (written_tokens s)) front ∙ take_at s.locators (map segment_text s.segments) (length s.locators) refl in
    let segments : drop (prefix_len is_locator (written_tokens s)) (written_tokens s) ≡ map segment_text s.segments = ap (λ n. drop n (written_tokens s)) front ∙ drop_at s.locators (map segment_text s.segments) (length s.locators) refl in
    ap stream_of_tokens tokens
    ∙ ap (λ n. stream_of_parts n (take_while is_locator (written_tokens s)) (drop (prefix_len is_locator (written_tokens s)) (written_tokens s))) (decode_encode s.name)
    ∙ ap (λ ls. stream_of_parts s.name ls (drop (prefix_len is_locator (written_tokens s)) (written_tokens s))) locators
    ∙ ap (stream_of_parts s.name s.locators) segments
    ∙ parts_read s good

-- the lines of a text

visible_no_newline : (b : ℕ) → is_visible b ≡ true → not (eqb b 10) ≡ true
visible_no_newline b h = grind (arith, nat_tests)

no_newline : (xs : List ℕ) → list_all is_visible xs ≡ true → lacks 10 xs ≡ true
no_newline xs h = list_all-weaker is_visible (λ b. not (eqb b 10)) visible_no_newline xs h

tokens_no_newline : (tokens : List (List ℕ)) → list_all (list_all is_visible) tokens ≡ true → lacks 10 (flat_map follow tokens) ≡ true
tokens_no_newline [] h = refl
tokens_no_newline (t ∷ ts) h =
    let all = and_parts (list_all is_visible t) (list_all (list_all is_visible) ts) h in
    list_all-joined (λ b. not (eqb b 10)) t (flat_map follow ts) (no_newline t all.0) (tokens_no_newline ts all.1)

line_no_newline : (s : Stream) → is_good_stream s ≡ true → lacks 10 (line_text s) ≡ true
line_no_newline s h =
    let good = good_parts s h in
    let shown = list_all-joined (list_all is_visible) s.locators (map segment_text s.segments) (list_all-weaker is_locator (list_all is_visible) locator_visible s.locators good.locators) (segments_visible (total_size s.locators) s.segments good.segments) in
    list_all-joined (λ b. not (eqb b 10)) (encode s.name) (flat_map follow (written_tokens s)) (no_newline (encode s.name) (encode_visible s.name)) (tokens_no_newline (written_tokens s) shown)

abbrev before : Option Stream → Option (List Stream) → Option (List Stream)
before first rest = option_and_then (λ s. option_and_then (λ ss. Some (s ∷ ss)) rest) first

streams_first : (line : List ℕ) (pieces : List (List ℕ)) → (y : List ℕ) × (ys : List (List ℕ)) × (pieces ≡ y ∷ ys) → streams_of (line ∷ pieces) ≡ before (stream_of line) (streams_of pieces)
streams_first line [] w = absurd (let e = w.2 in cc)
streams_first line (next ∷ more) w = refl

streams_read : (streams : List Stream) → list_all is_good_stream streams ≡ true → streams_of (lines_of (flat_map stream_text streams)) ≡ Some streams
streams_read [] h = refl
streams_read (s ∷ ss) h =
    let all = and_parts (is_good_stream s) (list_all is_good_stream ss) h in
    let rest = flat_map stream_text ss in
    let text : stream_text s ++ rest ≡ line_text s ++ 10 ∷ rest = ap (λ xs. xs ++ rest) (line_regrouped s) ∙ append_assoc (line_text s) (10 ∷ []) rest in
    let lines : lines_of (stream_text s ++ rest) ≡ line_text s ∷ lines_of rest = ap lines_of text ∙ split_joined 10 (line_text s) rest (line_no_newline s all.0) in
    ap streams_of lines ∙ streams_first (line_text s) (lines_of rest) (some_line rest)
    ∙ ap (λ o. before o (streams_of (lines_of rest))) (line_read s all.0) ∙ ap (λ o. before (Some s) o) (streams_read ss all.1)

pub written_reads : (m : Manifest) → is_good_manifest m ≡ true → manifest_of (text_of m) ≡ Some m
unfolding manifest_of text_of
written_reads m h = ap (λ o. option_map (λ ss. record { streams = ss }) o) (streams_read m.streams h)
