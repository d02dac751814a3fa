-- What the segments of a file in the normal form stand for.
-- Laws: `some_is`, `spans_forward`, `segments_forward`, `file_again`, `blocks_known`.
use Rattle.std.proofs.Common.{◌≡◌, ℕ, ◌+◌, ◌-◌, max, min, Bool, true, false, cond, List, [], ◌∷◌, ◌++◌, Option, Some, None, map, refl, ap, sym, ◌∙◌, arith}
use Rattle.std.specs.Prelude.{unwrap_or, is_some, fold}
use Rattle.std.specs.List.{list_all, flat_map}
use Rattle.std.specs.Str.{bytes_eq}
use Rattle.std.proofs.lemmas.Bool.{and_parts, and_from, le-leb, false≢true}
use Rattle.std.proofs.lemmas.List.Folds.{list_all-map}
use Rattle.std.proofs.lemmas.Option.{none-some, same_Some}
use lib.Pointwise.{bytes_decides}
use Rattle.keep_spec.specs.Locator.{size}
use Rattle.keep_spec.specs.Manifest.{total_size}
use Rattle.keep_normal.specs.declared.part.Part.{Part}
use Rattle.keep_normal.specs.declared.part.FileParts.{FileParts}
use Rattle.keep_normal.specs.declared.span.Span.{Span}
use Rattle.keep_normal.specs.Files.{part_in, kept, parts_in, joined_parts}
use Rattle.keep_normal.specs.Normal.{start_at, with_block, locators_of, blocks, span_in, spans, or_empty, or_empty_block}
use Rattle.keep_normal.specs.Sound.{is_sound, are_sound}
use Rattle.keep_normal.proofs.TooLarge.{list_all-flat_map}
use Rattle.keep_normal.proofs.SpanParts.{same_part, kept_some, part_before, parts_behind}
use Rattle.keep_normal.proofs.SoundParts.{sound_is, span_from}
use Rattle.keep_normal.proofs.SplitSpans.{is_forward, forward-joined, parts_of, parts-joined}
use Rattle.keep_normal.proofs.BlockStarts.{start_by, start-push}

abbrev pub is_known : List (List ℕ) → Part → Bool
is_known bs p = is_some (start_at bs p.locator)

pub some_is : {X : Type 0} (o : Option X) → is_some o ≡ true → (x : X) × (o ≡ Some x)
some_is None h = absurd (false≢true h)
some_is (Some x) h = (x, refl)

-- One part: its span among the blocks is the part again.

expand_first : (b : List ℕ) (bs : List (List ℕ)) (start from : ℕ) (p : Part) → b ≡ p.locator → from ≡ start + p.offset → is_sound p ≡ true → parts_in start (span_from from p.length) (b ∷ bs) ≡ p ∷ []
expand_first b bs start from p e at sound =
    let is = sound_is p sound in
    let long : size b ≡ size p.locator = ap size e in
    let s = span_from from p.length in
    let here : part_in start s b ≡ p =
    same_part b p.locator (max start from - start) p.offset (min (start + size b) (from + p.length) - max start from) p.length e (omega arith) (omega (arith, is.ends, long, at)) in
    ap (λ q. kept q ++ parts_in (start + size b) s bs) here
    ∙ ap (λ ps. ps ++ parts_in (start + size b) s bs) (kept_some p is.some)
    ∙ ap (λ ps. p ∷ ps) (parts_behind (start + size b) s bs (omega (arith, is.ends, long, at)))

expand_by : (b : List ℕ) (bs : List (List ℕ)) (start from n : ℕ) (p : Part) (e : Bool) (o : Option ℕ) → bytes_eq b p.locator ≡ e → start_by (size b) e o ≡ Some n → from ≡ start + n + p.offset → is_sound p ≡ true
    → ((k : ℕ) → o ≡ Some k → from ≡ start + size b + k + p.offset → parts_in (start + size b) (span_from from p.length) bs ≡ p ∷ []) → parts_in start (span_from from p.length) (b ∷ bs) ≡ p ∷ []
expand_by b bs start from n p true o same h at sound ih =
    let zero = same_Some 0 n h in
    expand_first b bs start from p ((bytes_decides b p.locator).0 same) (omega arith) sound
expand_by b bs start from n p false None same h at sound ih = absurd (none-some n h)
expand_by b bs start from n p false (Some k) same h at sound ih =
    let next = same_Some (size b + k) n h in
    ap (λ ps. ps ++ parts_in (start + size b) (span_from from p.length) bs) (part_before start (span_from from p.length) b (omega arith))
    ∙ ih k refl (omega arith)

expand : (bs : List (List ℕ)) (start from n : ℕ) (p : Part) → start_at bs p.locator ≡ Some n → from ≡ start + n + p.offset → is_sound p ≡ true → parts_in start (span_from from p.length) bs ≡ p ∷ []
expand [] start from n p h at sound = absurd (none-some n h)
expand (b ∷ bs) start from n p h at sound =
    expand_by b bs start from n p (bytes_eq b p.locator) (start_at bs p.locator) refl h at sound (λ k e f. expand bs (start + size b) from k p e f sound)

expand_known : (bs : List (List ℕ)) (p : Part) → is_known bs p ≡ true → is_sound p ≡ true → parts_in 0 (span_in bs p) bs ≡ p ∷ []
expand_known bs p known sound =
    let at = some_is (start_at bs p.locator) known in
    let from : unwrap_or (start_at bs p.locator) 0 ≡ at.0 = ap (λ o. unwrap_or o 0) at.1 in
    expand bs 0 (unwrap_or (start_at bs p.locator) 0 + p.offset) at.0 p at.1 (omega arith) sound

expand_all : (bs : List (List ℕ)) (ps : List Part) → list_all (is_known bs) ps ≡ true → are_sound ps ≡ true → parts_of bs (map (span_in bs) ps) ≡ ps
expand_all bs [] known sound = refl
expand_all bs (p ∷ ps) known sound =
    let k = and_parts (is_known bs p) (list_all (is_known bs) ps) known in
    let s = and_parts (is_sound p) (are_sound ps) sound in
    ap (λ qs. qs ++ parts_of bs (map (span_in bs) ps)) (expand_known bs p k.0 s.0) ∙ ap (λ qs. p ∷ qs) (expand_all bs ps k.1 s.1)

-- A file: its segments stand for its parts.

pub spans_forward : (bs : List (List ℕ)) (ps : List Part) → list_all is_forward (map (span_in bs) ps) ≡ true
spans_forward bs [] = refl
spans_forward bs (p ∷ ps) = and_from (is_forward (span_in bs p)) (list_all is_forward (map (span_in bs) ps)) (le-leb (span_in bs p).from (span_in bs p).to (omega arith)) (spans_forward bs ps)

pub segments_forward : (bs : List (List ℕ)) (ps : List Part) → list_all is_forward (or_empty (spans bs ps)) ≡ true
segments_forward bs ps = some (spans bs ps) (forward-joined (map (span_in bs) ps) (spans_forward bs ps))
  where
    some : (ss : List Span) → list_all is_forward ss ≡ true → list_all is_forward (or_empty ss) ≡ true
    some [] h = refl
    some (s ∷ ss) h = h

empty_parts : (ls : List (List ℕ)) (ss : List Span) → parts_of ls (or_empty ss) ≡ parts_of ls ss
empty_parts ls [] = ap (λ ps. ps ++ []) (parts_behind 0 (record { from = 0; to = 0 }) ls (omega arith))
empty_parts ls (s ∷ ss) = refl

among : (bs : List (List ℕ)) (ps : List Part) → list_all (is_known bs) ps ≡ true → are_sound ps ≡ true → joined_parts ps ≡ ps → joined_parts (parts_of bs (or_empty (spans bs ps))) ≡ ps
among bs ps known sound apart =
    ap joined_parts (empty_parts bs (spans bs ps))
    ∙ parts-joined bs (map (span_in bs) ps) (spans_forward bs ps)
    ∙ ap joined_parts (expand_all bs ps known sound) ∙ apart

pub file_again : (bs : List (List ℕ)) (ps : List Part) → list_all (is_known bs) ps ≡ true → are_sound ps ≡ true → joined_parts ps ≡ ps → joined_parts (parts_of (or_empty_block bs) (or_empty (spans bs ps))) ≡ ps
file_again [] [] known sound apart = ap joined_parts (empty_parts (or_empty_block []) [])
file_again [] (p ∷ ps) known sound apart = absurd (false≢true (and_parts (is_known [] p) (list_all (is_known []) ps) known).0)
file_again (b ∷ bs) ps known sound apart = among (b ∷ bs) ps known sound apart

-- The blocks of files hold each locator of their parts.

abbrev has : List (List ℕ) → List ℕ → Bool
has bs q = is_some (start_at bs q)

kept_by : (bs : List (List ℕ)) (l q : List ℕ) (o : Option ℕ) → start_at bs l ≡ o → has bs q ≡ true → has (cond (is_some o) bs (bs ++ l ∷ [])) q ≡ true
kept_by bs l q (Some n) e h = h
kept_by bs l q None e h = ap is_some (start-push bs l q e) ∙ either (bytes_eq l q)
  where
    either : (b : Bool) → is_some (cond b (Some (total_size bs)) (start_at bs q)) ≡ true
    either true = refl
    either false = h

held_by : (bs : List (List ℕ)) (l : List ℕ) (o : Option ℕ) → start_at bs l ≡ o → has (cond (is_some o) bs (bs ++ l ∷ [])) l ≡ true
held_by bs l (Some n) e = ap is_some e
held_by bs l None e = ap is_some (start-push bs l l e) ∙ ap (λ b. is_some (cond b (Some (total_size bs)) (start_at bs l))) ((bytes_decides l l).1 refl)

stays : (ls bs : List (List ℕ)) (q : List ℕ) → has bs q ≡ true → has (fold with_block bs ls) q ≡ true
stays [] bs q h = h
stays (l ∷ ls) bs q h = stays ls (with_block bs l) q (kept_by bs l q (start_at bs l) refl h)

all_held : (ls bs : List (List ℕ)) → list_all (has (fold with_block bs ls)) ls ≡ true
all_held [] bs = refl
all_held (l ∷ ls) bs =
    and_from (has (fold with_block (with_block bs l) ls) l) (list_all (has (fold with_block (with_block bs l) ls)) ls)
    (stays ls (with_block bs l) l (held_by bs l (start_at bs l) refl)) (all_held ls (with_block bs l))

held_files : (bs : List (List ℕ)) (gs : List FileParts) → list_all (λ f. list_all (has bs) (locators_of f)) gs ≡ true → list_all (λ f. list_all (is_known bs) f.parts) gs ≡ true
held_files bs [] h = refl
held_files bs (g ∷ gs) h =
    let parts = and_parts (list_all (has bs) (locators_of g)) (list_all (λ f. list_all (has bs) (locators_of f)) gs) h in
    and_from (list_all (is_known bs) g.parts) (list_all (λ f. list_all (is_known bs) f.parts) gs) (sym (list_all-map (has bs) (λ (p : Part). p.locator) g.parts) ∙ parts.0) (held_files bs gs parts.1)

pub blocks_known : (fs : List FileParts) → list_all (λ f. list_all (is_known (blocks fs)) f.parts) fs ≡ true
blocks_known fs = held_files (blocks fs) fs (sym (list_all-flat_map (has (blocks fs)) locators_of fs) ∙ all_held (flat_map locators_of fs) [])
