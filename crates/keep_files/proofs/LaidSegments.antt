-- The segments of files, one after another: `segments_turn`, `total_turn`, `segments_end`.
use Rattle.std.proofs.Common.{◌≡◌, ℕ, ◌+◌, ◌<◌, ◌≤◌, List, [], ◌∷◌, ◌++◌, length, take, drop, get_or, map, ap, sym, ◌∙◌, append-nil, append_assoc, length-append}
use Rattle.std.proofs.lemmas.List.{at_drop_more, at_drop_all, map_more}
use Rattle.std.proofs.lemmas.List.Concat.{flat_map-append}
use Rattle.keep_spec.specs.declared.manifest.Segment.{Segment}
use Rattle.keep_files.specs.Layout.{name_of, end_to_end, segments_from}
use Rattle.keep_files.specs.Places.{file_at}
use Rattle.keep_files.specs.declared.file.FileIn.{FileIn}

abbrev pub segment_at : ℕ → FileIn → Segment
segment_at start f = record { position = start; size = length f.bytes; name = name_of f.path }

-- one file more
pub segments_turn : (fs : List FileIn) (places : List ℕ) (i start next : ℕ) (out new all : List Segment) (g : Segment) (f : FileIn) → i < length places → f ≡ file_at fs (get_or places i 0)
    → g ≡ segment_at start f → new ≡ out ++ g ∷ [] → next ≡ start + length f.bytes → out ++ segments_from start (map (file_at fs) (drop i places)) ≡ all
    → new ++ segments_from next (map (file_at fs) (drop (i + 1) places)) ≡ all
unfolding segments_from
segments_turn fs places i start next out new all g f inside at is pushed ends so_far =
    let rest = map (file_at fs) (drop (i + 1) places) in
    ap (λ gs. gs ++ segments_from next rest) (pushed ∙ ap (λ s. out ++ s ∷ []) is)
    ∙ append_assoc out (segment_at start f ∷ []) (segments_from next rest)
    ∙ ap (λ n. out ++ segment_at start f ∷ segments_from n rest) ends
    ∙ ap (λ (h : FileIn). out ++ segment_at start h ∷ segments_from (start + length h.bytes) rest) at
    ∙ ap (λ gs. out ++ gs) (sym (at_drop_more (λ ps. segments_from start (map (file_at fs) ps)) places i 0 inside))
    ∙ so_far

pub total_turn : (fs : List FileIn) (places : List ℕ) (i : ℕ) (f : FileIn) → i < length places → f ≡ file_at fs (get_or places i 0)
    → length (end_to_end (map (file_at fs) (take (i + 1) places))) ≡ length (end_to_end (map (file_at fs) (take i places))) + length f.bytes
total_turn fs places i f inside at =
    ap (λ gs. length (end_to_end gs)) (map_more (file_at fs) places i 0 inside)
    ∙ ap length (flat_map-append (λ (h : FileIn). h.bytes) (map (file_at fs) (take i places)) (file_at fs (get_or places i 0) ∷ []))
    ∙ length-append (end_to_end (map (file_at fs) (take i places))) ((file_at fs (get_or places i 0)).bytes ++ [])
    ∙ ap (λ bs. length (end_to_end (map (file_at fs) (take i places))) + length bs) (append-nil (file_at fs (get_or places i 0)).bytes)
    ∙ ap (λ (h : FileIn). length (end_to_end (map (file_at fs) (take i places))) + length h.bytes) (sym at)

pub segments_end : (fs : List FileIn) (places : List ℕ) (i start : ℕ) (out all : List Segment) → length places ≤ i → out ++ segments_from start (map (file_at fs) (drop i places)) ≡ all → out ≡ all
unfolding segments_from
segments_end fs places i start out all past so_far =
    sym (append-nil out) ∙ ap (λ gs. out ++ gs) (sym (at_drop_all (λ ps. segments_from start (map (file_at fs) ps)) places i past)) ∙ so_far
