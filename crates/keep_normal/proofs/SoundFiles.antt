-- The parts of a good manifest's files are sound.
-- Laws: `parts_sound`, `good_stream_is`, `pieces_sound`, `joined_sound`, `files_sound`, `ranges_sound`, `directories_sound`.
use Rattle.std.proofs.Common.{◌≡◌, ℕ, ◌+◌, ltb, Bool, true, false, ◌&&◌, cond, List, [], ◌∷◌, length, map, refl, ap, ◌∙◌, arith, inl, inr}
use Rattle.std.specs.List.{list_all, flat_map}
use Rattle.std.proofs.lemmas.Bool.{and_parts, and_from, cases_lt}
use Rattle.std.proofs.lemmas.List.Folds.{list_all-append, list_all-map}
use Rattle.keep_spec.specs.Locator.{is_locator, size}
use Rattle.keep_spec.specs.Manifest.{total_size}
use Rattle.keep_spec.specs.Names.{is_stream_name}
use Rattle.keep_spec.specs.declared.manifest.Manifest.{Manifest}
use Rattle.keep_spec.specs.declared.manifest.Stream.{Stream}
use Rattle.keep_spec.specs.declared.manifest.Segment.{Segment}
use Rattle.keep_manifest.specs.Good.{is_good_segment, is_good_stream, is_good_manifest}
use Rattle.keep_locator.proofs.Lists.{list_all-weaker}
use Rattle.keep_normal.specs.declared.part.Part.{Part}
use Rattle.keep_normal.specs.declared.part.FileParts.{FileParts}
use Rattle.keep_normal.specs.declared.span.Span.{Span}
use Rattle.keep_normal.specs.Files.{span_of, part_in, kept, parts_in, is_mark, path_of, piece_of, stream_pieces, pieces, touch, both_parts, joined_parts, file_of, files, stripped_part, stripped_file, ranges}
use Rattle.keep_normal.specs.Grouped.{grouped}
use Rattle.keep_normal.specs.Joined.{joined_before}
use Rattle.keep_normal.specs.Normal.{by_directory, directory}
use Rattle.keep_normal.specs.Sound.{is_sound, are_sound}
use Rattle.keep_normal.proofs.TooLarge.{list_all-flat_map}
use Rattle.keep_normal.proofs.Grouping.{all_values, all_pairs, grouped-all}
use Rattle.keep_normal.proofs.SpanParts.{kept_none, kept_some}
use Rattle.keep_normal.proofs.SoundParts.{sound_is, sound_from, both_sound}
use Rattle.keep_normal.proofs.StrippedLocators.{locator-stripped, size-stripped}

-- the parts of the blocks of a stream

kept_sound : (start : ℕ) (s : Span) (l : List ℕ) → is_locator l ≡ true → are_sound (kept (part_in start s l)) ≡ true
kept_sound start s l h =
    let p = part_in start s l in
    elim (cases_lt 0 p.length) [
      | inl some ↦ ap are_sound (kept_some p some) ∙ and_from (is_sound p) true (sound_from p h some (omega arith)) refl
      | inr none ↦ ap are_sound (kept_none p (omega arith))
    ]

pub parts_sound : (start : ℕ) (s : Span) (ls : List (List ℕ)) → list_all is_locator ls ≡ true → are_sound (parts_in start s ls) ≡ true
parts_sound start s [] h = refl
parts_sound start s (l ∷ ls) h =
    let parts = and_parts (is_locator l) (list_all is_locator ls) h in
    list_all-append is_sound (kept (part_in start s l)) (parts_in (start + size l) s ls)
    ∙ and_from (are_sound (kept (part_in start s l))) (are_sound (parts_in (start + size l) s ls)) (kept_sound start s l parts.0) (parts_sound (start + size l) s ls parts.1)

-- what a segment and a stream name

piece_sound : (s : Stream) (g : Segment) → list_all is_locator s.locators ≡ true → all_pairs are_sound (piece_of s g) ≡ true
piece_sound s g h = by_mark (is_mark g)
  where
    by_mark : (b : Bool) → all_pairs are_sound (cond b [] ((path_of s.name g.name, parts_in 0 (span_of g) s.locators) ∷ [])) ≡ true
    by_mark true = refl
    by_mark false = and_from (are_sound (parts_in 0 (span_of g) s.locators)) true (parts_sound 0 (span_of g) s.locators h) refl

-- what the test of a good stream says
pub record IsGoodStream (s : Stream) : Type 0 where
  pub name : is_stream_name s.name ≡ true
  pub some : ltb 0 (length s.locators) ≡ true
  pub locators : list_all is_locator s.locators ≡ true
  pub segments : list_all (is_good_segment (total_size s.locators)) s.segments ≡ true

pub good_stream_is : (s : Stream) → is_good_stream s ≡ true → IsGoodStream s
good_stream_is s h =
    let front = is_stream_name s.name && ltb 0 (length s.locators) && ltb 0 (length s.segments) in
    let a = and_parts (front && list_all is_locator s.locators) (list_all (is_good_segment (total_size s.locators)) s.segments) h in
    let b = and_parts front (list_all is_locator s.locators) a.0 in
    let c = and_parts (is_stream_name s.name && ltb 0 (length s.locators)) (ltb 0 (length s.segments)) b.0 in
    let d = and_parts (is_stream_name s.name) (ltb 0 (length s.locators)) c.0 in
    record { name = d.0; some = d.1; locators = b.1; segments = a.1 }

all_of : {X : Type 0} (p : X → Bool) → ((x : X) → p x ≡ true) → (xs : List X) → list_all p xs ≡ true
all_of p h [] = refl
all_of p h (x ∷ xs) = and_from (p x) (list_all p xs) (h x) (all_of p h xs)

stream_sound : (s : Stream) → is_good_stream s ≡ true → all_pairs are_sound (stream_pieces s) ≡ true
stream_sound s h =
    let good = good_stream_is s h in
    list_all-flat_map (λ e. are_sound e.1) (piece_of s) s.segments ∙ all_of (λ g. all_pairs are_sound (piece_of s g)) (λ g. piece_sound s g good.locators) s.segments

pub pieces_sound : (m : Manifest) → is_good_manifest m ≡ true → all_values (λ ps. are_sound ps) (grouped (pieces m)) ≡ true
pieces_sound m good =
    grouped-all (λ ps. are_sound ps) (pieces m)
    (list_all-flat_map (λ e. are_sound e.1) stream_pieces m.streams ∙ list_all-weaker is_good_stream (λ s. all_pairs are_sound (stream_pieces s)) stream_sound m.streams good)

-- joined, and stripped

before_sound : (p : Part) (qs : List Part) → is_sound p ≡ true → are_sound qs ≡ true → are_sound (joined_before touch both_parts p qs) ≡ true
before_sound p [] hp h = and_from (is_sound p) true hp refl
before_sound p (q ∷ qs) hp h = by_touch (touch p q) refl (and_parts (is_sound q) (are_sound qs) h)
  where
    by_touch : (t : Bool) → touch p q ≡ t → (is_sound q ≡ true) × (are_sound qs ≡ true) → are_sound (cond t (both_parts p q ∷ qs) (p ∷ q ∷ qs)) ≡ true
    by_touch true t parts = and_from (is_sound (both_parts p q)) (are_sound qs) (both_sound p q t hp parts.0) parts.1
    by_touch false t parts = and_from (is_sound p) (are_sound (q ∷ qs)) hp h

pub joined_sound : (ps : List Part) → are_sound ps ≡ true → are_sound (joined_parts ps) ≡ true
joined_sound [] h = refl
joined_sound (p ∷ ps) h =
    let parts = and_parts (is_sound p) (are_sound ps) h in
    before_sound p (joined_parts ps) parts.0 (joined_sound ps parts.1)

stripped_sound : (p : Part) → is_sound p ≡ true → is_sound (stripped_part p) ≡ true
stripped_sound p h =
    let is = sound_is p h in
    let same = size-stripped p.locator in
    sound_from (stripped_part p) (locator-stripped p.locator is.locator) is.some (omega (arith, is.ends, same))

all_stripped : (ps : List Part) → are_sound ps ≡ true → are_sound (map stripped_part ps) ≡ true
all_stripped ps h = list_all-map is_sound stripped_part ps ∙ list_all-weaker is_sound (λ p. is_sound (stripped_part p)) stripped_sound ps h

-- the files

pub files_sound : (m : Manifest) → is_good_manifest m ≡ true → list_all (λ f. are_sound f.parts) (files m) ≡ true
unfolding files
files_sound m good =
    list_all-map (λ f. are_sound f.parts) file_of (grouped (pieces m))
    ∙ list_all-weaker (λ (g : List ℕ × List (List Part)). list_all (λ ps. are_sound ps) g.1) (λ g. are_sound (joined_parts (flat_map (λ ps. ps) g.1)))
    (λ g h. joined_sound (flat_map (λ ps. ps) g.1) (list_all-flat_map is_sound (λ ps. ps) g.1 ∙ h)) (grouped (pieces m)) (pieces_sound m good)

pub ranges_sound : (m : Manifest) → is_good_manifest m ≡ true → list_all (λ f. are_sound f.parts) (ranges m) ≡ true
ranges_sound m good =
    list_all-map (λ f. are_sound f.parts) stripped_file (files m)
    ∙ list_all-weaker (λ (f : FileParts). are_sound f.parts) (λ f. are_sound (map stripped_part f.parts)) (λ f h. all_stripped f.parts h) (files m) (files_sound m good)

pub directories_sound : (fs : List FileParts) → list_all (λ f. are_sound f.parts) fs ≡ true → all_values (λ f. are_sound f.parts) (grouped (by_directory fs)) ≡ true
directories_sound fs h = grouped-all (λ f. are_sound f.parts) (by_directory fs) (list_all-map (λ e. are_sound e.1.parts) (λ f. (directory f, f)) fs ∙ h)
