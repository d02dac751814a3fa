-- Where a text that is no manifest is refused: the first refusal from the left, at the offset of the token's first byte (this project's own rule).
use Rattle.std.specs.Prelude.{ℕ, ◌+◌, ◌==◌, not, List, [], ◌∷◌, length, Option, None, Some, option_map, if◌then◌else◌}
use Rattle.std.specs.List.{slice_split}
use Rattle.std.specs.Option.{option_or}
use Rattle.keep_spec.specs.Names.{decode, is_stream_name}
use Rattle.keep_spec.specs.Locator.{is_locator, size}
use Rattle.keep_spec.specs.Manifest.{segment_form, is_named, is_within}
use Rattle.keep_spec.specs.declared.manifest.Segment.{Segment}
use Rattle.keep_spec.specs.declared.manifest.Refusal.{Refusal}
use Rattle.keep_spec.specs.declared.manifest.Kind.{Kind}
use Rattle.keep_spec.specs.declared.manifest.Kind.TheVariants.{BadStream, BadLocator, NoSegment, BadSegment, BadName, PastEnd, NoNewline}

abbrev pub refused : ℕ → Kind → Option Refusal
refused at kind = Some (record { at = at; kind = kind })

abbrev pub bad_form : ℕ → Option Segment → Option Kind
bad_form total None = Some BadSegment
bad_form total (Some s) = if not (is_named s) then Some BadName else (if not (is_within total s) then Some PastEnd else None)

-- what is wrong with the token of a segment in a stream of `total` bytes
abbrev pub bad_segment : ℕ → List ℕ → Option Kind
bad_segment total token = bad_form total (segment_form token)

-- the segments of a line, the first of them at `at`
abbrev pub bad_segments : ℕ → ℕ → List (List ℕ) → Option Refusal
bad_segments at total [] = None
bad_segments at total (token ∷ tokens) =
    option_or (option_map (λ kind. record { at = at; kind = kind }) (bad_segment total token)) (bad_segments (at + length token + 1) total tokens)

-- what follows locators of `total` bytes in a line that ends at `end`
abbrev pub bad_rest : ℕ → ℕ → ℕ → List (List ℕ) → Option Refusal
bad_rest at end total [] = refused end NoSegment
bad_rest at end total (token ∷ tokens) =
    if is_locator token then bad_rest (at + length token + 1) end (total + size token) tokens
    else bad_segments at total (token ∷ tokens)

-- what follows the name
abbrev pub bad_locators : ℕ → ℕ → List (List ℕ) → Option Refusal
bad_locators at end [] = refused end BadLocator
bad_locators at end (token ∷ tokens) =
    if is_locator token then bad_rest (at + length token + 1) end (size token) tokens else refused at BadLocator

abbrev pub bad_tokens : ℕ → ℕ → List (List ℕ) → Option Refusal
bad_tokens at end [] = refused at BadStream
bad_tokens at end (name ∷ tokens) =
    if is_stream_name (decode name) then bad_locators (at + length name + 1) end tokens else refused at BadStream

-- a line that begins at `at`
abbrev pub bad_line : ℕ → List ℕ → Option Refusal
bad_line at line = bad_tokens at (at + length line) (slice_split (λ b. b == 32) line)

-- the pieces of a text between its newlines; what follows the last one is tested as a line, and then for its newline
abbrev pub bad_pieces : ℕ → List (List ℕ) → Option Refusal
bad_pieces at [] = None
bad_pieces at (last ∷ []) = if length last == 0 then None else option_or (bad_line at last) (refused (at + length last) NoNewline)
bad_pieces at (line ∷ next ∷ more) = option_or (bad_line at line) (bad_pieces (at + length line + 1) (next ∷ more))

-- the first refusal of a text, and none where it is a manifest
unfoldable pub bad : List ℕ → Option Refusal
bad text = bad_pieces 0 (slice_split (λ b. b == 10) text)
