-- What parsing a text, a line and a token returns: the value, or the first refusal (the Arvados manifest format; where a refusal is placed is
-- this project's own rule).
use Rattle.std.specs.Prelude.{ℕ, ◌+◌, ◌==◌, ◌&&◌, not, List, [], ◌∷◌, ◌++◌, length, Option, None, Some, Result, Ok, Err, ◌≡◌, if◌then◌else◌}
use Rattle.std.specs.List.{slice_split}
use Rattle.keep_spec.specs.Names.{decode, is_stream_name}
use Rattle.keep_spec.specs.Locator.{is_locator}
use Rattle.keep_spec.specs.Manifest.{segment_form, is_named, is_within, total_size}
use Rattle.keep_spec.specs.Results.{◌>>=◌}
use Rattle.keep_spec.specs.declared.manifest.Stream.{Stream}
use Rattle.keep_spec.specs.declared.manifest.Segment.{Segment}
use Rattle.keep_spec.specs.declared.manifest.Refusal.{Refusal}
use Rattle.keep_spec.specs.declared.manifest.Kind.{Kind}
use Rattle.keep_spec.specs.declared.manifest.Kind.TheVariants.{BadStream, BadLocator, NoSegment, BadSegment, BadName, PastEnd, NoNewline}
use Rattle.keep_manifest.specs.declared.fault.BadManifest.{BadManifest}
use Rattle.keep_manifest.specs.declared.fault.BadManifest.TheVariants.{NoMemory, Refused}

-- a call returns what parsing does, unless memory was refused
abbrev pub Returns : {X : Type 0} → Result X BadManifest → Result X Refusal → Type 0
Returns (Ok x) parsed = parsed ≡ Ok x
Returns (Err NoMemory) parsed = Unit {0}
Returns (Err (Refused f)) parsed = parsed ≡ Err f

abbrev pub refuse : {X : Type 0} → ℕ → Kind → Result X Refusal
refuse at kind = Err (record { at = at; kind = kind })

-- a segment's token at `at` in a stream of `total` bytes: its form, its name, its end, in this order
abbrev pub judged : ℕ → ℕ → Option Segment → Result Segment Refusal
judged at total None = refuse at BadSegment
judged at total (Some s) = if not (is_named s) then refuse at BadName else (if not (is_within total s) then refuse at PastEnd else Ok s)

unfoldable pub segment_at : ℕ → ℕ → List ℕ → Result Segment Refusal
segment_at at total token = judged at total (segment_form token)

-- the locators and segments of a line so far
pub record Parts : Type 0 where
  pub locators : List (List ℕ)
  pub segments : List Segment

abbrev pub no_parts : Parts
no_parts = record { locators = []; segments = [] }

abbrev pub with_locator : Parts → List ℕ → Parts
with_locator p token = record { locators = p.locators ++ token ∷ []; segments = p.segments }

abbrev pub with_segment : Parts → Segment → Parts
with_segment p s = record { locators = p.locators; segments = p.segments ++ s ∷ [] }

-- one token more: a locator while there are no segments, else a segment
unfoldable pub token_at : ℕ → List ℕ → Parts → Result Parts Refusal
token_at at token p =
    if length p.segments == 0 && is_locator token then Ok (with_locator p token)
    else (if length p.locators == 0 then refuse at BadLocator else (segment_at at (total_size p.locators) token >>= λ s. Ok (with_segment p s)))

unfoldable pub tokens_at : ℕ → List (List ℕ) → Parts → Result Parts Refusal
tokens_at at [] p = Ok p
tokens_at at (token ∷ tokens) p = token_at at token p >>= tokens_at (at + length token + 1) tokens

-- the stream of a line that ends at `end`
unfoldable pub whole : ℕ → List ℕ → Parts → Result Stream Refusal
whole end name p =
    if length p.locators == 0 then refuse end BadLocator
    else (if length p.segments == 0 then refuse end NoSegment else Ok (record { name = name; locators = p.locators; segments = p.segments }))

unfoldable pub named_at : ℕ → ℕ → List (List ℕ) → Result Stream Refusal
named_at at end [] = refuse at BadStream
named_at at end (name ∷ tokens) =
    if is_stream_name (decode name) then (tokens_at (at + length name + 1) tokens no_parts >>= whole end (decode name)) else refuse at BadStream

-- a line that begins at `at`
unfoldable pub line_at : ℕ → List ℕ → Result Stream Refusal
line_at at line = named_at at (at + length line) (slice_split (λ b. b == 32) line)

-- the pieces of a text between its newlines; the last one has no newline, and must be empty
unfoldable pub pieces_at : ℕ → List (List ℕ) → Result (List Stream) Refusal
pieces_at at [] = Ok []
pieces_at at (last ∷ []) = if length last == 0 then Ok [] else (line_at at last >>= λ _. refuse (at + length last) NoNewline)
pieces_at at (line ∷ next ∷ more) = do
  s ← line_at at line
  ss ← pieces_at (at + length line + 1) (next ∷ more)
  Ok (s ∷ ss)
