-- What a reader of lines has done and has left, and what comes next. Bounds are those of keep_base/src/lines.
use Rattle.std.specs.Prelude.{◌≡◌, ℕ, Bool, ◌+◌, List, [], ◌∷◌, length, take, drop, Option, None, Some, Result, Ok, Err, ⊤}
use Rattle.std.specs.Io.KnownBytes.{prepend_known, IsAtEnd, Keeps}
use Rattle.keep_spec.specs.Lines.{cut, text_of, newlines, Verdict, fits, line_too_long, input_too_long, verdict_of}
use Rattle.keep_base.specs.Ends.{failure_of, is_end}
use Rattle.keep_base.specs.declared.lines.Lines.{Lines}
use Rattle.keep_base.specs.declared.stream.Source.{Ghosts}
use Rattle.keep_base.specs.declared.lines.LineError.{LineError}
use Rattle.keep_base.specs.declared.lines.LineError.TheVariants.{ReadFault, LineTooLong, InputTooLong, NoMemory}
use Rattle.keep_base.specs.declared.lines.TheConstants.{LINE_MAX, INPUT_MAX}

-- the bytes of no line that was returned, where the source tells them
abbrev pub lines_left : {R : Type 0} {G : Ghosts R} → Lines R G → Option (List ℕ)
lines_left {R} {G} lines = prepend_known (drop lines.start lines.pending.items) (G.left lines.source.now)

-- the text that is lent: of the line that the last call returned
abbrev pub lines_text : {R : Type 0} {G : Ghosts R} → Lines R G → List ℕ
lines_text lines = take lines.text_len (drop lines.text_start lines.pending.items)

-- the error that every call returns from now on
abbrev pub lines_failed : {R : Type 0} {G : Ghosts R} → Lines R G → Option LineError
lines_failed lines = failure_of lines.state

-- whether the end was found: every call returns it from now on
abbrev pub lines_ended : {R : Type 0} {G : Ghosts R} → Lines R G → Bool
lines_ended lines = is_end lines.state

-- how many bytes and how many lines were returned
abbrev pub lines_taken : {R : Type 0} {G : Ghosts R} → Lines R G → ℕ
lines_taken lines = lines.taken

abbrev pub lines_number : {R : Type 0} {G : Ghosts R} → Lines R G → ℕ
lines_number lines = lines.number

-- the source, and the reference to it
abbrev pub lines_source : {R : Type 0} {G : Ghosts R} → Lines R G → R
lines_source lines = lines.source.now

abbrev pub lines_name : {R : Type 0} {G : Ghosts R} → Lines R G → ℕ
lines_name lines = lines.source.ghost_name

-- the bytes that were read from the source and are of no line that was returned
abbrev pub lines_ahead : {R : Type 0} {G : Ghosts R} → Lines R G → List ℕ
lines_ahead lines = drop lines.start lines.pending.items

-- the source failed: no byte is lost, and in what was read of it and not returned no line stands whole, nor the beginning of one that is refused
pub record IsInterrupted {R : Type 0} {G : Ghosts R} (old new : Lines R G) : Type 0 where
  pub left_stays : Keeps (lines_left old) (lines_left new)
  pub no_newline : newlines (lines_ahead new) ≡ 0
  pub fits_so_far : verdict_of LINE_MAX INPUT_MAX (lines_taken old) (length (lines_ahead new)) (length (lines_ahead new)) ≡ fits

-- an error was returned: no byte is lost, nothing is lent, and no byte or line was counted
pub record IsStopped {R : Type 0} {G : Ghosts R} (old new : Lines R G) : Type 0 where
  pub left_stays : Keeps (lines_left old) (lines_left new)
  pub no_text : lines_text new ≡ []
  pub taken_stays : lines_taken new ≡ lines_taken old
  pub number_stays : lines_number new ≡ lines_number old

-- nothing was read, and no text is lent
pub record Stays {R : Type 0} {G : Ghosts R} (old new : Lines R G) : Type 0 where
  pub source_stays : lines_source new ≡ lines_source old
  pub ahead_stays : lines_ahead new ≡ lines_ahead old
  pub no_text : lines_text new ≡ []
  pub taken_stays : lines_taken new ≡ lines_taken old
  pub number_stays : lines_number new ≡ lines_number old
  pub failed_stays : lines_failed new ≡ lines_failed old
  pub ended_stays : lines_ended new ≡ lines_ended old

-- the input has ended: nothing is read ahead or lent, nothing is left of the source, and no byte or line was counted
pub record IsEnd {R : Type 0} {G : Ghosts R} (old new : Lines R G) : Type 0 where
  pub left_stays : Keeps (lines_left old) (lines_left new)
  pub none_ahead : lines_ahead new ≡ []
  pub none_left : IsAtEnd (G.left new.source.now)
  pub no_text : lines_text new ≡ []
  pub taken_stays : lines_taken new ≡ lines_taken old
  pub number_stays : lines_number new ≡ lines_number old

-- the next piece of these bytes has this verdict
abbrev pub IsNextJudged : ℕ → List ℕ → Verdict → Type 0
IsNextJudged taken bytes verdict = (piece : List ℕ) × ((rest : List (List ℕ)) × ((cut bytes ≡ piece ∷ rest) × (verdict_of LINE_MAX INPUT_MAX taken (length (text_of piece)) (length piece) ≡ verdict)))

-- a line of these bytes was returned, and these are left
pub record IsGiven (taken taken_after : ℕ) (bytes left text : List ℕ) : Type 0 where
  pub piece : List ℕ
  pub first : cut bytes ≡ piece ∷ cut left
  pub text_is : text ≡ text_of piece
  pub taken_is : taken_after ≡ taken + length piece
  pub fits_in : verdict_of LINE_MAX INPUT_MAX taken (length text) (length piece) ≡ fits

-- what comes next of known bytes, after `taken` bytes and `number` lines, and the text that is lent then
abbrev pub IsNext : ℕ → ℕ → Option (List ℕ) → Result (Option ℕ) LineError → List ℕ → ℕ → Option (List ℕ) → Type 0
IsNext taken number None result text taken_after left = ⊤
IsNext taken number (Some bytes) (Ok None) text taken_after left = bytes ≡ []
IsNext taken number (Some bytes) (Ok (Some n)) text taken_after None = ⊥
IsNext taken number (Some bytes) (Ok (Some n)) text taken_after (Some left) = IsGiven taken taken_after bytes left text
IsNext taken number (Some bytes) (Err ReadFault) text taken_after left = ⊤
IsNext taken number (Some bytes) (Err (LineTooLong n)) text taken_after left = (n ≡ number + 1) × IsNextJudged taken bytes line_too_long
IsNext taken number (Some bytes) (Err InputTooLong) text taken_after left = IsNextJudged taken bytes input_too_long
IsNext taken number (Some bytes) (Err NoMemory) text taken_after left = ⊤
