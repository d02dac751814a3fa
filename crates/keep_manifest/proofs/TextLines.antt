-- The lines of a text, one after another.
-- Laws: `some_line`, `line_read`, `line_refused`, `text_ends`, `unfinished_refused`, `unfinished`, `streams_refused`, `text_refused`.
use Rattle.std.proofs.Common.{◌≡◌, ℕ, ◌+◌, ◌-◌, ◌≤◌, eqb, Bool, true, false, cond, List, [], ◌∷◌, ◌++◌, length, Some, None, Result, Ok, Err, refl, ap, sym, subst, ◌∙◌, append_assoc, append-nil, IfErr, arith}
use Rattle.std.specs.List.{onto_first}
use Rattle.keep_spec.specs.Manifest.{cut_at}
use Rattle.keep_spec.specs.Refusals.{bad}
use Rattle.keep_spec.specs.declared.manifest.Manifest.{Manifest}
use Rattle.keep_spec.specs.declared.manifest.Stream.{Stream}
use Rattle.keep_spec.specs.declared.manifest.Refusal.{Refusal}
use Rattle.keep_spec.specs.declared.manifest.Kind.TheVariants.{NoNewline}
use Rattle.keep_spec.specs.Results.{◌>>=◌}
use Rattle.keep_manifest.specs.declared.fault.BadManifest.{BadManifest}
use Rattle.keep_manifest.specs.declared.fault.BadManifest.TheVariants.{NoMemory, Refused}
use Rattle.keep_manifest.specs.Causes.{IsCause}
use Rattle.keep_manifest.specs.Parsing.{Returns, line_at, pieces_at, refuse}
use Rattle.keep_manifest.specs.Tokens.{lines_of}
use Rattle.keep_manifest.proofs.SplitText.{split_found, split_none, length_found}

-- streams before those that parsing returns
abbrev pub with_front : List Stream → Result (List Stream) Refusal → Result (List Stream) Refusal
with_front front r = r >>= λ ss. Ok (front ++ ss)

filled_onto : (x : ℕ) (parts : List (List ℕ)) → (y : List ℕ) × (ys : List (List ℕ)) × (onto_first x parts ≡ y ∷ ys)
filled_onto x [] = (x ∷ [], [], refl)
filled_onto x (p ∷ ps) = (x ∷ p, ps, refl)

pub some_line : (text : List ℕ) → (y : List ℕ) × (ys : List (List ℕ)) × (lines_of text ≡ y ∷ ys)
some_line [] = ([], [], refl)
some_line (x ∷ xs) = by_newline (eqb x 10)
  where
    by_newline : (b : Bool) → (y : List ℕ) × (ys : List (List ℕ)) × (cond b ([] ∷ lines_of xs) (onto_first x (lines_of xs)) ≡ y ∷ ys)
    by_newline true = ([], lines_of xs, refl)
    by_newline false = filled_onto x (lines_of xs)

pieces_first : (at : ℕ) (line : List ℕ) (pieces : List (List ℕ)) → (y : List ℕ) × (ys : List (List ℕ)) × (pieces ≡ y ∷ ys) → pieces_at at (line ∷ pieces) ≡ (line_at at line >>= λ s. pieces_at (at + length line + 1) pieces >>= λ ss. Ok (s ∷ ss))
unfolding pieces_at
pieces_first at line [] w = absurd (let e = w.2 in cc)
pieces_first at line (next ∷ more) w = refl

-- a line that ends with a newline
pieces_more : (at : ℕ) (rest line behind : List ℕ) → cut_at 10 rest ≡ Some (line, behind) → pieces_at at (lines_of rest) ≡ (line_at at line >>= λ s. pieces_at (at + length line + 1) (lines_of behind) >>= λ ss. Ok (s ∷ ss))
pieces_more at rest line behind e = ap (pieces_at at) (split_found 10 rest (line, behind) e) ∙ pieces_first at line (lines_of behind) (some_line behind)

front_more : (front : List Stream) (s : Stream) (r : Result (List Stream) Refusal) → with_front front (r >>= λ ss. Ok (s ∷ ss)) ≡ with_front (front ++ s ∷ []) r
front_more front s (Ok ss) = ap (λ all. Ok all) (sym (append_assoc front (s ∷ []) ss))
front_more front s (Err e) = refl

-- its stream joins those before
pub line_read : (all : ℕ) (front : List Stream) (rest line behind : List ℕ) (s : Stream) → cut_at 10 rest ≡ Some (line, behind) → length rest ≤ all → line_at (all - length rest) line ≡ Ok s → with_front (front ++ s ∷ []) (pieces_at (all - length behind) (lines_of behind)) ≡ with_front front (pieces_at (all - length rest) (lines_of rest))
line_read all front rest line behind s e fits read =
    let long = length_found 10 rest (line, behind) e in
    let place : all - length rest + length line + 1 ≡ all - length behind = omega arith in
    sym (ap (with_front front) (pieces_more (all - length rest) rest line behind e ∙ ap (λ r. r >>= λ s'. pieces_at (all - length rest + length line + 1) (lines_of behind) >>= λ ss. Ok (s' ∷ ss)) read ∙ ap (λ k. pieces_at k (lines_of behind) >>= λ ss. Ok (s ∷ ss)) place) ∙ front_more front s _)

-- its refusal is the text's
pub line_refused : (at : ℕ) (front : List Stream) (rest line behind : List ℕ) (f : Refusal) → cut_at 10 rest ≡ Some (line, behind) → line_at at line ≡ Err f → with_front front (pieces_at at (lines_of rest)) ≡ Err f
line_refused at front rest line behind f e read = ap (with_front front) (pieces_more at rest line behind e ∙ ap (λ r. r >>= λ s'. pieces_at (at + length line + 1) (lines_of behind) >>= λ ss. Ok (s' ∷ ss)) read)

-- no_parts stands after the last newline
pub text_ends : (at : ℕ) (front : List Stream) (rest : List ℕ) → length rest ≡ 0 → with_front front (pieces_at at (lines_of rest)) ≡ Ok front
unfolding pieces_at
text_ends at front [] e = ap (λ all. Ok all) (append-nil front)
text_ends at front (x ∷ xs) e = absurd (omega arith)

pieces_last : (at : ℕ) (rest : List ℕ) → cut_at 10 rest ≡ None → eqb (length rest) 0 ≡ false → pieces_at at (lines_of rest) ≡ (line_at at rest >>= λ _. refuse (at + length rest) NoNewline)
unfolding pieces_at
pieces_last at rest e some = ap (pieces_at at) (split_none 10 rest e) ∙ rw some

-- what stands there is refused, and its end where no_parts else is
pub unfinished_refused : (at : ℕ) (front : List Stream) (rest : List ℕ) (f : Refusal) → cut_at 10 rest ≡ None → eqb (length rest) 0 ≡ false → line_at at rest ≡ Err f → with_front front (pieces_at at (lines_of rest)) ≡ Err f
unfinished_refused at front rest f e some read = ap (with_front front) (pieces_last at rest e some ∙ ap (λ r. r >>= λ _. refuse (at + length rest) NoNewline) read)

pub unfinished : (at end : ℕ) (front : List Stream) (rest : List ℕ) (s : Stream) → cut_at 10 rest ≡ None → eqb (length rest) 0 ≡ false → line_at at rest ≡ Ok s → at + length rest ≡ end → with_front front (pieces_at at (lines_of rest)) ≡ refuse end NoNewline
unfinished at end front rest s e some read place = ap (with_front front) (pieces_last at rest e some ∙ ap (λ r. r >>= λ _. refuse (at + length rest) NoNewline) read ∙ ap (λ k. refuse k NoNewline) place)

-- the exit at a line that was not read
pub streams_refused : {X : Type 0} (e : BadManifest) (line : Result Stream Refusal) (r : Result X BadManifest) (all : Result X Refusal) → Returns (Err e) line → r ≡ Err e → ((f : Refusal) → line ≡ Err f → all ≡ Err f) → Returns r all
streams_refused NoMemory line r all g e h = subst (λ x. Returns x all) (sym e) tt
streams_refused (Refused f) line r all g e h = subst (λ x. Returns x all) (sym e) (h f g)

-- the exit of a text that was not read
pub text_refused : (e : BadManifest) (r : Result Manifest BadManifest) (streams : Result (List Stream) Refusal) (text : List ℕ) → Returns (Err e) streams → r ≡ Err e → ((f : Refusal) → streams ≡ Err f → bad text ≡ Some f) → IfErr r (IsCause (bad text))
text_refused NoMemory r streams text g e h = subst (λ x. IfErr x (IsCause (bad text))) (sym e) tt
text_refused (Refused f) r streams text g e h = subst (λ x. IfErr x (IsCause (bad text))) (sym e) (h f g)
