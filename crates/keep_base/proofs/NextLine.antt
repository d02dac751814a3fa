-- What was found in what is pending is what comes next of the known bytes.
use Rattle.std.proofs.Common.{◌≡◌, ◌≢◌, inl, inr, ℕ, zero, suc, ◌+◌, ◌<◌, ◌≤◌, List, [], ◌∷◌, ◌++◌, length, take, drop, get_or, Option, None, Some, Ok, Err, refl, sym, ◌∙◌, ap, subst, arith}
use Rattle.std.proofs.lemmas.List.{append-nil, take_all, drop_all, length-take-le}
use Rattle.std.proofs.lemmas.Bool.Decides.{nat_tests}
use Rattle.std.specs.Io.KnownBytes.{Keeps, prepend_known}
use Rattle.keep_spec.specs.Lines.{cut, text_of, Verdict, fits, line_too_long, input_too_long, verdict_of}
use Rattle.keep_base.specs.declared.lines.Stop.{Stop}
use Rattle.keep_base.specs.declared.lines.Stop.TheVariants.{ReadFault, LineTooLong, InputTooLong, NoMemory}
use Rattle.keep_base.specs.declared.lines.LineError.TheVariants as E
use Rattle.keep_base.specs.declared.lines.TheConstants.{LINE_MAX, INPUT_MAX}
use Rattle.keep_base.specs.Ends.{IsPlain, Ends, IsRefused, IsFound, error_of_stop}
use Rattle.keep_base.specs.Lines.{IsNext, IsNextJudged}
use Rattle.keep_base.proofs.Cut.{cut-newline, text_of-newline, cut-plain, text_of-plain, cut-begins}

-- the first piece, where it was found whole
pub record Found (pending s : List ℕ) (text piece : ℕ) : Type 0 where
  pub first : cut (pending ++ s) ≡ take piece pending ∷ cut (drop piece pending ++ s)
  pub text_is : text_of (take piece pending) ≡ take text pending

found_newline : (pending s : List ℕ) (text piece : ℕ) → piece ≡ text + 1 → piece ≤ length pending → IsPlain pending 0 text → get_or pending text 0 ≡ 10 → Found pending s text piece
found_newline pending s text piece e le p n =
    let e' : piece ≡ suc text = omega arith in
    rw e' record {
      first = cut-newline pending s text (omega arith) p n;
      text_is = text_of-newline pending text (omega arith) p n;
    }

cut-all : (pending : List ℕ) → 0 < length pending → IsPlain pending 0 (length pending) → cut pending ≡ pending ∷ []
cut-all [] lt p = absurd (omega arith)
cut-all (x ∷ xs) lt p = cut-plain x xs p

found_end : (pending s : List ℕ) (text piece : ℕ) → piece ≡ text → text ≡ length pending → s ≡ [] → 0 < piece → IsPlain pending 0 text → Found pending s text piece
unfolding cut
found_end pending s text piece e all end some p =
    let whole : take piece pending ≡ pending = take_all piece pending (omega arith) in
    let none : drop piece pending ≡ [] = drop_all piece pending (omega arith) in
    let plain : IsPlain pending 0 (length pending) = rw (← all) p in
    record {
      first = rw (end, whole, none, append-nil) (cut-all pending (omega arith) plain);
      text_is = rw (whole, take_all text pending (omega arith)) (text_of-plain pending plain);
    }

pub found_ends : (pending s : List ℕ) (text piece : ℕ) → Ends pending (Some s) text piece → Found pending s text piece
found_ends pending s text piece e =
    elim e.how as (λ _. Found pending s text piece) [
      | inl h ↦ found_newline pending s text piece h.0 e.within e.plain h.1
      | inr h ↦ found_end pending s text piece h.0 h.1 h.2 e.some e.plain
    ]

text_within : (pending : List ℕ) (left : Option (List ℕ)) (text piece : ℕ) → Ends pending left text piece → text ≤ length pending
text_within pending left text piece e =
    elim e.how as (λ _. text ≤ length pending) [ inl h ↦ let w = e.within in omega (arith, h.0) | inr h ↦ omega (arith, h.1) ]

pub next_given : (taken number after n : ℕ) (known left : Option (List ℕ)) (pending : List ℕ) (text piece : ℕ) → Keeps known (prepend_known pending left) → Ends pending left text piece → verdict_of LINE_MAX INPUT_MAX taken text piece ≡ fits → after ≡ taken + piece → IsNext taken number known (Ok (Some n)) (take text pending) after (prepend_known (drop piece pending) left)
next_given taken number after n None left pending text piece k e v a = tt
next_given taken number after n (Some bytes) None pending text piece k e v a = absurd k
next_given taken number after n (Some bytes) (Some s) pending text piece k e v a =
    let f = found_ends pending s text piece e in
    let full : length (take piece pending) ≡ piece = length-take-le piece pending e.within in
    let full_text : length (take text pending) ≡ text = length-take-le text pending (text_within pending (Some s) text piece e) in
    record {
      piece = take piece pending;
      first = ap cut (sym k) ∙ f.first;
      text_is = sym f.text_is;
      taken_is = rw full a;
      fits_in = rw (full, full_text) v;
    }

-- a verdict that refuses stays as the line goes on
line-longer : (taken n text piece : ℕ) → n ≤ text → n ≤ piece → verdict_of LINE_MAX INPUT_MAX taken n n ≡ line_too_long → verdict_of LINE_MAX INPUT_MAX taken text piece ≡ line_too_long
line-longer taken n text piece a b e = grind (arith, nat_tests)

input-longer : (taken n text piece : ℕ) → n ≤ text → n ≤ piece → verdict_of LINE_MAX INPUT_MAX taken n n ≡ input_too_long → verdict_of LINE_MAX INPUT_MAX taken text piece ≡ input_too_long
input-longer taken n text piece a b e = grind (arith, nat_tests)

-- where a piece that begins so is refused, the first piece is
abbrev Refuses : ℕ → Verdict → Type 0
Refuses taken v = (n text piece : ℕ) → n ≤ text → n ≤ piece → verdict_of LINE_MAX INPUT_MAX taken n n ≡ v → verdict_of LINE_MAX INPUT_MAX taken text piece ≡ v

begins_some : (taken n : ℕ) (v : Verdict) → v ≢ fits → taken ≤ INPUT_MAX → verdict_of LINE_MAX INPUT_MAX taken n n ≡ v → 0 < n
begins_some taken zero v ne le e = absurd (ne (sym e ∙ nothing-fits taken le))
  where
    nothing-fits : (t : ℕ) → t ≤ INPUT_MAX → verdict_of LINE_MAX INPUT_MAX t 0 0 ≡ fits
    nothing-fits t l = grind (arith, nat_tests)
begins_some taken (suc n) v ne le e = omega arith

refused_open : (taken : ℕ) (v : Verdict) (pending s : List ℕ) → 0 < length pending → Refuses taken v → IsPlain pending 0 (length pending) → verdict_of LINE_MAX INPUT_MAX taken (length pending) (length pending) ≡ v → IsNextJudged taken (pending ++ s) v
refused_open taken v [] s some longer p e = absurd (omega arith)
refused_open taken v (x ∷ xs) s some longer p e =
    let f = cut-begins x xs s p in
    (f.piece, (f.rest, (f.first, longer (length (x ∷ xs)) (length (text_of f.piece)) (length f.piece) f.text f.whole e)))

refused_newline : (taken text : ℕ) (v : Verdict) (pending s : List ℕ) → text + 1 ≤ length pending → IsPlain pending 0 text → get_or pending text 0 ≡ 10 → verdict_of LINE_MAX INPUT_MAX taken text (text + 1) ≡ v → IsNextJudged taken (pending ++ s) v
refused_newline taken text v pending s le p n e =
    let f = found_newline pending s text (text + 1) refl le p n in
    let full : length (take (text + 1) pending) ≡ text + 1 = length-take-le (text + 1) pending le in
    let full_text : length (take text pending) ≡ text = length-take-le text pending (omega arith) in
    (take (text + 1) pending, (cut (drop (text + 1) pending ++ s), (f.first, rw (full, f.text_is, full_text) e)))

refused : (taken : ℕ) (v : Verdict) (pending s : List ℕ) → v ≢ fits → taken ≤ INPUT_MAX → Refuses taken v → IsRefused taken v pending → IsNextJudged taken (pending ++ s) v
refused taken v pending s ne le longer (text, (piece, (begins, e))) =
    elim begins.how as (λ _. IsNextJudged taken (pending ++ s) v) [
      | inl h ↦
          let at_end : verdict_of LINE_MAX INPUT_MAX taken (length pending) (length pending) ≡ v = rw (h.0, h.1) at e in
          refused_open taken v pending s (begins_some taken (length pending) v ne le at_end) longer (rw h.1 at begins.plain) at_end
      | inr h ↦
          let le' : text + 1 ≤ length pending = let w = begins.within in omega (arith, h.0) in
          refused_newline taken text v pending s le' begins.plain h.1 (rw h.0 at e)
    ]

next_refused-line : (taken number after : ℕ) (known left after_left : Option (List ℕ)) (lent pending : List ℕ) → taken ≤ INPUT_MAX → Keeps known (prepend_known pending left) → IsRefused taken line_too_long pending → IsNext taken number known (Err (E.LineTooLong (number + 1))) lent after after_left
next_refused-line taken number after None left after_left lent pending le k r = tt
next_refused-line taken number after (Some bytes) None after_left lent pending le k r = absurd k
next_refused-line taken number after (Some bytes) (Some s) after_left lent pending le k r =
    (refl, rw (sym k) (refused taken line_too_long pending s (λ e. cc) le (line-longer taken) r))

next_refused-input : (taken number after : ℕ) (known left after_left : Option (List ℕ)) (lent pending : List ℕ) → taken ≤ INPUT_MAX → Keeps known (prepend_known pending left) → IsRefused taken input_too_long pending → IsNext taken number known (Err E.InputTooLong) lent after after_left
next_refused-input taken number after None left after_left lent pending le k r = tt
next_refused-input taken number after (Some bytes) None after_left lent pending le k r = absurd k
next_refused-input taken number after (Some bytes) (Some s) after_left lent pending le k r =
    rw (sym k) (refused taken input_too_long pending s (λ e. cc) le (input-longer taken) r)

next_fault : (taken number after : ℕ) (known after_left : Option (List ℕ)) (lent : List ℕ) → IsNext taken number known (Err E.ReadFault) lent after after_left
next_fault taken number after None after_left lent = tt
next_fault taken number after (Some bytes) after_left lent = tt

next_memory : (taken number after : ℕ) (known after_left : Option (List ℕ)) (lent : List ℕ) → IsNext taken number known (Err E.NoMemory) lent after after_left
next_memory taken number after None after_left lent = tt
next_memory taken number after (Some bytes) after_left lent = tt

pub next_stopped : (taken number after : ℕ) (old lent : List ℕ) (old_left left after_left : Option (List ℕ)) (pending : List ℕ) (stop : Stop) → taken ≤ INPUT_MAX → Keeps (prepend_known old old_left) (prepend_known pending left) → IsFound taken (Err stop) pending left → IsNext taken number (prepend_known old old_left) (Err (error_of_stop stop (number + 1))) lent after after_left
next_stopped taken number after old lent old_left left after_left pending ReadFault le k f = next_fault taken number after (prepend_known old old_left) after_left lent
next_stopped taken number after old lent old_left left after_left pending LineTooLong le k f = next_refused-line taken number after (prepend_known old old_left) left after_left lent pending le k f
next_stopped taken number after old lent old_left left after_left pending InputTooLong le k f = next_refused-input taken number after (prepend_known old old_left) left after_left lent pending le k f
next_stopped taken number after old lent old_left left after_left pending NoMemory le k f = next_memory taken number after (prepend_known old old_left) after_left lent

-- what was read ahead tells of a refusal, whatever the source tells
pub line_refused : (taken number n : ℕ) (left : Option (List ℕ)) (pending : List ℕ) (stop : Stop) → taken ≤ INPUT_MAX → error_of_stop stop (number + 1) ≡ E.LineTooLong n → IsFound taken (Err stop) pending left → (n ≡ number + 1) × IsNextJudged taken pending line_too_long
line_refused taken number n left pending ReadFault le e f = cc
line_refused taken number n left pending LineTooLong le e f =
    (cc, subst (λ (v : List ℕ). IsNextJudged taken v line_too_long) (append-nil pending) (refused taken line_too_long pending [] (λ e. cc) le (line-longer taken) f))
line_refused taken number n left pending InputTooLong le e f = cc
line_refused taken number n left pending NoMemory le e f = cc

pub input_refused : (taken n : ℕ) (left : Option (List ℕ)) (pending : List ℕ) (stop : Stop) → taken ≤ INPUT_MAX → error_of_stop stop n ≡ E.InputTooLong → IsFound taken (Err stop) pending left → IsNextJudged taken pending input_too_long
input_refused taken n left pending ReadFault le e f = cc
input_refused taken n left pending LineTooLong le e f = cc
input_refused taken n left pending InputTooLong le e f =
    subst (λ (v : List ℕ). IsNextJudged taken v input_too_long) (append-nil pending) (refused taken input_too_long pending [] (λ e. cc) le (input-longer taken) f)
input_refused taken n left pending NoMemory le e f = cc
