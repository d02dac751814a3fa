-- The tokens of a line, one after another.
-- Laws: `left_behind`, `tokens_more`, `tokens_fail`, `step_more`, `step_fail`, `step_end`, `line_named`, `line_unnamed`, `line_refused`,
-- `line_stops`, `line_ends`.
use Rattle.std.proofs.Common.{◌≡◌, ℕ, ◌+◌, ◌-◌, ◌≤◌, eqb, true, false, List, ◌∷◌, length, Option, Some, None, Result, Ok, Err, MatchOption, ap, sym, subst, ◌∙◌, arith}
use Rattle.std.specs.List.{slice_split}
use denote.Ref.{Bor}
use Rattle.keep_spec.specs.Names.{decode, is_stream_name}
use Rattle.keep_spec.specs.declared.manifest.Stream.{Stream}
use Rattle.keep_spec.specs.declared.manifest.Refusal.{Refusal}
use Rattle.keep_spec.specs.declared.manifest.Kind.TheVariants.{BadStream}
use Rattle.keep_spec.specs.Results.{◌>>=◌}
use Rattle.keep_manifest.specs.Parsing.{Returns, Parts, no_parts, token_at, tokens_at, named_at, line_at, whole, refuse}
use Rattle.keep_manifest.specs.Builder.{Leaves}
use Rattle.keep_manifest.specs.Tokens.{tokens_of}
use Rattle.keep_manifest.specs.declared.fault.BadManifest.{BadManifest}
use Rattle.keep_manifest.specs.declared.fault.BadManifest.TheVariants.{NoMemory, Refused}

-- how many bytes of a line are left, and one more where the line hasn't ended
abbrev pub left : Option (Bor (List ℕ)) → ℕ
left None = 0
left (Some rest) = length rest.now + 1

pub left_behind : (behind : Option (Bor (List ℕ))) (token text : List ℕ) → MatchOption behind (length token ≡ length text) (λ rest. length token + 1 + length rest.now ≡ length text) → left behind + length token ≡ length text
left_behind None token text h = omega arith
left_behind (Some rest) token text h = omega arith

pub tokens_more : (at next : ℕ) (token : List ℕ) (tokens : List (List ℕ)) (p q : Parts) → next ≡ at + length token + 1 → token_at at token p ≡ Ok q → tokens_at at (token ∷ tokens) p ≡ tokens_at next tokens q
unfolding tokens_at
tokens_more at next token tokens p q n e = ap (λ r. r >>= tokens_at (at + length token + 1) tokens) e ∙ ap (λ k. tokens_at k tokens q) (sym n)

pub tokens_fail : (at : ℕ) (token : List ℕ) (tokens : List (List ℕ)) (p : Parts) (f : Refusal) → token_at at token p ≡ Err f → tokens_at at (token ∷ tokens) p ≡ Err f
unfolding tokens_at
tokens_fail at token tokens p f e = ap (λ r. r >>= tokens_at (at + length token + 1) tokens) e

abbrev parts : List ℕ → List (List ℕ)
parts line = slice_split (λ b. eqb b 32) line

pub step_more : (end : ℕ) (rest : Option (Bor (List ℕ))) (text : Bor (List ℕ)) (token : List ℕ) (behind : Option (Bor (List ℕ))) (p q : Parts) → rest ≡ Some text → left rest ≤ end + 1 → parts text.now ≡ token ∷ tokens_of behind → left behind + length token ≡ length text.now → token_at (end - length text.now) token p ≡ Ok q
    → tokens_at (end + 1 - left behind) (tokens_of behind) q ≡ tokens_at (end + 1 - left rest) (tokens_of rest) p
step_more end rest text token behind p q e fits cut long taken =
    let room : length text.now + 1 ≤ end + 1 = omega (arith, ap left e) in
    let same : end + 1 - (length text.now + 1) ≡ end - length text.now = omega arith in
    let next : end + 1 - left behind ≡ end - length text.now + length token + 1 = omega arith in
    sym (ap (λ r. tokens_at (end + 1 - left r) (tokens_of r) p) e ∙ ap (λ k. tokens_at k (parts text.now) p) same ∙ ap (λ ts. tokens_at (end - length text.now) ts p) cut ∙ tokens_more _ _ token (tokens_of behind) p q next taken)

pub step_fail : (end : ℕ) (rest : Option (Bor (List ℕ))) (text : Bor (List ℕ)) (token : List ℕ) (behind : Option (Bor (List ℕ))) (p : Parts) (f : Refusal) → rest ≡ Some text → parts text.now ≡ token ∷ tokens_of behind → token_at (end - length text.now) token p ≡ Err f → tokens_at (end + 1 - left rest) (tokens_of rest) p ≡ Err f
step_fail end rest text token behind p f e cut taken =
    let same : end + 1 - (length text.now + 1) ≡ end - length text.now = omega arith in
    ap (λ r. tokens_at (end + 1 - left r) (tokens_of r) p) e ∙ ap (λ k. tokens_at k (parts text.now) p) same ∙ ap (λ ts. tokens_at (end - length text.now) ts p) cut ∙ tokens_fail _ token (tokens_of behind) p f taken

pub step_end : (at : ℕ) (rest : Option (Bor (List ℕ))) (p : Parts) → rest ≡ None → tokens_at at (tokens_of rest) p ≡ Ok p
unfolding tokens_at
step_end at rest p e = ap (λ r. tokens_at at (tokens_of r) p) e

-- a line whose name is read, and whose tokens say r
pub line_named : (at next : ℕ) (line name : List ℕ) (tokens : List (List ℕ)) (r : Result Parts Refusal) → parts line ≡ name ∷ tokens → is_stream_name (decode name) ≡ true → next ≡ at + length name + 1 → r ≡ tokens_at next tokens no_parts → line_at at line ≡ (r >>= whole (at + length line) (decode name))
unfolding line_at named_at
line_named at next line name tokens r e named n s =
    let body : tokens_at (at + length name + 1) tokens no_parts ≡ r = ap (λ k. tokens_at k tokens no_parts) (sym n) ∙ sym s in
    ap (named_at at (at + length line)) e ∙ rw named (ap (λ x. x >>= whole (at + length line) (decode name)) body)

pub line_unnamed : (at : ℕ) (line name : List ℕ) (tokens : List (List ℕ)) → parts line ≡ name ∷ tokens → is_stream_name (decode name) ≡ false → line_at at line ≡ refuse at BadStream
unfolding line_at named_at
line_unnamed at line name tokens e named = ap (named_at at (at + length line)) e ∙ rw named

-- the exit at a token that was not taken
pub line_refused : (e : BadManifest) (new : Parts) (taken : Result Parts Refusal) (r : Result Stream BadManifest) (line : Result Stream Refusal) → Leaves (Err e) new taken → r ≡ Err e → ((f : Refusal) → taken ≡ Err f → line ≡ Err f) → Returns r line
line_refused NoMemory new taken r line t e h = subst (λ x. Returns x line) (sym e) tt
line_refused (Refused f) new taken r line t e h = subst (λ x. Returns x line) (sym e) (h f t)

pub line_stops : (line : Result Stream Refusal) (r : Result Parts Refusal) (end : ℕ) (name : List ℕ) (f : Refusal) → line ≡ (r >>= whole end name) → r ≡ Err f → line ≡ Err f
line_stops line r end name f e stop = e ∙ ap (λ x. x >>= whole end name) stop

pub line_ends : (line : Result Stream Refusal) (r : Result Parts Refusal) (end : ℕ) (name : List ℕ) (p : Parts) → line ≡ (r >>= whole end name) → r ≡ Ok p → line ≡ whole end name p
line_ends line r end name p e stop = e ∙ ap (λ x. x >>= whole end name) stop
