-- How many lines end in bytes, and in a head: its start line, its field lines and its empty line.
use Rattle.std.specs.Prelude.{IsTrue}
use Rattle.std.proofs.Common.{◌≡◌, ◌≢◌, ℕ, zero, suc, ◌+◌, ◌≤◌, Bool, true, false, cond, List, [], ◌∷◌, ◌++◌, length, take, All, refl, ap, ◌∙◌, subst, arith, inl, inr, append_assoc}
use Rattle.std.proofs.lemmas.Bool.{cases_Bool}
use Rattle.std.proofs.lemmas.Bool.Decides.{nat_tests}
use Rattle.std.proofs.lemmas.List.Elements.{All-head, All-tail}
use Rattle.std.specs.List.{flat_map}
use Rattle.httparse.specs.Grammar.{is_token_byte, is_value_byte, AllPass, IsToken, LineEnd, crlf, lf, print_end, print_blank, print_version, Field, print_field, IsField}
use Rattle.httparse.specs.Pieces.{is_newline}
use Rattle.httparse.proofs.PieceLemmas.{token_is_no_newline}
use Rattle.keep_wire.specs.Messages.{Grammar, Reads, HasManyFields}
use Rattle.keep_wire.specs.Looks.{is_line_byte, skip_empty, newlines, lines_in}

pub newlines-append : (a b : List ℕ) → newlines (a ++ b) ≡ newlines a + newlines b
newlines-append [] b = omega arith
newlines-append (x ∷ a) b = grind (arith, nat_tests, newlines-append a b)

pub newlines-none : (test : ℕ → Bool) → test 10 ≡ false → (m : List ℕ) → AllPass test m → newlines m ≡ 0
newlines-none test fails [] all = refl
newlines-none test fails (x ∷ m) all =
    let p : test x ≡ true = All-head (λ (y : ℕ). IsTrue (test y)) x m all in
    let ih = newlines-none test fails m (All-tail (λ (y : ℕ). IsTrue (test y)) x m all) in
    let other : x ≢ 10 = λ e. let q : test 10 ≡ true = subst (λ (v : ℕ). test v ≡ true) e p in cc in
    grind (arith, nat_tests)

pub no_token : is_token_byte 10 ≡ false
unfolding is_token_byte
no_token = refl

pub newlines-end : (e : LineEnd) → newlines (print_end e) ≡ 1
newlines-end crlf = refl
newlines-end lf = refl

pub skip-blank : (blank : List LineEnd) (b : ℕ) (r : List ℕ) → is_line_byte b ≡ false → skip_empty (print_blank blank ++ b ∷ r) ≡ b ∷ r
skip-blank [] b r e = ap (λ (v : Bool). cond v (skip_empty r) (b ∷ r)) e
skip-blank (crlf ∷ blank) b r e = skip-blank blank b r e
skip-blank (lf ∷ blank) b r e = skip-blank blank b r e

-- ---- what is longer

skip-fewer : (b : List ℕ) → newlines (skip_empty b) ≤ newlines b
skip-fewer [] = omega arith
skip-fewer (x ∷ b) = grind (arith, nat_tests, skip-fewer b)

pub lines-append-le : (a b : List ℕ) → lines_in (a ++ b) ≤ lines_in a + newlines b
lines-append-le [] b = omega (arith, skip-fewer b)
lines-append-le (x ∷ a) b =
    elim (cases_Bool (is_line_byte x)) as (λ _. lines_in ((x ∷ a) ++ b) ≤ lines_in (x ∷ a) + newlines b) [
      | inl is_line ↦ rw is_line (lines-append-le a b)
      | inr is_not ↦ rw is_not (omega (arith, newlines-append (x ∷ a) b))
    ]

pub lines-longer : (a b : List ℕ) → lines_in a ≤ lines_in (a ++ b)
lines-longer [] b = omega arith
lines-longer (x ∷ a) b =
    elim (cases_Bool (is_line_byte x)) as (λ _. lines_in (x ∷ a) ≤ lines_in ((x ∷ a) ++ b)) [
      | inl is_line ↦ rw is_line (lines-longer a b)
      | inr is_not ↦ rw is_not (omega (arith, newlines-append (x ∷ a) b))
    ]

-- ---- a whole head

pub print_field-apart : (f : Field) → print_field f ≡ f.name ++ 58 ∷ (f.raw ++ print_end f.end)
print_field-apart f = append_assoc f.name (58 ∷ f.raw) (print_end f.end)

pub newlines-field : (f : Field) → IsField f → newlines (print_field f) ≡ 1
newlines-field f ok =
    let name : newlines f.name ≡ 0 = newlines-none is_token_byte no_token f.name ok.name.1 in
    let raw : newlines f.raw ≡ 0 = newlines-none is_value_byte refl f.raw ok.raw in
    ap newlines (print_field-apart f) ∙ newlines-append f.name (58 ∷ (f.raw ++ print_end f.end)) ∙ omega (arith, name, raw, newlines-append f.raw (print_end f.end), newlines-end f.end)

pub newlines-fields : (fs : List Field) → All IsField fs → newlines (flat_map print_field fs) ≡ length fs
newlines-fields [] all = refl
newlines-fields (f ∷ fs) all =
    omega (arith, newlines-append (print_field f) (flat_map print_field fs), newlines-field f (All-head IsField f fs all), newlines-fields fs (All-tail IsField f fs all))

pub newlines-version : (minor : ℕ) → minor ≤ 1 → newlines (print_version minor) ≡ 0
newlines-version zero le = refl
newlines-version (suc zero) le = refl
newlines-version (suc (suc n)) le = absurd (omega arith)

-- past the empty lines what begins with a token stays whole
pub skip-token : (blank : List LineEnd) (m r : List ℕ) → IsToken m → skip_empty (print_blank blank ++ (m ++ r)) ≡ m ++ r
skip-token blank [] r (some, all) = absurd (omega arith)
skip-token blank (b ∷ m) r (some, all) =
    let token : is_token_byte b ≡ true = All-head (λ (x : ℕ). IsTrue (is_token_byte x)) b m all in
    let n : is_newline b ≡ false = token_is_no_newline b token in
    skip-blank blank b (m ++ r) (grind (arith, nat_tests))

-- ---- a head of either kind

-- What is known of the lines of a kind of head. `first` is the head with its first 65 fields alone.
pub record Lined {H : Type 0} (g : Grammar H) : Type 0 where
  pub start : H → List ℕ
  pub last : H → LineEnd
  pub apart : (h : H) (rest : List ℕ) → g.print h ++ rest ≡ start h ++ (flat_map print_field (g.fields h) ++ (print_end (last h) ++ rest))
  pub fields : (h : H) → g.valid h → All IsField (g.fields h)
  pub line : (h : H) (rest : List ℕ) → g.valid h → lines_in (start h ++ rest) ≡ 1 + newlines rest
  pub first : H → H
  pub first_valid : (h : H) → g.valid h → g.valid (first h)
  pub first_print : (h : H) (rest : List ℕ) → g.print (first h) ++ rest ≡ start h ++ (flat_map print_field (take 65 (g.fields h)) ++ (10 ∷ rest))
  pub first_fields : (h : H) → g.fields (first h) ≡ take 65 (g.fields h)
  pub waits : (bytes : List ℕ) → g.waits bytes → lines_in bytes ≡ 0
  pub unique : (bytes : List ℕ) (h k : H) (r s : List ℕ) → Reads g bytes h r → Reads g bytes k s → (h ≡ k) × (r ≡ s)

pub lines-head : {H : Type 0} (g : Grammar H) (l : Lined g) (h : H) (rest : List ℕ) → g.valid h → lines_in (g.print h ++ rest) ≡ 2 + length (g.fields h) + newlines rest
lines-head g l h rest ok =
    ap lines_in (l.apart h rest) ∙ l.line h (flat_map print_field (g.fields h) ++ (print_end (l.last h) ++ rest)) ok
    ∙ omega (arith, newlines-append (flat_map print_field (g.fields h)) (print_end (l.last h) ++ rest), newlines-append (print_end (l.last h)) rest, newlines-end (l.last h), newlines-fields (g.fields h) (l.fields h ok))

pub many-lines : {H : Type 0} (g : Grammar H) (l : Lined g) (bytes : List ℕ) → HasManyFields g bytes → 66 ≤ lines_in bytes
many-lines g l bytes (front, rest, whole, h, reads, many) =
    let all : lines_in (front ++ 10 ∷ []) ≡ 2 + length (g.fields h) + 0 = ap lines_in reads.1 ∙ lines-head g l h [] reads.0 in
    let short = lines-append-le front (10 ∷ []) in
    rw whole (omega (arith, all, short, lines-longer front rest, many))

pub waits-few : {H : Type 0} (g : Grammar H) (l : Lined g) (bytes : List ℕ) → g.waits bytes → ¬ (HasManyFields g bytes)
waits-few g l bytes within many = let a = l.waits bytes within in let b = many-lines g l bytes many in omega (arith, a, b)
