-- The lines of a request's head.
use Rattle.std.proofs.Common.{◌≡◌, ℕ, ◌+◌, List, ◌∷◌, ◌++◌, take, refl, sym, ap, ◌∙◌, arith, append_assoc}
use Rattle.std.proofs.lemmas.List.Elements.{All-take}
use Rattle.std.specs.List.{flat_map}
use Rattle.httparse.specs.Grammar.{is_token_byte, is_uri_byte, lf, print_end, print_blank, print_version, print_field, IsField, RequestHead, IsRequestHead, print_request}
use Rattle.httparse.proofs.GrammarLemmas.{print_request-append, request_unique}
use Rattle.keep_wire.specs.Requests.{is_target_byte, EndsWithinTarget, request_grammar}
use Rattle.keep_wire.specs.Looks.{newlines, lines_in}
use Rattle.keep_wire.proofs.HeadLines.{newlines-append, newlines-none, no_token, newlines-end, newlines-version, skip-token, Lined}

-- a head before its field lines, without the empty lines at its front
abbrev line_of : RequestHead → List ℕ
line_of h = h.method ++ 32 ∷ (h.target ++ 32 ∷ (print_version h.minor ++ print_end h.line_end))

abbrev pub start_of : RequestHead → List ℕ
start_of h = print_blank h.blank ++ line_of h

pub head-apart : (h : RequestHead) (rest : List ℕ) → print_request h ++ rest ≡ start_of h ++ (flat_map print_field h.fields ++ (print_end h.last ++ rest))
head-apart h rest = print_request-append h rest ∙ regroup (print_blank h.blank) h.method h.target (print_version h.minor) (print_end h.line_end) (flat_map print_field h.fields) (print_end h.last) rest
  where
    cons-append : (x : ℕ) (a b : List ℕ) → (x ∷ a) ++ b ≡ x ∷ (a ++ b)
    cons-append x a b = refl

    regroup : (a b c d e f l r : List ℕ) → a ++ (b ++ 32 ∷ (c ++ 32 ∷ (d ++ (e ++ ((f ++ l) ++ r))))) ≡ (a ++ (b ++ 32 ∷ (c ++ 32 ∷ (d ++ e)))) ++ (f ++ (l ++ r))
    regroup a b c d e f l r = simp (append_assoc, cons-append)

newlines-line : (h : RequestHead) → IsRequestHead h → newlines (line_of h) ≡ 1
newlines-line h ok =
    let method = newlines-none is_token_byte no_token h.method ok.method.1 in
    let target = newlines-none is_uri_byte refl h.target ok.target.1 in
    let version = newlines-version h.minor ok.minor in
    newlines-append h.method (32 ∷ (h.target ++ 32 ∷ (print_version h.minor ++ print_end h.line_end)))
    ∙ omega (arith, method, target, version, newlines-append h.target (32 ∷ (print_version h.minor ++ print_end h.line_end)), newlines-append (print_version h.minor) (print_end h.line_end), newlines-end h.line_end)

pub lines-start : (h : RequestHead) (rest : List ℕ) → IsRequestHead h → lines_in (start_of h ++ rest) ≡ 1 + newlines rest
lines-start h rest ok =
    ap lines_in (regroup (print_blank h.blank) h.method (32 ∷ (h.target ++ 32 ∷ (print_version h.minor ++ print_end h.line_end))) rest)
    ∙ ap newlines (skip-token h.blank h.method _ ok.method)
    ∙ ap newlines (sym (append_assoc h.method (32 ∷ (h.target ++ 32 ∷ (print_version h.minor ++ print_end h.line_end))) rest))
    ∙ newlines-append (line_of h) rest ∙ ap (λ (n : ℕ). n + newlines rest) (newlines-line h ok)
  where
    regroup : (a b c r : List ℕ) → (a ++ (b ++ c)) ++ r ≡ a ++ (b ++ (c ++ r))
    regroup a b c r = simp append_assoc

pub lines-target : (bytes : List ℕ) → EndsWithinTarget bytes → lines_in bytes ≡ 0
lines-target bytes (blank, method, target, m, t, w) =
    let a = newlines-none is_token_byte no_token method m.1 in
    let b = newlines-none is_target_byte refl target t in
    ap lines_in w ∙ ap newlines (skip-token blank method (32 ∷ target) m) ∙ newlines-append method (32 ∷ target) ∙ omega (arith, a, b)

-- the head with its first 65 fields alone
abbrev first_of : RequestHead → RequestHead
first_of h = record { blank = h.blank; method = h.method; target = h.target; minor = h.minor; line_end = h.line_end; fields = take 65 h.fields; last = lf }

pub requests_lined : Lined request_grammar
requests_lined = record {
  start = start_of;
  last = λ h. h.last;
  apart = head-apart;
  fields = λ h ok. ok.fields;
  line = lines-start;
  first = first_of;
  first_valid = λ h ok. record { method = ok.method; target = ok.target; target_text = ok.target_text; minor = ok.minor; fields = All-take IsField 65 h.fields ok.fields };
  first_print = λ h rest. head-apart (first_of h) rest;
  first_fields = λ h. refl;
  waits = lines-target;
  unique = request_unique;
}
