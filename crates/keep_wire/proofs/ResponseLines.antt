-- The lines of a response's head.
use Rattle.std.proofs.Common.{◌≡◌, ℕ, ◌+◌, List, ◌∷◌, ◌++◌, take, Option, Some, None, refl, ap, ◌∙◌, arith, append_assoc}
use Rattle.std.proofs.lemmas.List.Elements.{All-take}
use Rattle.std.specs.Char.{is_ascii_digit}
use Rattle.std.specs.List.{flat_map}
use Rattle.httparse.specs.Grammar.{is_value_byte, AllPass, lf, print_end, print_blank, print_version, print_field, IsField, ResponseHead, IsResponseHead, print_reason, reason_phrase, print_response}
use Rattle.httparse.proofs.GrammarLemmas.{print_response-append, response_unique}
use Rattle.keep_wire.specs.Replies.{response_grammar}
use Rattle.keep_wire.specs.Looks.{newlines, lines_in}
use Rattle.keep_wire.proofs.HeadLines.{newlines-append, newlines-none, newlines-end, skip-blank, newlines-version, Lined}

-- a head before its field lines, without the empty lines at its front
abbrev line_of : ResponseHead → List ℕ
line_of h = print_version h.minor ++ 32 ∷ (h.digits ++ (print_reason h.reason ++ print_end h.line_end))

abbrev pub start_of : ResponseHead → List ℕ
start_of h = print_blank h.blank ++ line_of h

pub head-apart : (h : ResponseHead) (rest : List ℕ) → print_response h ++ rest ≡ start_of h ++ (flat_map print_field h.fields ++ (print_end h.last ++ rest))
head-apart h rest = print_response-append h rest ∙ regroup (print_blank h.blank) (print_version h.minor) h.digits (print_reason h.reason) (print_end h.line_end) (flat_map print_field h.fields) (print_end h.last) rest
  where
    regroup : (a b c d e f l r : List ℕ) → a ++ (b ++ 32 ∷ (c ++ (d ++ (e ++ ((f ++ l) ++ r))))) ≡ (a ++ (b ++ 32 ∷ (c ++ (d ++ e)))) ++ (f ++ (l ++ r))
    regroup a b c d e f l r = simp append_assoc

newlines-reason : (reason : Option (List ℕ)) → AllPass is_value_byte (reason_phrase reason) → newlines (print_reason reason) ≡ 0
newlines-reason None all = refl
newlines-reason (Some phrase) all = newlines-none is_value_byte refl phrase all

newlines-line : (h : ResponseHead) → IsResponseHead h → newlines (line_of h) ≡ 1
newlines-line h ok =
    let version = newlines-version h.minor ok.minor in
    let digits = newlines-none is_ascii_digit refl h.digits ok.digits.1 in
    let reason = newlines-reason h.reason ok.reason in
    newlines-append (print_version h.minor) (32 ∷ (h.digits ++ (print_reason h.reason ++ print_end h.line_end)))
    ∙ omega (arith, version, digits, reason, newlines-append h.digits (print_reason h.reason ++ print_end h.line_end), newlines-append (print_reason h.reason) (print_end h.line_end), newlines-end h.line_end)

pub lines-start : (h : ResponseHead) (rest : List ℕ) → IsResponseHead h → lines_in (start_of h ++ rest) ≡ 1 + newlines rest
lines-start h rest ok =
    ap lines_in (append_assoc (print_blank h.blank) (line_of h) rest)
    ∙ ap newlines (skip-blank h.blank 72 _ refl)
    ∙ newlines-append (line_of h) rest ∙ ap (λ (n : ℕ). n + newlines rest) (newlines-line h ok)

-- the head with its first 65 fields alone
abbrev first_of : ResponseHead → ResponseHead
first_of h = record { blank = h.blank; minor = h.minor; digits = h.digits; reason = h.reason; line_end = h.line_end; fields = take 65 h.fields; last = lf }

pub responses_lined : Lined response_grammar
responses_lined = record {
  start = start_of;
  last = λ h. h.last;
  apart = head-apart;
  fields = λ h ok. ok.fields;
  line = lines-start;
  first = first_of;
  first_valid = λ h ok. record { minor = ok.minor; digits = ok.digits; reason = ok.reason; fields = All-take IsField 65 h.fields ok.fields };
  first_print = λ h rest. head-apart (first_of h) rest;
  first_fields = λ h. refl;
  waits = λ bytes within. absurd within;
  unique = response_unique;
}
