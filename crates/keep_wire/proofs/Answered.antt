-- What is written of a response is read again.
use Rattle.std.specs.Prelude.{codes, IsSome, decimal, unwrap_or}
use Rattle.std.specs.Str.Parse.{digits_value}
use Rattle.std.proofs.Common.{◌≡◌, ℕ, zero, suc, ◌^◌, ◌<◌, ◌≤◌, Bool, true, eqb, ◌&&◌, List, [], ◌∷◌, ◌++◌, length, Option, Some, refl, sym, ap, ◌∙◌, subst, arith, append_assoc, append-nil, length-append}
use Rattle.std.proofs.lemmas.Bool.{and_parts}
use Rattle.std.proofs.lemmas.Bool.Decides.{nat_tests, Decides-below_and}
use Rattle.std.proofs.lemmas.List.Elements.{All-nil, All-cons}
use Rattle.std.specs.Char.{is_ascii_digit}
use Rattle.std.specs.List.{list_all}
use Rattle.http.specs.StatusCode.{code_digits}
use Rattle.httparse.specs.Grammar.{is_value_byte, IsField, crlf, ResponseHead, print_response, print_version, print_end}
use Rattle.httparse.proofs.GrammarLemmas.{print_response-append}
use Rattle.keep_wire.specs.Fields.{is_framed, length_of}
use Rattle.keep_wire.specs.Messages.{pairs_of}
use Rattle.keep_wire.specs.Replies.{response_grammar, IsResponse}
use Rattle.keep_wire.specs.Written.{phrase_of, response_head, response_text, answered}
use Rattle.keep_wire.proofs.Sent.{decimal_number, all_pass, length_field, length_field_ok, length_value}

-- what holds of each code, as a test
abbrev is_plain_code : ℕ → Bool
is_plain_code n = list_all is_value_byte (phrase_of n) && (list_all is_ascii_digit (code_digits n) && eqb (digits_value 10 (code_digits n)) n)

abbrev plain_below : ℕ → Bool
plain_below zero = true
plain_below (suc n) = is_plain_code n && plain_below n

plain_codes : (n : ℕ) → n < 1000 → is_plain_code n ≡ true
plain_codes n h = (Decides-below_and is_plain_code (λ k. is_plain_code k ≡ true) plain_below (λ k. (λ x. x, λ x. x)) refl (λ _. refl) 1000).0 refl n h

abbrev head_answered : ℕ → ℕ → ResponseHead
head_answered status n = record { blank = []; minor = 1; digits = code_digits status; reason = Some (phrase_of status); line_end = crlf; fields = length_field n ∷ []; last = crlf }

text_is : (status n : ℕ) (rest : List ℕ) → response_head status n ++ rest ≡ print_response (head_answered status n) ++ rest
text_is status n rest =
    regroup_left (codes "HTTP/1.1 ") (code_digits status) (codes " ") (phrase_of status) (codes "\r\n") (codes "Content-Length: ") (decimal n) rest
    ∙ ap (λ (w : List ℕ). print_version 1 ++ 32 ∷ (code_digits status ++ (32 ∷ (phrase_of status ++ (print_end crlf ++ w))))) (sym (regroup_right (codes "\r\n") (codes "Content-Length") (58 ∷ 32 ∷ []) (decimal n) rest))
    ∙ sym (print_response-append (head_answered status n) rest)
  where
    regroup_left : (v c s p e l d r : List ℕ) → (((((((v ++ c) ++ s) ++ p) ++ e) ++ ((l ++ d) ++ e)) ++ e) ++ r) ≡ v ++ (c ++ (s ++ (p ++ (e ++ (l ++ (d ++ (e ++ (e ++ r))))))))
    regroup_left v c s p e l d r = simp append_assoc

    regroup_right : (e m j d r : List ℕ) → ((((m ++ (j ++ d)) ++ e) ++ []) ++ e) ++ r ≡ m ++ (j ++ (d ++ (e ++ (e ++ r))))
    regroup_right e m j d r = simp (append_assoc, append-nil)

pub answered_again : (status : ℕ) (body left : List ℕ) → status < 1000 → length (response_head status (length body)) ≤ 65536 → length body ≤ 67108864 → IsResponse (response_text status body ++ left) (answered status body) left
answered_again status body left code short fits =
    let n = length body in
    let small : n < 10 ^ 19 = omega arith in
    let h = head_answered status n in
    let plain = and_parts (list_all is_value_byte (phrase_of status)) (list_all is_ascii_digit (code_digits status) && eqb (digits_value 10 (code_digits status)) status) (plain_codes status code) in
    let digits = and_parts (list_all is_ascii_digit (code_digits status)) (eqb (digits_value 10 (code_digits status)) status) plain.1 in
    let status_is : digits_value 10 (code_digits status) ≡ status = eqb_is (digits_value 10 (code_digits status)) status digits.1 in
    let number_is = decimal_number n small in
    let pairs = ap (λ (v : List ℕ). (codes "Content-Length", v) ∷ []) (length_value n small) in
    let framed : is_framed (pairs_of response_grammar h) ≡ true = ap is_framed pairs ∙ number_is.0 in
    let length_is : length_of (pairs_of response_grammar h) ≡ Some n = ap length_of pairs ∙ ap (λ (v : ℕ). Some v) number_is.1 in
    let whole : response_text status body ++ left ≡ print_response h ++ (body ++ left) = append_assoc (response_head status n) body left ∙ text_is status n (body ++ left) in
    let size = ap length (text_is status n []) in
    record {
      head = h;
      body = body;
      has = record {
        reads = (record { minor = omega arith; digits = (refl, all_pass is_ascii_digit (code_digits status) digits.0); reason = all_pass is_value_byte (phrase_of status) plain.0; fields = All-cons IsField (length_field n) [] (length_field_ok n small) (All-nil IsField) }, whole);
        short = omega (arith, size, length-append (response_head status n) [], length-append (print_response h) []);
        few = omega arith;
        framed = framed;
      };
      length_there = λ _. subst (λ (o : Option ℕ). IsSome o) (sym length_is) refl;
      length_is = ap (λ (o : Option ℕ). unwrap_or o 0) (sym length_is);
      short = fits;
      made = λ i. record { status = sym status_is i; body = body };
    }
  where
    eqb_is : (a b : ℕ) → eqb a b ≡ true → a ≡ b
    eqb_is a b e = grind (arith, nat_tests)
