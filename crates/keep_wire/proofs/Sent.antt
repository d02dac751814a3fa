-- What is written is read again.
use Rattle.std.specs.Prelude.{IsTrue, IsAscii, codes, IsSome, decimal, unwrap_or}
use Rattle.std.proofs.Common.{rules, ◌≡◌, ℕ, zero, suc, ◌^◌, ◌<◌, ◌≤◌, Bool, true, false, not, leb, ◌&&◌, List, [], ◌∷◌, ◌++◌, length, reverse, All, Option, None, Some, refl, sym, ap, ◌∙◌, subst, arith, inl, inr, ◌⊎◌, append_assoc, append-nil, length-append}
use Rattle.std.proofs.lemmas.Bool.{and_from, and_parts, le-leb, cond-false}
use Rattle.std.proofs.lemmas.Bool.Decides.{nat_tests}
use Rattle.std.proofs.lemmas.List.{reverse-append, length-reverse}
use Rattle.std.proofs.lemmas.List.Elements.{All-nil, All-cons, All-head, All-tail, All-weaker, All-append}
use Rattle.std.proofs.lemmas.Fmt.{decimal_is_IsNumeral, length-decimal-le}
use Rattle.std.proofs.lemmas.Str.{IsUtf8-from_ascii}
use Rattle.std.proofs.lemmas.Str.Parse.{IsNumeralModel, numerals_by_value}
use Rattle.std.specs.Str.Parse.{digits_value}
use Rattle.std.specs.Char.{is_ascii_digit}
use Rattle.std.specs.List.{list_all}
use Rattle.httparse.specs.Grammar.{is_token_byte, is_uri_byte, is_value_byte, is_ows, AllPass, IsToken, skip_ows, Field, IsField, field_value, crlf, RequestHead, IsRequestHead, print_request, print_version, print_end, print_section}
use Rattle.httparse.proofs.TrimLemmas.{trim_ows_space, AllPass-reverse}
use Rattle.httparse.proofs.GrammarLemmas.{print_request-append}
use Rattle.keep_spec.specs.Locator.{is_number, number}
use Rattle.keep_wire.specs.Fields.{Pairs, is_framed, length_of, token_of, range_of, closes}
use Rattle.keep_wire.specs.Messages.{pairs_of}
use Rattle.keep_wire.specs.Requests.{request_grammar, IsRequest}
use Rattle.keep_wire.specs.Written.{is_visible, is_path_byte, CanBeSent, request_head, request_text, sent_token, sent}

abbrev no_ows : ℕ → Bool
no_ows b = not (is_ows b)

skip_front : (r x : List ℕ) → 0 < length r → AllPass no_ows r → skip_ows (r ++ x) ≡ r ++ x
skip_front [] x some all = absurd (omega arith)
skip_front (b ∷ r) x some all =
    let h : no_ows b ≡ true = All-head (λ (y : ℕ). IsTrue (no_ows y)) b r all in
    let k : is_ows b ≡ false = grind (arith, nat_tests) in
    cond-false _ _ _ k

pub are_digits : IsNumeralModel (λ ds. list_all is_ascii_digit ds ≡ true) (digits_value 10)
are_digits = numerals_by_value _ (search rules)

pub decimal_digits : (n : ℕ) → n < 10 ^ 19 → list_all is_ascii_digit (decimal n) ≡ true
decimal_digits n small = are_digits.from (decimal n) (decimal_is_IsNumeral n (omega arith)).0.1

pub decimal_number : (n : ℕ) → n < 10 ^ 19 → (is_number (decimal n) ≡ true) × (number (decimal n) ≡ n)
unfolding is_number
decimal_number n small =
    let numeral = decimal_is_IsNumeral n (omega arith) in
    let long = length-decimal-le 19 n (omega arith) small (omega arith) in
    let sizes = and_from (leb 1 (length (decimal n))) (leb (length (decimal n)) 19) (le-leb 1 (length (decimal n)) numeral.0.0) (le-leb (length (decimal n)) 19 long) in
    (and_from (leb 1 (length (decimal n)) && leb (length (decimal n)) 19) (list_all is_ascii_digit (decimal n)) sizes (decimal_digits n small), numeral.1)

pub all_pass : (test : ℕ → Bool) (xs : List ℕ) → list_all test xs ≡ true → AllPass test xs
all_pass test [] e = All-nil (λ (y : ℕ). IsTrue (test y))
all_pass test (x ∷ xs) e = let p = and_parts (test x) (list_all test xs) e in All-cons (λ (y : ℕ). IsTrue (test y)) x xs p.0 (all_pass test xs p.1)

abbrev auth_field : List ℕ → Field
auth_field token = record { name = codes "Authorization"; raw = 32 ∷ (codes "Bearer " ++ token); end = crlf }

abbrev pub length_field : ℕ → Field
length_field n = record { name = codes "Content-Length"; raw = 32 ∷ decimal n; end = crlf }

abbrev fields_sent : List ℕ → ℕ → List Field
fields_sent [] n = length_field n ∷ []
fields_sent (t ∷ ts) n = auth_field (t ∷ ts) ∷ length_field n ∷ []

abbrev head_sent : List ℕ → List ℕ → List ℕ → ℕ → RequestHead
head_sent method path token n = record { blank = []; method = method; target = path; minor = 1; line_end = crlf; fields = fields_sent token n; last = crlf }

-- ---- the bytes

text_is : (method path token : List ℕ) (n : ℕ) (rest : List ℕ) → request_head method path token n ++ rest ≡ print_request (head_sent method path token n) ++ rest
text_is method path [] n rest =
    let a : request_head method path [] n ++ rest ≡ method ++ 32 ∷ (path ++ 32 ∷ (print_version 1 ++ (print_end crlf ++ (print_section (fields_sent [] n) crlf ++ rest)))) = simp append_assoc in
    a ∙ sym (print_request-append (head_sent method path [] n) rest)
text_is method path (t ∷ ts) n rest =
    regroup_left method (codes " ") path (codes " HTTP/1.1\r\n") (codes "Authorization: Bearer ") (t ∷ ts) (codes "\r\n") (codes "Content-Length: ") (decimal n) rest
    ∙ ap (λ (w : List ℕ). method ++ 32 ∷ (path ++ 32 ∷ (print_version 1 ++ (print_end crlf ++ w)))) (sym (regroup_right (codes "Authorization") (58 ∷ 32 ∷ codes "Bearer ") (t ∷ ts) (codes "\r\n") (codes "Content-Length") (58 ∷ 32 ∷ []) (decimal n) rest))
    ∙ sym (print_request-append (head_sent method path (t ∷ ts) n) rest)
  where
    regroup_left : (m s p v a t e l d r : List ℕ) → (((((((m ++ s) ++ p) ++ v) ++ ((a ++ t) ++ e)) ++ ((l ++ d) ++ e)) ++ e) ++ r) ≡ m ++ (s ++ (p ++ (v ++ (a ++ (t ++ (e ++ (l ++ (d ++ (e ++ (e ++ r))))))))))
    regroup_left m s p v a t e l d r = simp append_assoc

    regroup_right : (n k t e m j d r : List ℕ) → ((((n ++ (k ++ t)) ++ e) ++ (((m ++ (j ++ d)) ++ e) ++ [])) ++ e) ++ r ≡ n ++ (k ++ (t ++ (e ++ (m ++ (j ++ (d ++ (e ++ (e ++ r))))))))
    regroup_right n k t e m j d r = simp (append_assoc, append-nil)

-- ---- the values

skip_all : (r : List ℕ) → AllPass no_ows r → skip_ows r ≡ r
skip_all [] all = refl
skip_all (b ∷ r) all =
    let h : no_ows b ≡ true = All-head (λ (y : ℕ). IsTrue (no_ows y)) b r all in
    let k : is_ows b ≡ false = grind (arith, nat_tests) in
    cond-false _ _ _ k

pub length_value : (n : ℕ) → n < 10 ^ 19 → field_value (length_field n) ≡ decimal n
length_value n small =
    let digits = all_pass is_ascii_digit (decimal n) (decimal_digits n small) in
    let plain = All-weaker (λ (y : ℕ). IsTrue (is_ascii_digit y)) (λ (y : ℕ). IsTrue (no_ows y)) digit_no_ows (decimal n) digits in
    trim_ows_space (decimal n) (skip_all (decimal n) plain) (skip_all (reverse (decimal n)) (AllPass-reverse no_ows (decimal n) plain))
  where
    digit_no_ows : (b : ℕ) → is_ascii_digit b ≡ true → no_ows b ≡ true
    digit_no_ows b h = grind (arith, nat_tests)

token_value : (t : ℕ) (ts : List ℕ) → AllPass is_visible (t ∷ ts) → field_value (auth_field (t ∷ ts)) ≡ codes "Bearer " ++ (t ∷ ts)
token_value t ts visible =
    let plain = All-weaker (λ (y : ℕ). IsTrue (is_visible y)) (λ (y : ℕ). IsTrue (no_ows y)) visible_no_ows (t ∷ ts) visible in
    let turned : reverse (codes "Bearer " ++ (t ∷ ts)) ≡ reverse (t ∷ ts) ++ reverse (codes "Bearer ") = reverse-append (codes "Bearer ") (t ∷ ts) in
    let back = skip_front (reverse (t ∷ ts)) (reverse (codes "Bearer ")) (omega (arith, length-reverse (t ∷ ts))) (AllPass-reverse no_ows (t ∷ ts) plain) in
    trim_ows_space (codes "Bearer " ++ (t ∷ ts)) refl (ap skip_ows turned ∙ back ∙ sym turned)
  where
    visible_no_ows : (b : ℕ) → is_visible b ≡ true → no_ows b ≡ true
    visible_no_ows b h = grind (arith, nat_tests)

-- what the fields say, without their spaces
abbrev pairs_sent : List ℕ → ℕ → Pairs
pairs_sent [] n = (codes "Content-Length", decimal n) ∷ []
pairs_sent (t ∷ ts) n = (codes "Authorization", codes "Bearer " ++ (t ∷ ts)) ∷ (codes "Content-Length", decimal n) ∷ []

pairs_are : (method path token : List ℕ) (n : ℕ) → n < 10 ^ 19 → AllPass is_visible token → pairs_of request_grammar (head_sent method path token n) ≡ pairs_sent token n
pairs_are method path [] n small visible = ap (λ (v : List ℕ). (codes "Content-Length", v) ∷ []) (length_value n small)
pairs_are method path (t ∷ ts) n small visible =
    ap (λ (v : List ℕ). (codes "Authorization", v) ∷ (codes "Content-Length", field_value (length_field n)) ∷ []) (token_value t ts visible)
    ∙ ap (λ (v : List ℕ). (codes "Authorization", codes "Bearer " ++ (t ∷ ts)) ∷ (codes "Content-Length", v) ∷ []) (length_value n small)

framed_sent : (token : List ℕ) (n : ℕ) → is_number (decimal n) ≡ true → is_framed (pairs_sent token n) ≡ true
framed_sent [] n e = e
framed_sent (t ∷ ts) n e = e

length_sent : (token : List ℕ) (n : ℕ) → number (decimal n) ≡ n → length_of (pairs_sent token n) ≡ Some n
length_sent [] n e = ap (λ (v : ℕ). Some v) e
length_sent (t ∷ ts) n e = ap (λ (v : ℕ). Some v) e

token_sent : (token : List ℕ) (n : ℕ) → token_of (pairs_sent token n) ≡ sent_token token
token_sent [] n = refl
token_sent (t ∷ ts) n = refl

range_sent : (token : List ℕ) (n : ℕ) → range_of (pairs_sent token n) ≡ None
range_sent [] n = refl
range_sent (t ∷ ts) n = refl

stays_sent : (token : List ℕ) (n : ℕ) → closes 1 (pairs_sent token n) ≡ false
stays_sent [] n = refl
stays_sent (t ∷ ts) n = refl

-- ---- the head

method_token : (method : List ℕ) → (method ≡ codes "GET") ⊎ (method ≡ codes "PUT") ⊎ (method ≡ codes "TOUCH") ⊎ (method ≡ codes "POST") → IsToken method
unfolding is_token_byte
method_token method known =
    elim known as (λ _. IsToken method) [
      | inl a ↦ subst IsToken (sym a) (omega arith, all_pass is_token_byte (codes "GET") refl)
      | inr b ↦ elim b as (λ _. IsToken method) [
        | inl c ↦ subst IsToken (sym c) (omega arith, all_pass is_token_byte (codes "PUT") refl)
        | inr d ↦ elim d as (λ _. IsToken method) [
          | inl e ↦ subst IsToken (sym e) (omega arith, all_pass is_token_byte (codes "TOUCH") refl)
          | inr f ↦ subst IsToken (sym f) (omega arith, all_pass is_token_byte (codes "POST") refl)
        ]
      ]
    ]

path_uri : (b : ℕ) → is_path_byte b ≡ true → is_uri_byte b ≡ true
path_uri b h = grind (arith, nat_tests)

path_ascii : (b : ℕ) → is_path_byte b ≡ true → b < 128
path_ascii b h = grind (arith, nat_tests)

digit_value_byte : (b : ℕ) → is_ascii_digit b ≡ true → is_value_byte b ≡ true
digit_value_byte b h = grind (arith, nat_tests)

visible_value_byte : (b : ℕ) → is_visible b ≡ true → is_value_byte b ≡ true
visible_value_byte b h = grind (arith, nat_tests)

pub length_field_ok : (n : ℕ) → n < 10 ^ 19 → IsField (length_field n)
unfolding is_token_byte
length_field_ok n small = record {
  name = (omega arith, all_pass is_token_byte (codes "Content-Length") refl);
  raw = All-cons (λ (y : ℕ). IsTrue (is_value_byte y)) 32 (decimal n) refl (All-weaker (λ (y : ℕ). IsTrue (is_ascii_digit y)) (λ (y : ℕ). IsTrue (is_value_byte y)) digit_value_byte (decimal n) (all_pass is_ascii_digit (decimal n) (decimal_digits n small)));
}

auth_field_ok : (token : List ℕ) → AllPass is_visible token → IsField (auth_field token)
unfolding is_token_byte
auth_field_ok token visible = record {
  name = (omega arith, all_pass is_token_byte (codes "Authorization") refl);
  raw = All-append (λ (y : ℕ). IsTrue (is_value_byte y)) (32 ∷ codes "Bearer ") token (all_pass is_value_byte (32 ∷ codes "Bearer ") refl) (All-weaker (λ (y : ℕ). IsTrue (is_visible y)) (λ (y : ℕ). IsTrue (is_value_byte y)) visible_value_byte token visible);
}

fields_ok : (token : List ℕ) (n : ℕ) → n < 10 ^ 19 → AllPass is_visible token → All IsField (fields_sent token n)
fields_ok [] n small visible = All-cons IsField (length_field n) [] (length_field_ok n small) (All-nil IsField)
fields_ok (t ∷ ts) n small visible = All-cons IsField (auth_field (t ∷ ts)) (length_field n ∷ []) (auth_field_ok (t ∷ ts) visible) (All-cons IsField (length_field n) [] (length_field_ok n small) (All-nil IsField))

few_fields : (token : List ℕ) (n : ℕ) → length (fields_sent token n) ≤ 64
few_fields [] n = omega arith
few_fields (t ∷ ts) n = omega arith

ascii_from_all : (xs : List ℕ) → All (λ y. y < 128) xs → IsAscii xs
ascii_from_all [] all i = omega arith
ascii_from_all (x ∷ xs) all zero = All-head (λ y. y < 128) x xs all
ascii_from_all (x ∷ xs) all (suc i) = ascii_from_all xs (All-tail (λ y. y < 128) x xs all) i

head_ok : (method path token : List ℕ) (n : ℕ) → n < 10 ^ 19 → CanBeSent method path token → IsRequestHead (head_sent method path token n)
head_ok method path token n small can = record {
  method = method_token method can.known;
  target = (can.path_some, All-weaker (λ (y : ℕ). IsTrue (is_path_byte y)) (λ (y : ℕ). IsTrue (is_uri_byte y)) path_uri path can.path_plain);
  target_text = IsUtf8-from_ascii path (ascii_from_all path (All-weaker (λ (y : ℕ). IsTrue (is_path_byte y)) (λ (y : ℕ). y < 128) path_ascii path can.path_plain));
  minor = omega arith;
  fields = fields_ok token n small can.token_visible;
}

pub sent_again : (method path token body left : List ℕ) → CanBeSent method path token → length (request_head method path token (length body)) ≤ 65536 → length body ≤ 67108864 → IsRequest (request_text method path token body ++ left) (sent method path token body) left
sent_again method path token body left can short fits =
    let n = length body in
    let small : n < 10 ^ 19 = omega arith in
    let h = head_sent method path token n in
    let number_is = decimal_number n small in
    let pairs = pairs_are method path token n small can.token_visible in
    let framed : is_framed (pairs_of request_grammar h) ≡ true = ap is_framed pairs ∙ framed_sent token n number_is.0 in
    let length_is : length_of (pairs_of request_grammar h) ≡ Some n = ap length_of pairs ∙ length_sent token n number_is.1 in
    let token_is : token_of (pairs_of request_grammar h) ≡ sent_token token = ap token_of pairs ∙ token_sent token n in
    let range_is : range_of (pairs_of request_grammar h) ≡ None = ap range_of pairs ∙ range_sent token n in
    let stays : closes 1 (pairs_of request_grammar h) ≡ false = ap (closes 1) pairs ∙ stays_sent token n in
    let whole : request_text method path token body ++ left ≡ print_request h ++ (body ++ left) = append_assoc (request_head method path token n) body left ∙ text_is method path token n (body ++ left) in
    let size = ap length (text_is method path token n []) in
    record {
      head = h;
      body = body;
      has = record {
        reads = (head_ok method path token n small can, whole);
        short = omega (arith, size, length-append (request_head method path token n) [], length-append (print_request h) []);
        few = few_fields token n;
        framed = framed;
      };
      length_there = λ _. subst (λ (o : Option ℕ). IsSome o) (sym length_is) refl;
      length_is = ap (λ (o : Option ℕ). unwrap_or o 0) (sym length_is);
      short = fits;
      made = λ i. record { method = method; path = path; token = sym token_is i; range = sym range_is i; body = body; close = sym stays i };
    }
