-- Which bytes stand in what is written: none of them is a space or a newline.
-- Laws: `list_all-joined`, `digit_visible`, `locator_visible`, `are_digits`, `decimal_digits`, `number_of-decimal`,
-- `encode_visible`, `cut_at-joined`, `cut_at-lacking`, `segment_form-text`, `segment_visible`, `segment_no_locator`.
use Rattle.std.proofs.Common.{◌≡◌, ℕ, zero, suc, ◌+◌, ◌/◌, ◌%◌, ◌^◌, ◌<◌, eqb, ltb, leb, Bool, true, false, not, ◌&&◌, cond, List, [], ◌∷◌, ◌++◌, length, take, drop, get_or, Some, None, refl, ap, sym, subst, ◌∙◌, append_assoc, arith, rules}
use Rattle.std.specs.Prelude.{decimal}
use Rattle.std.specs.List.{list_all, prefix_len, onto_first}
use Rattle.std.specs.Char.{is_ascii_digit, is_ascii_uppercase}
use Rattle.std.specs.Str.Parse.{digits_value}
use Rattle.std.proofs.lemmas.Bool.{and_parts, and_from, eqb-true, eq-eqb, not-true, lt-ltb, le-leb, false≢true, false_from_ne_true}
use Rattle.std.proofs.lemmas.Bool.Decides.{nat_tests}
use Rattle.std.proofs.lemmas.List.{drop-drop}
use Rattle.std.proofs.lemmas.List.Folds.{list_all-append, length-prefix_len}
use Rattle.std.proofs.lemmas.Str.Parse.{IsNumeralModel, numerals_by_value}
use Rattle.std.proofs.lemmas.Fmt.{decimal_is_IsNumeral, length-decimal-le}
use Rattle.keep_spec.specs.Digest.{is_lower_digit}
use Rattle.keep_spec.specs.Locator.{is_number, number, is_hint_character, is_hint, cut_before_plus, size_digits, hints, is_locator}
use Rattle.keep_spec.specs.Names.{encode, encode_byte, is_escaped}
use Rattle.keep_spec.specs.Manifest.{cut_at, number_of, segment_form, segment_text}
use Rattle.keep_spec.specs.declared.manifest.Segment.{Segment}
use Rattle.keep_spec.proofs.LocatorText.{LocatorParts, locator_parts}
use Rattle.keep_manifest.proofs.Decoding.{decode_encode}
use Rattle.keep_locator.proofs.Lists.{list_all-weaker}

-- neither a space nor a byte below it
abbrev pub is_visible : ℕ → Bool
is_visible b = ltb 32 b

-- lists of bytes that pass a test

pub list_all-joined : {X : Type 0} (p : X → Bool) (xs ys : List X) → list_all p xs ≡ true → list_all p ys ≡ true → list_all p (xs ++ ys) ≡ true
list_all-joined p xs ys h g = list_all-append p xs ys ∙ and_from (list_all p xs) (list_all p ys) h g

list_all-rejoined : (p : ℕ → Bool) (n : ℕ) (xs : List ℕ) → list_all p (take n xs) ≡ true → list_all p (drop n xs) ≡ true → list_all p xs ≡ true
list_all-rejoined p zero xs h g = g
list_all-rejoined p (suc n) [] h g = refl
list_all-rejoined p (suc n) (x ∷ xs) h g =
    let parts = and_parts (p x) (list_all p (take n xs)) h in
    and_from (p x) (list_all p xs) parts.0 (list_all-rejoined p n xs parts.1 g)

list_all-byte : (p : ℕ → Bool) (n : ℕ) (xs : List ℕ) → p (get_or xs n 0) ≡ true → list_all p (take n xs) ≡ true → list_all p (drop (suc n) xs) ≡ true → list_all p xs ≡ true
list_all-byte p n [] b h g = refl
list_all-byte p zero (x ∷ xs) b h g = and_from (p x) (list_all p xs) b g
list_all-byte p (suc n) (x ∷ xs) b h g =
    let parts = and_parts (p x) (list_all p (take n xs)) h in
    and_from (p x) (list_all p xs) parts.0 (list_all-byte p n xs b parts.1 g)

list_all-onto_first : (p : ℕ → Bool) (x : ℕ) (pieces : List (List ℕ)) → list_all (list_all p) (onto_first x pieces) ≡ true → (p x ≡ true) × (list_all (list_all p) pieces ≡ true)
list_all-onto_first p x [] h = ((and_parts (p x) true (and_parts (p x && true) true h).0).0, refl)
list_all-onto_first p x (y ∷ ys) h =
    let all = and_parts (p x && list_all p y) (list_all (list_all p) ys) h in
    let first = and_parts (p x) (list_all p y) all.0 in
    (first.0, and_from (list_all p y) (list_all (list_all p) ys) first.1 all.1)

chosen_pieces : (p : ℕ → Bool) (b : Bool) (x : ℕ) (pieces : List (List ℕ)) → list_all (list_all p) (cond b ((x ∷ []) ∷ pieces) (onto_first x pieces)) ≡ true → (p x ≡ true) × (list_all (list_all p) pieces ≡ true)
chosen_pieces p true x pieces h =
    let all = and_parts (p x && true) (list_all (list_all p) pieces) h in
    ((and_parts (p x) true all.0).0, all.1)
chosen_pieces p false x pieces h = list_all-onto_first p x pieces h

list_all-pieces : (p : ℕ → Bool) (xs : List ℕ) → list_all (list_all p) (cut_before_plus xs) ≡ true → list_all p xs ≡ true
unfolding cut_before_plus
list_all-pieces p [] h = refl
list_all-pieces p (x ∷ []) h = (and_parts (list_all p (x ∷ [])) true h).0
list_all-pieces p (x ∷ y ∷ rest) h =
    let parts = chosen_pieces p (eqb y 43) x (cut_before_plus (y ∷ rest)) h in
    and_from (p x) (list_all p (y ∷ rest)) parts.0 (list_all-pieces p (y ∷ rest) parts.1)

-- locators

lower_visible : (c : ℕ) → is_lower_digit c ≡ true → is_visible c ≡ true
lower_visible c h = grind (arith, nat_tests)

pub digit_visible : (c : ℕ) → is_ascii_digit c ≡ true → is_visible c ≡ true
digit_visible c h = grind (arith, nat_tests)

letter_visible : (c : ℕ) → is_ascii_uppercase c ≡ true → is_visible c ≡ true
letter_visible c h = grind (arith, nat_tests)

hint_character_visible : (c : ℕ) → is_hint_character c ≡ true → is_visible c ≡ true
hint_character_visible c h = grind (arith, nat_tests)

hint_visible : (hint : List ℕ) → is_hint hint ≡ true → list_all is_visible hint ≡ true
unfolding is_hint
hint_visible [] h = refl
hint_visible (x ∷ []) h = absurd (false≢true h)
hint_visible (x ∷ y ∷ rest) h =
    let all = and_parts (eqb x 43 && is_ascii_uppercase y) (list_all is_hint_character rest) h in
    let first = and_parts (eqb x 43) (is_ascii_uppercase y) all.0 in
    let plus : is_visible x ≡ true = ap is_visible (eqb-true x 43 first.0) in
    and_from (is_visible x) (is_visible y && list_all is_visible rest) plus
    (and_from (is_visible y) (list_all is_visible rest) (letter_visible y first.1) (list_all-weaker is_hint_character is_visible hint_character_visible rest all.1))

digest_digits : (text : List ℕ) → LocatorParts text → list_all is_lower_digit (take 32 text) ≡ true
digest_digits text parts = (and_parts (eqb (length (take 32 text)) 32) (list_all is_lower_digit (take 32 text)) parts.a_digest).1

number_digits : (text : List ℕ) → LocatorParts text → list_all is_ascii_digit (size_digits text) ≡ true
unfolding is_number
number_digits text parts = (and_parts (leb 1 (length (size_digits text)) && leb (length (size_digits text)) 19) (list_all is_ascii_digit (size_digits text)) parts.a_number).1

-- what stands after the plus of the size
size_and_hints : (text : List ℕ) → LocatorParts text → list_all is_visible (drop 33 text) ≡ true
unfolding size_digits hints
size_and_hints text parts =
    let front = prefix_len is_ascii_digit (drop 33 text) in
    let long = length-prefix_len is_ascii_digit (drop 33 text) in
    let behind : drop (33 + length (size_digits text)) text ≡ drop front (drop 33 text) = ap (λ n. drop (33 + n) text) long ∙ sym (drop-drop front 33 text) in
    let shown = list_all-weaker is_hint (list_all is_visible) hint_visible (hints text) parts.each_a_hint in
    list_all-rejoined is_visible front (drop 33 text) (list_all-weaker is_ascii_digit is_visible digit_visible (size_digits text) (number_digits text parts))
    (subst (λ xs. list_all is_visible xs ≡ true) behind (list_all-pieces is_visible (drop (33 + length (size_digits text)) text) shown))

pub locator_visible : (text : List ℕ) → is_locator text ≡ true → list_all is_visible text ≡ true
locator_visible text h =
    let parts = locator_parts text h in
    let plus : is_visible (get_or text 32 0) ≡ true = ap is_visible parts.plus in
    list_all-byte is_visible 32 text plus (list_all-weaker is_lower_digit is_visible lower_visible (take 32 text) (digest_digits text parts)) (size_and_hints text parts)

-- numbers

pub are_digits : IsNumeralModel (λ ds. list_all is_ascii_digit ds ≡ true) (digits_value 10)
are_digits = numerals_by_value _ (search rules)

pub decimal_digits : (n : ℕ) → n < 10 ^ 19 → list_all is_ascii_digit (decimal n) ≡ true
decimal_digits n small = are_digits.from (decimal n) (decimal_is_IsNumeral n (omega arith)).0.1

pub number_of-decimal : (n : ℕ) → n < 10 ^ 19 → number_of (decimal n) ≡ Some n
unfolding is_number
number_of-decimal n small =
    let numeral = decimal_is_IsNumeral n (omega arith) in
    let long = length-decimal-le 19 n (omega arith) small (omega arith) in
    let sizes = and_from (leb 1 (length (decimal n))) (leb (length (decimal n)) 19) (le-leb 1 (length (decimal n)) numeral.0.0) (le-leb (length (decimal n)) 19 long) in
    let is = and_from (leb 1 (length (decimal n)) && leb (length (decimal n)) 19) (list_all is_ascii_digit (decimal n)) sizes (decimal_digits n small) in
    ap (λ b. cond b (Some (number (decimal n))) None) is ∙ ap (λ k. Some k) numeral.1

-- names

encoded_byte_visible : (b : ℕ) → list_all is_visible (encode_byte b) ≡ true
encoded_byte_visible b = chosen (is_escaped b) refl
  where
    chosen : (e : Bool) → is_escaped b ≡ e → list_all is_visible (cond e (92 ∷ (b / 64 + 48) ∷ (b / 8 % 8 + 48) ∷ (b % 8 + 48) ∷ []) (b ∷ [])) ≡ true
    chosen true e = rw (lt-ltb 32 (b / 64 + 48) (omega arith), lt-ltb 32 (b / 8 % 8 + 48) (omega arith), lt-ltb 32 (b % 8 + 48) (omega arith)) refl
    chosen false e = let above : is_visible b ≡ true = grind (arith, nat_tests) in rw above refl

pub encode_visible : (name : List ℕ) → list_all is_visible (encode name) ≡ true
encode_visible [] = refl
encode_visible (b ∷ rest) = list_all-joined is_visible (encode_byte b) (encode rest) (encoded_byte_visible b) (encode_visible rest)

-- segments

-- no byte is c
abbrev pub lacks : ℕ → List ℕ → Bool
lacks c xs = list_all (λ x. not (eqb x c)) xs

pub cut_at-joined : (c : ℕ) (xs ys : List ℕ) → lacks c xs ≡ true → cut_at c (xs ++ c ∷ ys) ≡ Some (xs, ys)
unfolding cut_at
cut_at-joined c [] ys h = let same : eqb c c ≡ true = eq-eqb c c refl in rw same
cut_at-joined c (x ∷ xs) ys h =
    let parts = and_parts (not (eqb x c)) (lacks c xs) h in
    rw (not-true (eqb x c) parts.0, cut_at-joined c xs ys parts.1)

pub cut_at-lacking : (c : ℕ) (xs : List ℕ) → lacks c xs ≡ true → cut_at c xs ≡ None
unfolding cut_at
cut_at-lacking c [] h = refl
cut_at-lacking c (x ∷ xs) h =
    let parts = and_parts (not (eqb x c)) (lacks c xs) h in
    rw (not-true (eqb x c) parts.0, cut_at-lacking c xs parts.1)

digit_no_colon : (c : ℕ) → is_ascii_digit c ≡ true → not (eqb c 58) ≡ true
digit_no_colon c h = grind (arith, nat_tests)

regrouped : (s : Segment) → segment_text s ≡ decimal s.position ++ 58 ∷ (decimal s.size ++ 58 ∷ encode s.name)
regrouped s = append_assoc (decimal s.position) (58 ∷ decimal s.size) (58 ∷ encode s.name)

pub segment_form-text : (s : Segment) → s.position < 10 ^ 19 → s.size < 10 ^ 19 → segment_form (segment_text s) ≡ Some s
unfolding segment_form
segment_form-text s p z =
    let first = cut_at-joined 58 (decimal s.position) (decimal s.size ++ 58 ∷ encode s.name) (list_all-weaker is_ascii_digit (λ x. not (eqb x 58)) digit_no_colon (decimal s.position) (decimal_digits s.position p)) in
    let second = cut_at-joined 58 (decimal s.size) (encode s.name) (list_all-weaker is_ascii_digit (λ x. not (eqb x 58)) digit_no_colon (decimal s.size) (decimal_digits s.size z)) in
    rw (regrouped s, first, number_of-decimal s.position p, second, number_of-decimal s.size z, decode_encode s.name) refl

pub segment_visible : (s : Segment) → s.position < 10 ^ 19 → s.size < 10 ^ 19 → list_all is_visible (segment_text s) ≡ true
segment_visible s p z =
    list_all-joined is_visible (decimal s.position ++ 58 ∷ decimal s.size) (58 ∷ encode s.name)
    (list_all-joined is_visible (decimal s.position) (58 ∷ decimal s.size) (list_all-weaker is_ascii_digit is_visible digit_visible (decimal s.position) (decimal_digits s.position p)) (list_all-weaker is_ascii_digit is_visible digit_visible (decimal s.size) (decimal_digits s.size z)))
    (encode_visible s.name)

-- a byte after a prefix that is short enough is among the first n
front_byte : (p : ℕ → Bool) (n : ℕ) (xs : List ℕ) (y : ℕ) (ys : List ℕ) → length xs < n → list_all p (take n (xs ++ y ∷ ys)) ≡ true → p y ≡ true
front_byte p zero xs y ys l h = absurd (omega arith)
front_byte p (suc n) [] y ys l h = (and_parts (p y) (list_all p (take n ys)) h).0
front_byte p (suc n) (x ∷ xs) y ys l h = front_byte p n xs y ys (omega arith) (and_parts (p x) (list_all p (take n (xs ++ y ∷ ys))) h).1

pub segment_no_locator : (s : Segment) → s.position < 10 ^ 19 → is_locator (segment_text s) ≡ false
segment_no_locator s p =
    let long = length-decimal-le 19 s.position (omega arith) p (omega arith) in
    false_from_ne_true (is_locator (segment_text s)) (λ h.
    let digits = subst (λ t. list_all is_lower_digit (take 32 t) ≡ true) (regrouped s) (digest_digits (segment_text s) (locator_parts (segment_text s) h)) in
    false≢true (front_byte is_lower_digit 32 (decimal s.position) 58 (decimal s.size ++ 58 ∷ encode s.name) (omega arith) digits))
