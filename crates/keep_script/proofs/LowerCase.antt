-- A text that decodes is the encoding of what it decodes to just where all its digits are in lower case: `bytes-of_lower`, `no_bytes-of_other`.
use Rattle.std.proofs.Common.{◌≡◌, ℕ, zero, suc, ◌+◌, ◌*◌, ◌/◌, ◌%◌, ◌<◌, ◌≤◌, ◌==◌, nat_lt, Bool, true, false, ◌&&◌, if◌then◌else◌, inl, inr, List, [], ◌∷◌, slice_index, Option, Some, None, Result, Ok, Err, refl, sym, ap, subst, ◌∙◌, arith}
use Rattle.std.proofs.lemmas.Bool.{and_parts, cases_lt, ltb-true}
use Rattle.std.proofs.lemmas.Bool.Decides.{nat_tests}
use Rattle.std.specs.List.{list_all}
use Rattle.std.specs.Result.{result_unwrap_or}
use Rattle.std.specs.Str.{bytes_eq}
use Rattle.hex.specs.Hex.{decode_of, decode_pairs, digit_or_error, encode_lower, encode_with, hex_digit_value, lower_digits, pair_value, value_at, ◌>>=◌}
use Rattle.hex.specs.declared.error.FromHexError.{FromHexError}
use Rattle.hex.proofs.HexLemmas.{decode_of-even, decode_of-ok}
use Rattle.keep_spec.specs.Digest.{is_lower_digit}
use Rattle.keep_history.specs.Script.{bytes_of_text, lower_case}

-- ---- one digit

abbrev same : Bool → Bool → Bool
same true b = b
same false true = false
same false false = true

same-equal : (a b : Bool) → same a b ≡ true → a ≡ b
same-equal true true h = refl
same-equal true false h = cc
same-equal false true h = cc
same-equal false false h = refl

-- a character is the lower-case digit of the value that it has just where it is in lower case
abbrev agrees : ℕ → Option ℕ → Bool
agrees c None = true
agrees c (Some v) = nat_lt v 16 && same (slice_index lower_digits v == c) (is_lower_digit c)

abbrev all_agree : ℕ → Bool
all_agree zero = true
all_agree (suc n) = agrees n (hex_digit_value n) && all_agree n

all_agree-at : (n c : ℕ) → all_agree n ≡ true → c < n → agrees c (hex_digit_value c) ≡ true
all_agree-at zero c h below = absurd (omega arith)
all_agree-at (suc n) c h below =
    let parts = and_parts (agrees n (hex_digit_value n)) (all_agree n) h in
    elim (cases_lt c n) [
      | inl less ↦ all_agree-at n c parts.1 less
      | inr last ↦
          let e : c ≡ n = omega arith in
          rw e parts.0
    ]

-- no character from 103 on is a digit
value-none : (c : ℕ) → 103 ≤ c → hex_digit_value c ≡ None
value-none c h = grind (arith, nat_tests)

agrees-everywhere : (c : ℕ) → agrees c (hex_digit_value c) ≡ true
agrees-everywhere c =
    elim (cases_lt c 103) [
      | inl below ↦ all_agree-at 103 c refl below
      | inr above ↦ ap (agrees c) (value-none c above)
    ]

digit-same : (c v : ℕ) → hex_digit_value c ≡ Some v → (v < 16) × ((slice_index lower_digits v == c) ≡ is_lower_digit c)
digit-same c v h =
    let a : agrees c (Some v) ≡ true = ap (agrees c) (sym h) ∙ agrees-everywhere c in
    let parts = and_parts (nat_lt v 16) (same (slice_index lower_digits v == c) (is_lower_digit c)) a in
    (ltb-true v 16 parts.0, same-equal (slice_index lower_digits v == c) (is_lower_digit c) parts.1)

-- ---- pairs of digits

bind_ok : {A B : Type 0} (r : Result A FromHexError) (f : A → Result B FromHexError) (y : B)
    → (r >>= f) ≡ Ok y → (x : A) × (r ≡ Ok x) × (f x ≡ Ok y)
bind_ok (Ok x) f y h = (x, refl, h)
bind_ok (Err e) f y h = cc h

digit_read : (c i : ℕ) (o : Option ℕ) (v : ℕ) → digit_or_error c i o ≡ Ok v → o ≡ Some v
digit_read c i (Some w) v h = ap Some (ap (λ (r : Result ℕ FromHexError). result_unwrap_or r 0) h)
digit_read c i None v h = cc h

pair-same : (v w a b : ℕ) (bytes rest : List ℕ) → v < 16 → w < 16
    → (slice_index lower_digits v == a) ≡ is_lower_digit a → (slice_index lower_digits w == b) ≡ is_lower_digit b
    → bytes_eq (encode_lower bytes) rest ≡ list_all is_lower_digit rest
    → bytes_eq (encode_lower ((v * 16 + w) ∷ bytes)) (a ∷ b ∷ rest) ≡ list_all is_lower_digit (a ∷ b ∷ rest)
unfolding encode_with
pair-same v w a b bytes rest small_v small_w ha hb hs =
    let high : (v * 16 + w) / 16 ≡ v = omega arith in
    let low : (v * 16 + w) % 16 ≡ w = omega arith in
    rw (high, low, ha, hb, hs) refl

pairs-same : (i : ℕ) (text bytes : List ℕ) → decode_pairs i text ≡ Ok bytes → bytes_eq (encode_lower bytes) text ≡ list_all is_lower_digit text
unfolding decode_pairs encode_with
pairs-same i [] bytes h =
    let e : [] ≡ bytes = ap (λ (r : Result (List ℕ) FromHexError). result_unwrap_or r []) h in
    rw (← e) refl
pairs-same i (a ∷ []) bytes h = cc h
pairs-same i (a ∷ b ∷ rest) bytes h =
    let p0 = bind_ok (pair_value a b i) _ bytes h in
    let p1 = bind_ok (value_at a i) _ p0.0 p0.1 in
    let p2 = bind_ok (value_at b (i + 1)) _ p0.0 p1.2 in
    let p3 = bind_ok (decode_pairs (i + 2) rest) _ bytes p0.2 in
    let e : p0.0 ∷ p3.0 ≡ bytes = ap (λ (r : Result (List ℕ) FromHexError). result_unwrap_or r []) p3.2 in
    let byte : p1.0 * 16 + p2.0 ≡ p0.0 = ap (λ (r : Result ℕ FromHexError). result_unwrap_or r 0) p2.2 in
    let high = digit-same a p1.0 (digit_read a i (hex_digit_value a) p1.0 p1.1) in
    let low = digit-same b p2.0 (digit_read b (i + 1) (hex_digit_value b) p2.0 p2.1) in
    let whole : (p1.0 * 16 + p2.0) ∷ p3.0 ≡ bytes = ap (λ (v : ℕ). v ∷ p3.0) byte ∙ e in
    let rest_same = pairs-same (i + 2) rest p3.0 p3.1 in
    let P : List ℕ → Type 0 = λ bs. bytes_eq (encode_lower bs) (a ∷ b ∷ rest) ≡ list_all is_lower_digit (a ∷ b ∷ rest) in
    subst P whole (pair-same p1.0 p2.0 a b p3.0 rest high.0 low.0 high.1 low.1 rest_same)

-- ---- whole texts

text-same : (text bytes : List ℕ) → decode_of text ≡ Ok bytes → bytes_eq (encode_lower bytes) text ≡ list_all is_lower_digit text
text-same text bytes h =
    let even = (decode_of-ok text bytes h).0 in
    pairs-same 0 text bytes (sym (decode_of-even text even) ∙ h)

pub bytes-of_lower : (text bytes : List ℕ) → list_all is_lower_digit text ≡ true → decode_of text ≡ Ok bytes → bytes_of_text text ≡ Some bytes
bytes-of_lower text bytes all h =
    ap (lower_case text) h ∙ ap (λ (b : Bool). if b then Some bytes else None) (text-same text bytes h ∙ all)

other-result : (text : List ℕ) (r : Result (List ℕ) FromHexError)
    → ((bytes : List ℕ) → r ≡ Ok bytes → bytes_eq (encode_lower bytes) text ≡ false) → lower_case text r ≡ None
other-result text (Ok bytes) h = ap (λ (b : Bool). if b then Some bytes else None) (h bytes refl)
other-result text (Err e) h = refl

pub no_bytes-of_other : (text : List ℕ) → list_all is_lower_digit text ≡ false → bytes_of_text text ≡ None
no_bytes-of_other text other = other-result text (decode_of text) (λ bytes h. text-same text bytes h ∙ other)
