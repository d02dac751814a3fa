-- The digits of a digest.
use Rattle.std.proofs.Common.{◌≡◌, ℕ, suc, ◌+◌, ◌*◌, ◌/◌, ◌%◌, ◌<◌, Bool, true, List, [], ◌∷◌, refl, sym, ap, ◌∙◌, arith, length, min, if◌then◌else◌, ◌==◌, ◌&&◌, ◌||◌, not, slice_index, Some, None, Ok}
use Rattle.std.proofs.lemmas.Bool.{agree_below_at, and_parts, and_from, eqb-true, eq-eqb, false_from_ne_true}
use Rattle.std.proofs.lemmas.Option.{cond_some}
use Rattle.std.proofs.lemmas.List.Sums.{prefix_len-le-length}
use Rattle.std.proofs.lemmas.Bool.Decides.{nat_tests}
use Rattle.std.specs.List.{list_all, prefix_len}
use Rattle.hex.specs.Hex.{lower_digits, encode_with, encode_lower, IsBytes, decode_pairs, decode_sized, hex_digit_value, digit_or_error, pair_value, value_at}
use Rattle.hex.proofs.HexLemmas.{length-encode_with}
use Rattle.hex.proofs.Pairs.{cons_byte, decode_pairs-ok_pair, decode_sized-pairs}
use Rattle.keep_spec.specs.Digest.{is_lower_digit, lower_digit_value, bytes_of_digits, is_digest, digest_of}
use Rattle.keep_spec.proofs.Fronts.{prefix_len-all, list_all-from_prefix_len}

pub hex_digit_value-lower : (c : ℕ) → is_lower_digit c ≡ true → hex_digit_value c ≡ Some (lower_digit_value c)
hex_digit_value-lower c lower = grind (arith, nat_tests)

decode_pairs-lower : (i : ℕ) (text : List ℕ) → list_all is_lower_digit text ≡ true → length text % 2 ≡ 0 → decode_pairs i text ≡ Ok (bytes_of_digits text)
unfolding decode_pairs bytes_of_digits
decode_pairs-lower i [] all even = refl
decode_pairs-lower i (high ∷ []) all even = absurd (omega (arith, even))
decode_pairs-lower i (high ∷ low ∷ rest) all even =
    let first = and_parts (is_lower_digit high) (is_lower_digit low && list_all is_lower_digit rest) all in
    let second = and_parts (is_lower_digit low) (list_all is_lower_digit rest) first.1 in
    let a : value_at high i ≡ Ok (lower_digit_value high) = ap (digit_or_error high i) (hex_digit_value-lower high first.0) in
    let b : value_at low (i + 1) ≡ Ok (lower_digit_value low) = ap (digit_or_error low (i + 1)) (hex_digit_value-lower low second.0) in
    let pair : pair_value high low i ≡ Ok (lower_digit_value high * 16 + lower_digit_value low) = rw (a, b) refl in
    decode_pairs-ok_pair i high low _ rest pair ∙ ap (cons_byte (lower_digit_value high * 16 + lower_digit_value low)) (decode_pairs-lower (i + 2) rest second.1 (omega (arith, even)))

pub decode_sized-lower : (text : List ℕ) → is_digest text ≡ true → decode_sized text 16 ≡ Ok (bytes_of_digits text)
decode_sized-lower text h =
    let parts = and_parts (length text == 32) (list_all is_lower_digit text) h in
    let len = eqb-true (length text) 32 parts.0 in
    let pairs = decode_pairs-lower 0 text parts.1 (omega (arith, len)) in
    decode_sized-pairs text 16 (omega (arith, len)) (omega (arith, len)) ∙ pairs

-- what the digits at the front say of the whole text
pub is_digest-parts : (text : List ℕ) → is_digest text ≡ true → (length text ≡ 32) × (min 32 (prefix_len is_lower_digit text) ≡ 32)
is_digest-parts text h =
    let parts = and_parts (length text == 32) (list_all is_lower_digit text) h in
    let len = eqb-true (length text) 32 parts.0 in
    (len, omega (arith, len, prefix_len-all is_lower_digit text parts.1))

pub is_digest-from_parts : (text : List ℕ) → length text ≡ 32 → min 32 (prefix_len is_lower_digit text) ≡ 32 → is_digest text ≡ true
is_digest-from_parts text len front =
    and_from (length text == 32) (list_all is_lower_digit text) (eq-eqb (length text) 32 len)
    (list_all-from_prefix_len is_lower_digit text (omega (arith, len, front, prefix_len-le-length is_lower_digit text)))

pub digest_of-none : (text : List ℕ) → (is_digest text ≡ true → ⊥) → digest_of text ≡ None
digest_of-none text h = ap (λ b. if b then Some (bytes_of_digits text) else None) (false_from_ne_true (is_digest text) h)

pub digest_of-some : (text : List ℕ) → is_digest text ≡ true → digest_of text ≡ Some (bytes_of_digits text)
digest_of-some text h = ap (λ b. if b then Some (bytes_of_digits text) else None) h

pub digest_of_is : (text digest : List ℕ) → digest_of text ≡ Some digest → (is_digest text ≡ true) × (digest ≡ bytes_of_digits text)
digest_of_is text digest e = let parts = cond_some (is_digest text) (bytes_of_digits text) digest e in (parts.0, sym parts.1)

-- The digits that bytes write.

digit-lower : (k : ℕ) → k < 16 → is_lower_digit (slice_index lower_digits k) ≡ true
digit-lower k lt = agree_below_at (λ k. is_lower_digit (slice_index lower_digits k)) (λ _. true) 16 k refl lt

digit-value : (k : ℕ) → k < 16 → lower_digit_value (slice_index lower_digits k) ≡ k
digit-value k lt = eqb-true (lower_digit_value (slice_index lower_digits k)) k (agree_below_at (λ k. lower_digit_value (slice_index lower_digits k) == k) (λ _. true) 16 k refl lt)

pub lower-encode : (bytes : List ℕ) → IsBytes bytes → list_all is_lower_digit (encode_lower bytes) ≡ true
unfolding encode_with
lower-encode [] h = refl
lower-encode (b ∷ bs) h =
    let fits : b < 256 = h 0 in
    let rest : Bool = list_all is_lower_digit (encode_lower bs) in
    and_from (is_lower_digit (slice_index lower_digits (b / 16))) (is_lower_digit (slice_index lower_digits (b % 16)) && rest) (digit-lower (b / 16) (omega arith))
    (and_from (is_lower_digit (slice_index lower_digits (b % 16))) rest (digit-lower (b % 16) (omega arith)) (lower-encode bs (λ k. h (suc k))))

pub bytes_of_digits-encode : (bytes : List ℕ) → IsBytes bytes → bytes_of_digits (encode_lower bytes) ≡ bytes
unfolding encode_with bytes_of_digits
bytes_of_digits-encode [] h = refl
bytes_of_digits-encode (b ∷ bs) h =
    let fits : b < 256 = h 0 in
    let high = digit-value (b / 16) (omega arith) in
    let low = digit-value (b % 16) (omega arith) in
    let whole : lower_digit_value (slice_index lower_digits (b / 16)) * 16 + lower_digit_value (slice_index lower_digits (b % 16)) ≡ b = omega (arith, high, low) in
    ap (λ n. n ∷ bytes_of_digits (encode_lower bs)) whole ∙ ap (λ xs. b ∷ xs) (bytes_of_digits-encode bs (λ k. h (suc k)))

pub digest_of-encode : (digest : List ℕ) → length digest ≡ 16 → IsBytes digest → digest_of (encode_lower digest) ≡ Some digest
digest_of-encode digest len h =
    let text = encode_lower digest in
    let digits : length text ≡ 32 = omega (arith, length-encode_with lower_digits digest, len) in
    digest_of-some text (and_from (length text == 32) (list_all is_lower_digit text) (eq-eqb (length text) 32 digits) (lower-encode digest h)) ∙ ap Some (bytes_of_digits-encode digest h)

lower_small : (c : ℕ) → is_lower_digit c ≡ true → lower_digit_value c < 16
lower_small c lower = grind (arith, nat_tests)

digit-again : (c : ℕ) → is_lower_digit c ≡ true → (lower_digit_value c < 16) × (slice_index lower_digits (lower_digit_value c) ≡ c)
digit-again c lower =
    let small : c < 128 = grind (arith, nat_tests) in
    let test : ℕ → Bool = λ c. not (is_lower_digit c) || (slice_index lower_digits (lower_digit_value c) == c) in
    let tested : test c ≡ true = agree_below_at test (λ _. true) 128 c refl small in
    let same : (slice_index lower_digits (lower_digit_value c) == c) ≡ true = sym (ap (λ b. not b || (slice_index lower_digits (lower_digit_value c) == c)) lower) ∙ tested in
    (lower_small c lower, eqb-true (slice_index lower_digits (lower_digit_value c)) c same)

pub encode-bytes_of_digits : (text : List ℕ) → list_all is_lower_digit text ≡ true → length text % 2 ≡ 0 → encode_lower (bytes_of_digits text) ≡ text
unfolding encode_with bytes_of_digits
encode-bytes_of_digits [] all even = refl
encode-bytes_of_digits (high ∷ []) all even = absurd (omega (arith, even))
encode-bytes_of_digits (high ∷ low ∷ rest) all even =
    let first = and_parts (is_lower_digit high) (is_lower_digit low && list_all is_lower_digit rest) all in
    let second = and_parts (is_lower_digit low) (list_all is_lower_digit rest) first.1 in
    let h = digit-again high first.0 in
    let l = digit-again low second.0 in
    let byte = lower_digit_value high * 16 + lower_digit_value low in
    let top : byte / 16 ≡ lower_digit_value high = omega (arith, h.0, l.0) in
    let bottom : byte % 16 ≡ lower_digit_value low = omega (arith, h.0, l.0) in
    let front : slice_index lower_digits (byte / 16) ≡ high = ap (slice_index lower_digits) top ∙ h.1 in
    let back : slice_index lower_digits (byte % 16) ≡ low = ap (slice_index lower_digits) bottom ∙ l.1 in
    ap (λ c. c ∷ slice_index lower_digits (byte % 16) ∷ encode_lower (bytes_of_digits rest)) front
    ∙ ap (λ c. high ∷ c ∷ encode_lower (bytes_of_digits rest)) back
    ∙ ap (λ xs. high ∷ low ∷ xs) (encode-bytes_of_digits rest second.1 (omega (arith, even)))

pub text_of_digest : (text digest : List ℕ) → digest_of text ≡ Some digest → text ≡ encode_lower digest
text_of_digest text digest e =
    let is = digest_of_is text digest e in
    let parts = and_parts (length text == 32) (list_all is_lower_digit text) is.0 in
    sym (encode-bytes_of_digits text parts.1 (omega (arith, eqb-true (length text) 32 parts.0))) ∙ ap encode_lower (sym is.1)
