-- The locator of a block: it is one, and has the block's digest and size.
-- Laws: `IsBytes-md5`, `is_locator-of`, `digest-of`, `size-of`.
use Rattle.std.proofs.Common.{◌≡◌, ℕ, zero, suc, ◌+◌, ◌<◌, ◌^◌, eqb, leb, true, ◌&&◌, List, [], ◌∷◌, ◌++◌, length, take, drop, get_or, refl, ap, sym, ◌∙◌, arith, length-append, rules}
use Rattle.std.specs.Prelude.{decimal, take_while, cond}
use Rattle.std.specs.Int.{w32, byte_at, bytes_low_first, to_le_bytes}
use Rattle.std.specs.List.{list_all}
use Rattle.std.specs.Char.{is_ascii_digit}
use Rattle.std.specs.Str.Parse.{digits_value}
use Rattle.std.proofs.lemmas.Bool.{and_parts, and_from, eq-eqb, le-leb}
use Rattle.std.proofs.lemmas.List.{take_at, drop_at, drop-drop, drop_all}
use Rattle.std.proofs.lemmas.List.Sums.{take_while-cons}
use Rattle.std.proofs.Math.Seq.{get_or-append_seam}
use Rattle.std.proofs.lemmas.Str.Parse.{IsNumeralModel, numerals_by_value}
use Rattle.std.proofs.lemmas.Fmt.{decimal_is_IsNumeral, length-decimal-le}
use Rattle.hex.specs.Hex.{encode_lower, lower_digits, IsBytes}
use Rattle.hex.proofs.HexLemmas.{length-encode_with}
use Rattle.md5.specs.Md5.{md5, digest_bytes}
use Rattle.md5.proofs.StandardFacts.{length-md5}
use Rattle.keep_spec.specs.Digest.{is_digest, is_lower_digit, bytes_of_digits}
use Rattle.keep_spec.specs.Locator.{is_number, is_hint, number, size_digits, hints, cut_before_plus, digest, size, is_locator}
use Rattle.keep_spec.proofs.DigestText.{lower-encode, bytes_of_digits-encode}
use Rattle.keep_spec.proofs.LocatorText.{locator_from_parts}
use Rattle.keep_event.specs.Index.{locator_text}
use Rattle.keep_files.specs.Layout.{locator_of}

-- Digests: each byte is one.

small_joined : (xs ys : List ℕ) → IsBytes xs → IsBytes ys → IsBytes (xs ++ ys)
small_joined [] ys hx hy i = hy i
small_joined (x ∷ xs) ys hx hy zero = hx zero
small_joined (x ∷ xs) ys hx hy (suc i) = small_joined xs ys (λ k. hx (suc k)) hy i

byte_small : (i n : ℕ) → byte_at i n < 256
byte_small zero n = omega arith
byte_small (suc i) n = omega arith

low_small : (i k n : ℕ) → IsBytes (bytes_low_first i k n)
low_small i zero n j = omega arith
low_small i (suc k) n zero = byte_small i n
low_small i (suc k) n (suc j) = low_small (suc i) k n j

digest_small : (h : List ℕ) (n : ℕ) → IsBytes (digest_bytes h n)
unfolding digest_bytes
digest_small h zero i = omega arith
digest_small h (suc n) i = small_joined (digest_bytes h n) (to_le_bytes w32 (get_or h n 0)) (digest_small h n) (low_small 0 4 (get_or h n 0)) i

pub IsBytes-md5 : (m : List ℕ) → IsBytes (md5 m)
unfolding md5
IsBytes-md5 m i = digest_small _ 4 i

-- Numbers.

are_digits : IsNumeralModel (λ ds. list_all is_ascii_digit ds ≡ true) (digits_value 10)
are_digits = numerals_by_value _ (search rules)

decimal_digits : (n : ℕ) → n < 10 ^ 19 → list_all is_ascii_digit (decimal n) ≡ true
decimal_digits n small = are_digits.from (decimal n) (decimal_is_IsNumeral n (omega arith)).0.1

decimal-number : (n : ℕ) → n < 10 ^ 19 → is_number (decimal n) ≡ true
unfolding is_number
decimal-number n small =
    let numeral = decimal_is_IsNumeral n (omega arith) in
    let long = length-decimal-le 19 n (omega arith) small (omega arith) in
    let sizes = and_from (leb 1 (length (decimal n))) (leb (length (decimal n)) 19) (le-leb 1 (length (decimal n)) numeral.0.0) (le-leb (length (decimal n)) 19 long) in
    and_from (leb 1 (length (decimal n)) && leb (length (decimal n)) 19) (list_all is_ascii_digit (decimal n)) sizes (decimal_digits n small)

number-decimal : (n : ℕ) → n < 10 ^ 19 → number (decimal n) ≡ n
number-decimal n small = (decimal_is_IsNumeral n (omega arith)).1

all_taken : (xs : List ℕ) → list_all is_ascii_digit xs ≡ true → take_while is_ascii_digit xs ≡ xs
all_taken [] h = refl
all_taken (x ∷ xs) h =
    let parts = and_parts (is_ascii_digit x) (list_all is_ascii_digit xs) h in
    take_while-cons is_ascii_digit x xs ∙ ap (λ b. cond b (x ∷ take_while is_ascii_digit xs) []) parts.0 ∙ ap (λ ys. x ∷ ys) (all_taken xs parts.1)

-- A digest, `+` and a size.

record IsParted (h : List ℕ) (n : ℕ) : Type 0 where
  digits : take 32 (locator_text h n) ≡ encode_lower h
  plus : get_or (locator_text h n) 32 0 ≡ 43
  last : size_digits (locator_text h n) ≡ decimal n
  long : length (locator_text h n) ≡ 33 + length (decimal n)

parted : (h : List ℕ) (n : ℕ) → length h ≡ 16 → n < 10 ^ 19 → IsParted h n
unfolding size_digits
parted h n len small =
    let digits = encode_lower h in
    let text = locator_text h n in
    let long : length digits ≡ 32 = omega (arith, length-encode_with lower_digits h, len) in
    let rest : drop 32 text ≡ 43 ∷ decimal n = drop_at digits (43 ∷ decimal n) 32 long in
    let last : drop 33 text ≡ decimal n = sym (drop-drop 1 32 text) ∙ ap (drop 1) rest in
    record {
      digits = take_at digits (43 ∷ decimal n) 32 long;
      plus = ap (λ k. get_or text k 0) (sym long) ∙ get_or-append_seam digits 43 (decimal n) 0;
      last = ap (take_while is_ascii_digit) last ∙ all_taken (decimal n) (decimal_digits n small);
      long = omega (arith, length-append digits (43 ∷ decimal n), long);
    }

text-digest : (h : List ℕ) (n : ℕ) → length h ≡ 16 → IsBytes h → n < 10 ^ 19 → digest (locator_text h n) ≡ h
unfolding digest
text-digest h n len bytes small = ap bytes_of_digits (parted h n len small).digits ∙ bytes_of_digits-encode h bytes

text-size : (h : List ℕ) (n : ℕ) → length h ≡ 16 → n < 10 ^ 19 → size (locator_text h n) ≡ n
unfolding size
text-size h n len small = ap number (parted h n len small).last ∙ number-decimal n small

text-hints : (h : List ℕ) (n : ℕ) → length h ≡ 16 → n < 10 ^ 19 → hints (locator_text h n) ≡ []
unfolding hints cut_before_plus
text-hints h n len small =
    let is = parted h n len small in
    let digits = ap length is.last in
    ap cut_before_plus (drop_all (33 + length (size_digits (locator_text h n))) (locator_text h n) (omega (arith, is.long, digits)))

text-locator : (h : List ℕ) (n : ℕ) → length h ≡ 16 → IsBytes h → n < 10 ^ 19 → is_locator (locator_text h n) ≡ true
text-locator h n len bytes small =
    let is = parted h n len small in
    let digits = encode_lower h in
    let long : length digits ≡ 32 = omega (arith, length-encode_with lower_digits h, len) in
    let count = ap length is.last in
    locator_from_parts (locator_text h n) (record {
      a_digest = ap is_digest is.digits ∙ and_from (eqb (length digits) 32) (list_all is_lower_digit digits) (eq-eqb (length digits) 32 long) (lower-encode h bytes);
      plus = is.plus;
      a_number = ap is_number is.last ∙ decimal-number n small;
      each_a_hint = ap (list_all is_hint) (text-hints h n len small);
      long = omega (arith, is.long);
      within = omega (arith, is.long, count);
    })

-- Of a block.

pub is_locator-of : (b : List ℕ) → length b < 10 ^ 19 → is_locator (locator_of b) ≡ true
is_locator-of b small = text-locator (md5 b) (length b) (length-md5 b) (IsBytes-md5 b) small

pub digest-of : (b : List ℕ) → length b < 10 ^ 19 → digest (locator_of b) ≡ md5 b
digest-of b small = text-digest (md5 b) (length b) (length-md5 b) (IsBytes-md5 b) small

pub size-of : (b : List ℕ) → length b < 10 ^ 19 → size (locator_of b) ≡ length b
size-of b small = text-size (md5 b) (length b) (length-md5 b) small
