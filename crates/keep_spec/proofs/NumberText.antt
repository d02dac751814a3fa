-- Numbers in text, a digit at a time.
use Rattle.std.proofs.Common.{◌≡◌, ℕ, ◌+◌, ◌-◌, ◌*◌, ◌^◌, ◌<◌, ◌≤◌, List, [], ◌∷◌, ◌++◌, true, Bool, nat_le, ◌&&◌, min, if◌then◌else◌, Option, Some, None, refl, sym, ap, ◌∙◌, arith, length, take, get_or}
use Rattle.std.proofs.lemmas.List.{take_more}
use Rattle.std.proofs.Math.Nat.{pow-suc, pow-le-pow_right}
use Rattle.std.proofs.lemmas.Bool.{and_parts, and_from, leb-true, le-leb, false_from_ne_true}
use Rattle.std.proofs.lemmas.Bool.Decides.{nat_tests}
use Rattle.std.proofs.lemmas.Option.{cond_some}
use Rattle.std.proofs.lemmas.List.Sums.{prefix_len-le-length}
use Rattle.std.specs.List.{list_all, prefix_len}
use Rattle.std.specs.Char.{is_ascii_digit, digit_value}
use Rattle.std.specs.Str.Parse.{digits_value_after, AllDigits}
use Rattle.std.proofs.lemmas.Int.Digits.{digits_value-lt}
use Rattle.keep_spec.specs.Locator.{is_number, number}
use Rattle.keep_spec.proofs.Fronts.{prefix_len-all, list_all-from_prefix_len}

pub digit_value-decimal : (c : ℕ) → is_ascii_digit c ≡ true → digit_value c ≡ c - 48
digit_value-decimal c digit = grind (arith, nat_tests)

pub digits_value_after-push : (base n : ℕ) (xs : List ℕ) (c : ℕ) → digits_value_after base n (xs ++ c ∷ []) ≡ digits_value_after base n xs * base + digit_value c
digits_value_after-push base n [] c = refl
digits_value_after-push base n (x ∷ xs) c = digits_value_after-push base (n * base + digit_value x) xs c

pub number-push : (xs : List ℕ) (c : ℕ) → is_ascii_digit c ≡ true → number (xs ++ c ∷ []) ≡ number xs * 10 + (c - 48)
number-push xs c digit = digits_value_after-push 10 0 xs c ∙ ap (λ d. number xs * 10 + d) (digit_value-decimal c digit)

pub digit-range : (c : ℕ) → is_ascii_digit c ≡ true → (48 ≤ c) × (c ≤ 57)
digit-range c digit = (grind (arith, nat_tests), grind (arith, nat_tests))

-- one digit more of a text
pub number-take-more : (text : List ℕ) (i : ℕ) → i < length text → is_ascii_digit (get_or text i 0) ≡ true → number (take (i + 1) text) ≡ number (take i text) * 10 + (get_or text i 0 - 48)
number-take-more text i lt digit = ap number (take_more text i 0 lt) ∙ number-push (take i text) (get_or text i 0) digit

pub ten-suc : (n : ℕ) → 10 ^ (n + 1) ≡ 10 ^ n * 10
ten-suc n = grind (arith, pow-suc 10 n)

pub ten-le : (m n : ℕ) → m ≤ n → 10 ^ m ≤ 10 ^ n
ten-le m n le = pow-le-pow_right (omega arith) le

-- what the digits at the front say of the whole text
pub is_number-parts : (text : List ℕ) → is_number text ≡ true → (1 ≤ length text) × (min 19 (prefix_len is_ascii_digit text) ≡ length text)
unfolding is_number
is_number-parts text h =
    let parts = and_parts (nat_le 1 (length text) && nat_le (length text) 19) (list_all is_ascii_digit text) h in
    let sizes = and_parts (nat_le 1 (length text)) (nat_le (length text) 19) parts.0 in
    (leb-true 1 (length text) sizes.0, omega (arith, leb-true (length text) 19 sizes.1, prefix_len-all is_ascii_digit text parts.1))

pub is_number-from_parts : (text : List ℕ) → 1 ≤ length text → min 19 (prefix_len is_ascii_digit text) ≡ length text → is_number text ≡ true
unfolding is_number
is_number-from_parts text some front =
    let within = prefix_len-le-length is_ascii_digit text in
    let whole : prefix_len is_ascii_digit text ≡ length text = omega (arith, within, front) in
    and_from (nat_le 1 (length text) && nat_le (length text) 19) (list_all is_ascii_digit text)
    (and_from (nat_le 1 (length text)) (nat_le (length text) 19) (le-leb 1 (length text) some) (le-leb (length text) 19 (omega (arith, front))))
    (list_all-from_prefix_len is_ascii_digit text whole)

abbrev pub number_if : Bool → ℕ → Option ℕ
number_if b n = if b then Some n else None

pub read_number-none : (text : List ℕ) → (is_number text ≡ true → ⊥) → number_if (is_number text) (number text) ≡ None
read_number-none text h = ap (λ b. number_if b (number text)) (false_from_ne_true (is_number text) h)

pub read_number-some : (text : List ℕ) → is_number text ≡ true → number_if (is_number text) (number text) ≡ Some (number text)
read_number-some text h = ap (λ b. number_if b (number text)) h

pub read_number_is : (text : List ℕ) (n : ℕ) → number_if (is_number text) (number text) ≡ Some n → (is_number text ≡ true) × (n ≡ number text)
read_number_is text n e = let parts = cond_some (is_number text) (number text) n e in (parts.0, sym parts.1)

AllDigits-from_all : (text : List ℕ) → list_all is_ascii_digit text ≡ true → AllDigits 10 text
AllDigits-from_all [] all = tt
AllDigits-from_all (c ∷ cs) all =
    let parts = and_parts (is_ascii_digit c) (list_all is_ascii_digit cs) all in
    let value = digit_value-decimal c parts.0 in
    let range = digit-range c parts.0 in
    (omega (arith, value, range), AllDigits-from_all cs parts.1)

-- 19 digits write a number below 10^19
pub number-lt : (text : List ℕ) → is_number text ≡ true → number text < 10 ^ 19
unfolding is_number
number-lt text h =
    let a = and_parts (nat_le 1 (length text) && nat_le (length text) 19) (list_all is_ascii_digit text) h in
    let b = and_parts (nat_le 1 (length text)) (nat_le (length text) 19) a.0 in
    let bound = digits_value-lt 10 text (AllDigits-from_all text a.1) in
    omega (arith, bound, ten-le (length text) 19 (leb-true (length text) 19 b.1))
