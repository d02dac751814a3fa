-- What a stripped locator keeps.
-- Laws: `stripped-is`, `stripped_short`, `size-stripped`, `stripped-again`, `size_same`, `locator-stripped`.
use Rattle.std.proofs.Common.{◌≡◌, ℕ, ◌+◌, ◌≤◌, min, true, List, [], length, take, drop, get_or, ap, sym, ◌∙◌, arith}
use Rattle.std.specs.List.{list_all, prefix_len}
use Rattle.std.specs.Char.{is_ascii_digit}
use Rattle.std.proofs.lemmas.List.{take-take, drop-take, length-take, take_all, drop_all, get_or-take}
use Rattle.std.proofs.lemmas.List.Folds.{length-prefix_len}
use Rattle.keep_spec.specs.Digest.{is_digest}
use Rattle.keep_spec.specs.Locator.{is_locator, is_number, is_hint, number, size_digits, stripped, hints, size, cut_before_plus}
use Rattle.keep_spec.proofs.Fronts.{prefix_len-take}
use Rattle.keep_spec.proofs.LocatorText.{locator_parts, locator_from_parts}

-- how many digits stand after the plus
abbrev pub digits_at : List ℕ → ℕ
digits_at text = prefix_len is_ascii_digit (drop 33 text)

length-digits : (text : List ℕ) → length (size_digits text) ≡ digits_at text
unfolding size_digits
length-digits text = length-prefix_len is_ascii_digit (drop 33 text)

pub stripped-is : (text : List ℕ) → stripped text ≡ take (33 + digits_at text) text
unfolding stripped
stripped-is text = ap (λ n. take (33 + n) text) (length-digits text)

-- a text that ends before its size stays
pub stripped_short : (text : List ℕ) → length text ≤ 33 → text ≡ stripped text
stripped_short text short = sym (stripped-is text ∙ take_all (33 + digits_at text) text (omega arith))

digits-stripped : (text : List ℕ) → size_digits (stripped text) ≡ size_digits text
unfolding size_digits
digits-stripped text =
    let k = digits_at text in
    let xs = drop 33 text in
    let behind : drop 33 (stripped text) ≡ take k xs = ap (drop 33) (stripped-is text) ∙ drop-take 33 k text in
    let front : prefix_len is_ascii_digit (take k xs) ≡ k = prefix_len-take is_ascii_digit k xs ∙ omega arith in
    ap (λ ys. take (prefix_len is_ascii_digit ys) ys) behind ∙ ap (λ n. take n (take k xs)) front ∙ take-take k k xs (omega arith)

pub size-stripped : (text : List ℕ) → size (stripped text) ≡ size text
unfolding size
size-stripped text = ap number (digits-stripped text)

pub stripped-again : (text : List ℕ) → stripped (stripped text) ≡ stripped text
stripped-again text =
    let k = digits_at text in
    let same : digits_at (stripped text) ≡ k = sym (length-digits (stripped text)) ∙ ap length (digits-stripped text) ∙ length-digits text in
    stripped-is (stripped text) ∙ ap (λ n. take (33 + n) (stripped text)) same ∙ ap (take (33 + k)) (stripped-is text) ∙ take-take (33 + k) (33 + k) text (omega arith) ∙ sym (stripped-is text)

-- two locators of one block have one size
pub size_same : (p q : List ℕ) → stripped p ≡ stripped q → size p ≡ size q
size_same p q same = sym (size-stripped p) ∙ ap size same ∙ size-stripped q

hints-stripped : (text : List ℕ) → hints (stripped text) ≡ []
unfolding hints cut_before_plus
hints-stripped text =
    let k = digits_at text in
    let long : length (stripped text) ≡ min (33 + k) (length text) = ap length (stripped-is text) ∙ length-take (33 + k) text in
    let digits : length (size_digits (stripped text)) ≡ k = ap length (digits-stripped text) ∙ length-digits text in
    ap cut_before_plus (drop_all (33 + length (size_digits (stripped text))) (stripped text) (omega arith))

-- a locator that was stripped is one
pub locator-stripped : (text : List ℕ) → is_locator text ≡ true → is_locator (stripped text) ≡ true
locator-stripped text h =
    let parts = locator_parts text h in
    let k = digits_at text in
    let long : length (stripped text) ≡ min (33 + k) (length text) = ap length (stripped-is text) ∙ length-take (33 + k) text in
    let same = digits-stripped text in
    let digits = length-digits text in
    let count : length (size_digits (stripped text)) ≡ k = ap length same ∙ digits in
    locator_from_parts (stripped text) (record {
      a_digest = ap (λ t. is_digest (take 32 t)) (stripped-is text) ∙ ap is_digest (take-take 32 (33 + k) text (omega arith)) ∙ parts.a_digest;
      plus = ap (λ t. get_or t 32 0) (stripped-is text) ∙ get_or-take (33 + k) text 32 0 (omega arith) ∙ parts.plus;
      a_number = ap is_number same ∙ parts.a_number;
      each_a_hint = ap (list_all is_hint) (hints-stripped text);
      long = omega (arith, parts.long, parts.within, digits);
      within = omega (arith, parts.within, digits, count);
    })
