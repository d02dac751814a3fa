-- The parts of a locator.
use Rattle.std.proofs.Common.{◌≡◌, ℕ, ◌+◌, ◌-◌, ◌<◌, ◌≤◌, ◌^◌, Bool, true, ◌==◌, ◌&&◌, inl, inr, List, length, take, drop, get_or, arith}
use Rattle.std.proofs.lemmas.Bool.{and_parts, and_from, eqb-true, eq-eqb, cases_lt}
use Rattle.std.proofs.lemmas.List.{get_or_past, length-drop}
use Rattle.std.proofs.lemmas.List.Folds.{length-prefix_len}
use Rattle.std.proofs.lemmas.List.Sums.{prefix_len-le-length}
use Rattle.std.specs.Char.{is_ascii_digit}
use Rattle.std.specs.List.{list_all}
use Rattle.keep_spec.specs.Digest.{is_digest}
use Rattle.keep_spec.specs.Locator.{is_number, is_hint, size_digits, hints, size, is_locator}
use Rattle.keep_spec.proofs.NumberText.{number-lt}

pub record LocatorParts (text : List ℕ) : Type 0 where
  pub a_digest : is_digest (take 32 text) ≡ true
  pub plus : get_or text 32 0 ≡ 43
  pub a_number : is_number (size_digits text) ≡ true
  pub each_a_hint : list_all is_hint (hints text) ≡ true
  -- the digest and its plus, and the size, lie within the text
  pub long : 32 < length text
  pub within : 33 + length (size_digits text) ≤ length text

plus_inside : (text : List ℕ) → get_or text 32 0 ≡ 43 → 32 < length text
plus_inside text plus = elim (cases_lt 32 (length text)) [ inl inside ↦ inside | inr past ↦ absurd (omega (arith, plus, get_or_past text 32 0 past)) ]

pub length-size_digits : (text : List ℕ) → length (size_digits text) ≤ length text - 33
unfolding size_digits
length-size_digits text =
    omega (arith, length-prefix_len is_ascii_digit (drop 33 text), prefix_len-le-length is_ascii_digit (drop 33 text), length-drop 33 text)

pub locator_parts : (text : List ℕ) → is_locator text ≡ true → LocatorParts text
unfolding is_locator
locator_parts text h =
    let digest = is_digest (take 32 text) in
    let plus : Bool = get_or text 32 0 == 43 in
    let a = and_parts ((digest && plus) && is_number (size_digits text)) (list_all is_hint (hints text)) h in
    let b = and_parts (digest && plus) (is_number (size_digits text)) a.0 in
    let c = and_parts digest plus b.0 in
    let is_plus = eqb-true (get_or text 32 0) 43 c.1 in
    let long = plus_inside text is_plus in
    record { a_digest = c.0; plus = is_plus; a_number = b.1; each_a_hint = a.1; long = long; within = omega (arith, length-size_digits text, long) }

pub locator_from_parts : (text : List ℕ) → LocatorParts text → is_locator text ≡ true
unfolding is_locator
locator_from_parts text parts =
    let digest = is_digest (take 32 text) in
    let plus : Bool = get_or text 32 0 == 43 in
    and_from ((digest && plus) && is_number (size_digits text)) (list_all is_hint (hints text))
    (and_from (digest && plus) (is_number (size_digits text)) (and_from digest plus parts.a_digest (eq-eqb (get_or text 32 0) 43 parts.plus)) parts.a_number)
    parts.each_a_hint

pub size-lt : (text : List ℕ) → is_locator text ≡ true → size text < 10 ^ 19
unfolding size
size-lt text h = number-lt (size_digits text) (locator_parts text h).a_number
