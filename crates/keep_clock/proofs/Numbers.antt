-- How great a number of some digits can be.
use Rattle.std.proofs.Common.{◌≡◌, ℕ, zero, suc, ◌-◌, ◌*◌, ◌^◌, ◌<◌, ◌≤◌, List, [], ◌∷◌, true, false, Bool, nat_le, ◌&&◌, Option, Some, None, IfSome, arith, length, if◌then◌else◌, refl}
use Rattle.std.proofs.lemmas.Bool.{and_parts}
use Rattle.std.specs.List.{list_all}
use Rattle.std.specs.Char.{is_ascii_digit}
use Rattle.std.specs.Str.Parse.{AllDigits}
use Rattle.std.proofs.lemmas.Int.Digits.{digits_value-lt}
use Rattle.keep_spec.specs.Locator.{is_number, number}
use Rattle.keep_spec.proofs.NumberText.{digit_value-decimal, digit-range}

AllDigits-from_all : (text : List ℕ) → list_all is_ascii_digit text ≡ true → AllDigits 10 text
AllDigits-from_all [] all = tt
AllDigits-from_all (c ∷ cs) all =
    let parts = and_parts (is_ascii_digit c) (list_all is_ascii_digit cs) all in
    let value = digit_value-decimal c parts.0 in
    let range = digit-range c parts.0 in
    (omega (arith, value, range), AllDigits-from_all cs parts.1)

pub number-bound : (text : List ℕ) → is_number text ≡ true → number text < 10 ^ length text
unfolding is_number
number-bound text h =
    let a = and_parts (nat_le 1 (length text) && nat_le (length text) 19) (list_all is_ascii_digit text) h in
    digits_value-lt 10 text (AllDigits-from_all text a.1)

abbrev bounded : List ℕ → Option ℕ → Type 0
bounded text o = IfSome o (λ n. n < 10 ^ length text)

by_test : (text : List ℕ) (b : Bool) → is_number text ≡ b → bounded text (if b then Some (number text) else None)
by_test text true h = number-bound text h
by_test text false h = tt

pub number_bounded : (text : List ℕ) → bounded text (if is_number text then Some (number text) else None)
number_bounded text = by_test text (is_number text) refl

-- a fraction of at most nine digits
pub scaled_lt : (k n : ℕ) → k ≤ 9 → n < 10 ^ k → n * 10 ^ (9 - k) < 1000000000
scaled_lt zero n h b = omega (arith, b)
scaled_lt (suc zero) n h b = omega (arith, b)
scaled_lt (suc (suc zero)) n h b = omega (arith, b)
scaled_lt (suc (suc (suc zero))) n h b = omega (arith, b)
scaled_lt (suc (suc (suc (suc zero)))) n h b = omega (arith, b)
scaled_lt (suc (suc (suc (suc (suc zero))))) n h b = omega (arith, b)
scaled_lt (suc (suc (suc (suc (suc (suc zero)))))) n h b = omega (arith, b)
scaled_lt (suc (suc (suc (suc (suc (suc (suc zero))))))) n h b = omega (arith, b)
scaled_lt (suc (suc (suc (suc (suc (suc (suc (suc zero)))))))) n h b = omega (arith, b)
scaled_lt (suc (suc (suc (suc (suc (suc (suc (suc (suc zero))))))))) n h b = omega (arith, b)
scaled_lt (suc (suc (suc (suc (suc (suc (suc (suc (suc (suc k)))))))))) n h b = absurd (omega arith)
