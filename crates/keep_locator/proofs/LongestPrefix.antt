-- The longest prefix of a text that begins some locator.
-- Laws: `begins-from_test`, `begins-to_test`, `longest`, `locator_prefix_len-far`.
use Rattle.std.proofs.Common.{◌≡◌, ℕ, zero, suc, ◌+◌, ◌<◌, ◌≤◌, Bool, true, false, inl, inr, List, ◌++◌, length, take, drop, if◌then◌else◌, refl, sym, ap, ◌∙◌, arith, zero-add}
use Rattle.std.specs.Prelude.{codes}
use Rattle.std.proofs.lemmas.Bool.{or_cases, or_left, or_right, false_from_ne_true, cases_eq}
use Rattle.std.proofs.lemmas.List.{length-take-le}
use Rattle.keep_spec.specs.Locator.{is_locator, BeginsLocator, IsLongestPrefix, begins_locator, greatest, locator_prefix_len}
use Rattle.keep_locator.proofs.ParserStates.{digits, advance, advance-take, advance-le, advance-accepted, front-completed, least}
use Rattle.keep_locator.proofs.GrammarStates.{accepts-start}

-- how far a text goes
abbrev pub far : List ℕ → ℕ
far text = advance (digits 0) text

far-begins : (front : List ℕ) → BeginsLocator front → far front ≡ length front
far-begins front (more, h) = advance-accepted (digits 0) front more (accepts-start (front ++ more) ∙ h)

begins_locator-far : (front : List ℕ) → far front ≡ length front → begins_locator front ≡ true
unfolding begins_locator
begins_locator-far front all =
    elim (front-completed (digits 0) 0 front (refl, omega arith) all) [
      | inl h ↦ or_left (is_locator (front ++ drop (length front) least)) (is_locator (front ++ codes "A")) (ap (λ n. is_locator (front ++ drop n least)) (sym (zero-add (length front))) ∙ sym (accepts-start (front ++ drop (0 + length front) least)) ∙ h)
      | inr h ↦ or_right (is_locator (front ++ drop (length front) least)) (is_locator (front ++ codes "A")) (sym (accepts-start (front ++ codes "A")) ∙ h)
    ]

pub begins-from_test : (front : List ℕ) → begins_locator front ≡ true → BeginsLocator front
unfolding begins_locator
begins-from_test front h =
    elim (or_cases (is_locator (front ++ drop (length front) least)) (is_locator (front ++ codes "A")) h) [
      | inl e ↦ (drop (length front) least, e)
      | inr e ↦ (codes "A", e)
    ]

pub begins-to_test : (front : List ℕ) → BeginsLocator front → begins_locator front ≡ true
begins-to_test front h = begins_locator-far front (far-begins front h)

far-taken : (text : List ℕ) → far (take (far text) text) ≡ length (take (far text) text)
far-taken text = omega (arith, advance-take (digits 0) (far text) text, length-take-le (far text) text (advance-le (digits 0) text))

not_longer : (text : List ℕ) (m : ℕ) → far text < m → m ≤ length text → BeginsLocator (take m text) → ⊥
not_longer text m above within h = omega (arith, advance-take (digits 0) m text, length-take-le m text within, far-begins (take m text) h)

pub longest : (text : List ℕ) → IsLongestPrefix text (far text)
longest text = record {
  within = advance-le (digits 0) text;
  begins = begins-from_test (take (far text) text) (begins_locator-far (take (far text) text) (far-taken text));
  longest = not_longer text;
}

greatest-is : (p : ℕ → Bool) (n a : ℕ) → a ≤ n → p a ≡ true → ((m : ℕ) → a < m → m ≤ n → p m ≡ false) → greatest p n ≡ a
greatest-is p zero a le passes above = omega arith
greatest-is p (suc n) a le passes above =
    elim (cases_eq a (suc n)) [
      | inl top ↦ ap (λ b. if b then suc n else greatest p n) (ap p (sym top) ∙ passes) ∙ sym top
      | inr below ↦
          let still : a ≤ n = omega arith in
          ap (λ b. if b then suc n else greatest p n) (above (suc n) (omega arith) (omega arith))
          ∙ greatest-is p n a still passes (λ m lt within. above m lt (omega arith))
    ]

pub locator_prefix_len-far : (text : List ℕ) → locator_prefix_len text ≡ far text
unfolding locator_prefix_len
locator_prefix_len-far text =
    greatest-is (λ n. begins_locator (take n text)) (length text) (far text) (advance-le (digits 0) text) (begins_locator-far (take (far text) text) (far-taken text))
    (λ m above within. false_from_ne_true (begins_locator (take m text)) (λ h. not_longer text m above within (begins-from_test (take m text) h)))
