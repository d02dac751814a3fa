-- Locators without hints, read part by part.
use Rattle.std.proofs.Common.{◌≡◌, ◌≤◌, ◌+◌, ℕ, zero, suc, List, [], ◌∷◌, length, take, drop, Bool, true, false, ◌&&◌, Option, None, Some, if◌then◌else◌, sym, ◌∙◌, ap, refl, arith, slice_index, ◌==◌}
use Rattle.std.specs.Prelude.{option_and_then, nat_lt}
use Rattle.std.specs.List.{position, position_or_len, before_first, after_first}
use Rattle.std.proofs.lemmas.Bool.{eq-eqb, ne_eqb, ltb-false}
use Rattle.std.proofs.lemmas.List.{drop_all}
use Rattle.keep_spec.specs.Digest.{is_digest, bytes_of_digits, digest_of}
use Rattle.keep_spec.specs.Locator.{is_number, number}
use Rattle.keep_event.specs.Index.{bare_locator, entry_with, entry_of_line}
use Rattle.keep_lists.specs.Answers.{both}

abbrev pub number_at : List ℕ → Option ℕ
number_at text = if is_number text then Some (number text) else None

combine : (a p b : Bool) (x : List ℕ) (n : ℕ) (out : Option (List ℕ × ℕ)) → out ≡ Some (x, n) → p ≡ true → both (if a then Some x else None) (if b then Some n else None) ≡ (if a && p && b then out else None)
combine true true true x n out e q = sym e
combine true true false x n out e q = refl
combine true false b x n out e q = cc q
combine false p true x n out e q = refl
combine false p false x n out e q = refl

pub bare-is : (text : List ℕ) → slice_index text 32 ≡ 43 → both (digest_of (take 32 text)) (number_at (drop 33 text)) ≡ bare_locator text
bare-is text plus =
    let out : Option (List ℕ × ℕ) = Some (bytes_of_digits (take 32 text), number (drop 33 text)) in
    combine (is_digest (take 32 text)) (slice_index text 32 == 43) (is_number (drop 33 text)) (bytes_of_digits (take 32 text)) (number (drop 33 text)) out refl (eq-eqb (slice_index text 32) 43 plus)

fails : (a p b : Bool) (out : Option (List ℕ × ℕ)) → p ≡ false → None ≡ (if a && p && b then out else None)
fails true true b out e = cc e
fails true false b out e = refl
fails false p b out e = refl

pub bare-other : (text : List ℕ) → (slice_index text 32 ≡ 43 → ⊥) → None ≡ bare_locator text
bare-other text other =
    let out : Option (List ℕ × ℕ) = Some (bytes_of_digits (take 32 text), number (drop 33 text)) in
    fails (is_digest (take 32 text)) (slice_index text 32 == 43) (is_number (drop 33 text)) out (ne_eqb (slice_index text 32) 43 other)

past : (xs : List ℕ) (k : ℕ) → length xs ≤ k → slice_index xs k ≡ 0
past [] k le = refl
past (x ∷ xs) zero le = absurd (omega arith)
past (x ∷ xs) (suc k) le = past xs k (omega arith)

pub bare-short : (text : List ℕ) → length text ≤ 32 → None ≡ bare_locator text
bare-short text le = bare-other text (λ e. (let z = past text 32 le in omega arith))

-- ---- a line at its first space
place-by : (b : Bool) (k n : ℕ) → (if b then Some k else None) ≡ Some n → k ≡ n
place-by true k n e = cc e
place-by false k n e = cc e

pub place-is : (xs : List ℕ) (n : ℕ) → position (λ b. b == 32) xs ≡ Some n → position_or_len (λ b. b == 32) xs ≡ n
place-is xs n e = place-by (nat_lt (position_or_len (λ b. b == 32) xs) (length xs)) (position_or_len (λ b. b == 32) xs) n e

no-place : (b : Bool) (k : ℕ) → (if b then Some k else None) ≡ None → b ≡ false
no-place true k e = cc e
no-place false k e = refl

no-number : is_number [] ≡ false
unfolding is_number
no-number = refl

no-entry : (time : List ℕ) (o : Option (List ℕ × ℕ)) → is_number time ≡ false → option_and_then (entry_with time) o ≡ None
no-entry time None e = refl
no-entry time (Some block) e = ap (λ b. if b then Some (record { digest = block.0; size = block.1; mtime = number time }) else None) e

pub no-space : (line : List ℕ) → position (λ b. b == 32) line ≡ None → None ≡ entry_of_line line
unfolding entry_of_line
no-space line e =
    let all = ltb-false (position_or_len (λ b. b == 32) line) (length line) (no-place (nat_lt (position_or_len (λ b. b == 32) line) (length line)) (position_or_len (λ b. b == 32) line) e) in
    let none : after_first (λ b. b == 32) line ≡ [] = drop_all (position_or_len (λ b. b == 32) line + 1) line (omega (arith, all)) in
    sym (no-entry (after_first (λ b. b == 32) line) (bare_locator (before_first (λ b. b == 32) line)) (ap is_number none ∙ no-number))

pub at-space : (line : List ℕ) (n : ℕ) → position (λ b. b == 32) line ≡ Some n → option_and_then (entry_with (drop (n + 1) line)) (bare_locator (take n line)) ≡ entry_of_line line
unfolding entry_of_line
at-space line n e = ap (λ k. option_and_then (entry_with (drop (k + 1) line)) (bare_locator (take k line))) (sym (place-is line n e))
