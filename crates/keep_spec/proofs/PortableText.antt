-- A portable data hash in text.
use Rattle.std.proofs.Common.{◌≡◌, ℕ, ◌+◌, ◌-◌, List, [], ◌∷◌, ◌++◌, true, ◌==◌, ◌&&◌, Some, None, if◌then◌else◌, refl, sym, ap, ◌∙◌, arith, length, take, drop, replicate, slice_index, append_assoc}
use Rattle.std.proofs.lemmas.Bool.{and_parts, and_from, eqb-true, eq-eqb, false_from_ne_true}
use Rattle.std.proofs.lemmas.List.{take_at, drop_at, drop-drop, drop-replicate, length-append}
use Rattle.keep_spec.specs.Digest.{is_digest, bytes_of_digits}
use Rattle.keep_spec.specs.Locator.{is_number, number}
use Rattle.keep_spec.specs.Portable.{is_portable, portable_of}

-- bytes put over zeros that stand behind a front
pub put-zeros : (front bytes : List ℕ) (at n : ℕ) → length front ≡ at → take at (front ++ replicate n 0) ++ bytes ++ drop (at + length bytes) (front ++ replicate n 0) ≡ (front ++ bytes) ++ replicate (n - length bytes) 0
put-zeros front bytes at n len =
    let zeros = replicate n 0 in
    let before = take_at front zeros at len in
    let behind : drop (at + length bytes) (front ++ zeros) ≡ replicate (n - length bytes) 0 =
    sym (drop-drop (length bytes) at (front ++ zeros)) ∙ ap (drop (length bytes)) (drop_at front zeros at len) ∙ drop-replicate (length bytes) n 0 in
    ap (λ x. x ++ bytes ++ drop (at + length bytes) (front ++ zeros)) before ∙ ap (λ x. front ++ bytes ++ x) behind

pub portable_of-none : (text : List ℕ) → (is_portable text ≡ true → ⊥) → portable_of text ≡ None
unfolding portable_of
portable_of-none text h = ap (λ b. if b then Some (record { digest = bytes_of_digits (take 32 text); size = number (drop 33 text) }) else None) (false_from_ne_true (is_portable text) h)

pub record IsPortableText (text : List ℕ) : Type 0 where
  pub digits : is_digest (take 32 text) ≡ true
  pub plus : slice_index text 32 ≡ 43
  pub length : is_number (drop 33 text) ≡ true

pub is_portable-parts : (text : List ℕ) → is_portable text ≡ true → IsPortableText text
is_portable-parts text h =
    let a = and_parts (is_digest (take 32 text) && (slice_index text 32 == 43)) (is_number (drop 33 text)) h in
    let b = and_parts (is_digest (take 32 text)) (slice_index text 32 == 43) a.0 in
    record { digits = b.0; plus = eqb-true (slice_index text 32) 43 b.1; length = a.1 }

pub portable_of-some : (text : List ℕ) → IsPortableText text → portable_of text ≡ Some (record { digest = bytes_of_digits (take 32 text); size = number (drop 33 text) })
unfolding portable_of
portable_of-some text is =
    ap (λ b. if b then Some (record { digest = bytes_of_digits (take 32 text); size = number (drop 33 text) }) else None)
    (and_from (is_digest (take 32 text) && (slice_index text 32 == 43)) (is_number (drop 33 text)) (and_from (is_digest (take 32 text)) (slice_index text 32 == 43) is.digits (eq-eqb (slice_index text 32) 43 is.plus)) is.length)

-- a digest, a plus and a length, each put over zeros
pub put-all : (d s t₁ t₂ t₃ : List ℕ) → length d ≡ 32
    → t₁ ≡ take 0 (replicate 53 0) ++ d ++ drop (0 + length d) (replicate 53 0)
    → t₂ ≡ take 32 t₁ ++ (43 ∷ []) ++ drop 33 t₁
    → t₃ ≡ take 33 t₂ ++ s ++ drop (33 + length s) t₂
    → t₃ ≡ (d ++ 43 ∷ s) ++ replicate (53 - (33 + length s)) 0
put-all d s t₁ t₂ t₃ len e₁ e₂ e₃ =
    let f₁ : t₁ ≡ d ++ replicate 21 0 = e₁ ∙ put-zeros [] d 0 53 refl ∙ ap (λ n. d ++ replicate (53 - n) 0) len in
    let f₂ : t₂ ≡ (d ++ 43 ∷ []) ++ replicate 20 0 = e₂ ∙ ap (λ t. take 32 t ++ (43 ∷ []) ++ drop 33 t) f₁ ∙ put-zeros d (43 ∷ []) 32 21 len in
    let len₂ : length (d ++ 43 ∷ []) ≡ 33 = omega (arith, length-append d (43 ∷ []), len) in
    let f₃ : t₃ ≡ ((d ++ 43 ∷ []) ++ s) ++ replicate (20 - length s) 0 = e₃ ∙ ap (λ t. take 33 t ++ s ++ drop (33 + length s) t) f₂ ∙ put-zeros (d ++ 43 ∷ []) s 33 20 len₂ in
    let n : 20 - length s ≡ 53 - (33 + length s) = omega arith in
    f₃ ∙ ap (λ x. x ++ replicate (20 - length s) 0) (append_assoc d (43 ∷ []) s) ∙ ap (λ k. (d ++ 43 ∷ s) ++ replicate k 0) n

pub length-portable : (d s : List ℕ) → length d ≡ 32 → length (d ++ 43 ∷ s) ≡ 33 + length s
length-portable d s len = omega (arith, length-append d (43 ∷ s), len)
