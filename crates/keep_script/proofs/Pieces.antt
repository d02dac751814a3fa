-- The encoding of bytes, piece after piece: `piece_written`, `none_left`.
use Rattle.std.proofs.Common.{◌≡◌, ℕ, List, [], ◌∷◌, ◌++◌, ◌/◌, ◌%◌, length, slice_index, refl, sym, ap, ◌∙◌, append_assoc, append-nil}
use Rattle.std.proofs.lemmas.List.{nil_from_length}
use Rattle.hex.specs.Hex.{encode_lower, encode_with, lower_digits}

encode_with-append : (t front rest : List ℕ) → encode_with t (front ++ rest) ≡ encode_with t front ++ encode_with t rest
unfolding encode_with
encode_with-append t [] rest = refl
encode_with-append t (b ∷ front) rest = ap (λ (xs : List ℕ). slice_index t (b / 16) ∷ slice_index t (b % 16) ∷ xs) (encode_with-append t front rest)

pub piece_written : (old new whole piece rest want : List ℕ) → new ≡ old ++ encode_lower piece → whole ≡ piece ++ rest
    → old ++ encode_lower whole ≡ want → new ++ encode_lower rest ≡ want
piece_written old new whole piece rest want written parts so_far =
    ap (λ (xs : List ℕ). xs ++ encode_lower rest) written ∙ append_assoc old (encode_lower piece) (encode_lower rest)
    ∙ ap (λ (xs : List ℕ). old ++ xs) (sym (ap encode_lower parts ∙ encode_with-append lower_digits piece rest)) ∙ so_far

pub none_left : (out rest want : List ℕ) → out ++ encode_lower rest ≡ want → length rest ≡ 0 → out ≡ want
unfolding encode_with
none_left out rest want so_far none =
    sym (append-nil out) ∙ sym (ap (λ (xs : List ℕ). out ++ encode_lower xs) (nil_from_length rest none)) ∙ so_far
