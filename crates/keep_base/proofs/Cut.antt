-- The first piece of an input.
use Rattle.std.proofs.Common.{◌≡◌, ◌≢◌, ℕ, zero, suc, ◌<◌, ◌≤◌, List, [], ◌∷◌, ◌++◌, length, take, drop, get_or, refl, ap, arith}
use Rattle.std.proofs.lemmas.Bool.{eq-eqb, ne_eqb}
use Rattle.std.specs.List.{onto_first}
use Rattle.keep_spec.specs.Lines.{cut, text_of}
use Rattle.keep_base.specs.Ends.{IsPlain}

IsPlain-tail : (x : ℕ) (xs : List ℕ) (n : ℕ) → IsPlain (x ∷ xs) 0 (suc n) → IsPlain xs 0 n
IsPlain-tail x xs n p k low high = p (suc k) (omega arith) (omega arith)

pub cut-newline : (xs s : List ℕ) (n : ℕ) → n < length xs → IsPlain xs 0 n → get_or xs n 0 ≡ 10 → cut (xs ++ s) ≡ take (suc n) xs ∷ cut (drop (suc n) xs ++ s)
unfolding cut
cut-newline [] s n lt p e = absurd (omega arith)
cut-newline (x ∷ xs) s zero lt p e = rw (eq-eqb x 10 e) refl
cut-newline (x ∷ xs) s (suc n) lt p e = rw (ne_eqb x 10 (p 0 (omega arith) (omega arith)), cut-newline xs s n (omega arith) (IsPlain-tail x xs n p) e) refl

pub text_of-newline : (xs : List ℕ) (n : ℕ) → n < length xs → IsPlain xs 0 n → get_or xs n 0 ≡ 10 → text_of (take (suc n) xs) ≡ take n xs
unfolding text_of
text_of-newline [] n lt p e = absurd (omega arith)
text_of-newline (x ∷ xs) zero lt p e = rw (eq-eqb x 10 e) refl
text_of-newline (x ∷ xs) (suc n) lt p e = rw (ne_eqb x 10 (p 0 (omega arith) (omega arith)), text_of-newline xs n (omega arith) (IsPlain-tail x xs n p) e) refl

-- an input without a newline is one piece
pub cut-plain : (x : ℕ) (xs : List ℕ) → IsPlain (x ∷ xs) 0 (length (x ∷ xs)) → cut (x ∷ xs) ≡ (x ∷ xs) ∷ []
unfolding cut
cut-plain x [] p = rw (ne_eqb x 10 (p 0 (omega arith) (omega arith))) refl
cut-plain x (y ∷ xs) p = rw (ne_eqb x 10 (p 0 (omega arith) (omega arith)), cut-plain y xs (IsPlain-tail x (y ∷ xs) (length (y ∷ xs)) p)) refl

pub text_of-plain : (xs : List ℕ) → IsPlain xs 0 (length xs) → text_of xs ≡ xs
unfolding text_of
text_of-plain [] p = refl
text_of-plain (x ∷ xs) p = rw (ne_eqb x 10 (p 0 (omega arith) (omega arith)), text_of-plain xs (IsPlain-tail x xs (length xs) p)) refl

-- an input that begins without a newline has a first piece that begins so
pub record FirstBegins (pieces : List (List ℕ)) (n : ℕ) : Type 0 where
  pub piece : List ℕ
  pub rest : List (List ℕ)
  pub first : pieces ≡ piece ∷ rest
  pub text : n ≤ length (text_of piece)
  pub whole : n ≤ length piece

begins-one : (x : ℕ) (pieces : List (List ℕ)) → x ≢ 10 → FirstBegins (onto_first x pieces) 1
unfolding text_of
begins-one x [] ne = record { piece = x ∷ []; rest = []; first = refl; text = rw (ne_eqb x 10 ne) (omega arith); whole = omega arith }
begins-one x (p ∷ ps) ne = record { piece = x ∷ p; rest = ps; first = refl; text = rw (ne_eqb x 10 ne) (omega arith); whole = omega arith }

begins-more : (x n : ℕ) (pieces : List (List ℕ)) → x ≢ 10 → FirstBegins pieces n → FirstBegins (onto_first x pieces) (suc n)
unfolding text_of
begins-more x n pieces ne f = record {
  piece = x ∷ f.piece;
  rest = f.rest;
  first = ap (onto_first x) f.first;
  text = rw (ne_eqb x 10 ne) (let t = f.text in omega arith);
  whole = let w = f.whole in omega arith;
}

pub cut-begins : (x : ℕ) (xs s : List ℕ) → IsPlain (x ∷ xs) 0 (length (x ∷ xs)) → FirstBegins (cut ((x ∷ xs) ++ s)) (length (x ∷ xs))
unfolding cut
cut-begins x [] s p = rw (ne_eqb x 10 (p 0 (omega arith) (omega arith))) (begins-one x (cut s) (p 0 (omega arith) (omega arith)))
cut-begins x (y ∷ ys) s p =
    let ne : x ≢ 10 = p 0 (omega arith) (omega arith) in
    rw (ne_eqb x 10 ne) (begins-more x (length (y ∷ ys)) (cut ((y ∷ ys) ++ s)) ne (cut-begins y ys s (IsPlain-tail x (y ∷ ys) (length (y ∷ ys)) p)))
