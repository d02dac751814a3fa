-- Bytes cut into pieces, and joined again.
-- Laws: `cut_whole`, `cut_short`, `cut-joined`, `cut-sizes`.
use Rattle.std.proofs.Common.{◌≡◌, ℕ, zero, suc, ◌<◌, ◌≤◌, eqb, leb, true, List, [], ◌∷◌, ◌++◌, length, take, drop, refl, ap, sym, ◌∙◌, arith, length-append, append_assoc}
use Rattle.std.specs.List.{list_all, flat_map}
use Rattle.std.proofs.lemmas.Bool.{and_parts, and_from, eqb-true, le-leb}
use Rattle.std.proofs.lemmas.List.{length-drop, length-take, take_at, drop_at, take_all, drop_all, take-append-drop}
use Rattle.keep_files.specs.Layout.{first_pieces, cut}
use Rattle.keep_files.specs.Pieces.{last_piece}

no_pieces : (k n : ℕ) → first_pieces k n [] ≡ []
unfolding first_pieces
no_pieces zero n = refl
no_pieces (suc k) n = refl

-- more pieces than there are bytes aren't needed
enough : (k j n : ℕ) (xs : List ℕ) → 0 < n → length xs ≤ k → length xs ≤ j → first_pieces k n xs ≡ first_pieces j n xs
unfolding first_pieces
enough k j n [] some a b = no_pieces k n ∙ sym (no_pieces j n)
enough zero j n (x ∷ xs) some a b = absurd (omega arith)
enough (suc k) zero n (x ∷ xs) some a b = absurd (omega arith)
enough (suc k) (suc j) n (x ∷ xs) some a b =
    let rest = length-drop n (x ∷ xs) in
    ap (λ ps. take n (x ∷ xs) ∷ ps) (enough k j n (drop n (x ∷ xs)) some (omega arith) (omega arith))

-- a whole piece before others
cut_first : (n : ℕ) (p rest : List ℕ) → 0 < n → length p ≡ n → cut n (p ++ rest) ≡ p ∷ cut n rest
unfolding first_pieces cut
cut_first n [] rest some long = absurd (omega arith)
cut_first n (x ∷ p) rest some long =
    let most = length (p ++ rest) in
    let long_enough = length-append p rest in
    ap (λ t. t ∷ first_pieces most n (drop n ((x ∷ p) ++ rest))) (take_at (x ∷ p) rest n long)
    ∙ ap (λ t. (x ∷ p) ∷ first_pieces most n t) (drop_at (x ∷ p) rest n long)
    ∙ ap (λ ps. (x ∷ p) ∷ ps) (enough most (length rest) n rest some (omega arith) (omega arith))

-- whole pieces before other bytes
pub cut_whole : (n : ℕ) (ps : List (List ℕ)) (rest : List ℕ) → 0 < n → list_all (λ p. eqb (length p) n) ps ≡ true → cut n (flat_map (λ p. p) ps ++ rest) ≡ ps ++ cut n rest
cut_whole n [] rest some full = refl
cut_whole n (p ∷ ps) rest some full =
    let parts = and_parts (eqb (length p) n) (list_all (λ p. eqb (length p) n) ps) full in
    ap (cut n) (append_assoc p (flat_map (λ p. p) ps) rest)
    ∙ cut_first n p (flat_map (λ p. p) ps ++ rest) some (eqb-true (length p) n parts.0)
    ∙ ap (λ qs. p ∷ qs) (cut_whole n ps rest some parts.1)

-- fewer bytes than a piece has
pub cut_short : (n : ℕ) (xs : List ℕ) → length xs < n → cut n xs ≡ last_piece xs
unfolding first_pieces cut
cut_short n [] less = refl
cut_short n (x ∷ xs) less =
    ap (λ t. t ∷ first_pieces (length xs) n (drop n (x ∷ xs))) (take_all n (x ∷ xs) (omega arith))
    ∙ ap (λ t. (x ∷ xs) ∷ first_pieces (length xs) n t) (drop_all n (x ∷ xs) (omega arith))
    ∙ ap (λ ps. (x ∷ xs) ∷ ps) (no_pieces (length xs) n)

pieces-joined : (k n : ℕ) (xs : List ℕ) → 0 < n → length xs ≤ k → flat_map (λ p. p) (first_pieces k n xs) ≡ xs
unfolding first_pieces
pieces-joined k n [] some most = ap (flat_map (λ p. p)) (no_pieces k n)
pieces-joined zero n (x ∷ xs) some most = absurd (omega arith)
pieces-joined (suc k) n (x ∷ xs) some most =
    let rest = length-drop n (x ∷ xs) in
    ap (λ ys. take n (x ∷ xs) ++ ys) (pieces-joined k n (drop n (x ∷ xs)) some (omega arith)) ∙ take-append-drop n (x ∷ xs)

pub cut-joined : (n : ℕ) (xs : List ℕ) → 0 < n → flat_map (λ p. p) (cut n xs) ≡ xs
unfolding cut
cut-joined n xs some = pieces-joined (length xs) n xs some (omega arith)

pieces-sizes : (k n : ℕ) (xs : List ℕ) → list_all (λ p. leb (length p) n) (first_pieces k n xs) ≡ true
unfolding first_pieces
pieces-sizes k n [] = ap (list_all (λ p. leb (length p) n)) (no_pieces k n)
pieces-sizes zero n (x ∷ xs) = refl
pieces-sizes (suc k) n (x ∷ xs) =
    let long = length-take n (x ∷ xs) in
    and_from (leb (length (take n (x ∷ xs))) n) (list_all (λ p. leb (length p) n) (first_pieces k n (drop n (x ∷ xs)))) (le-leb (length (take n (x ∷ xs))) n (omega arith)) (pieces-sizes k n (drop n (x ∷ xs)))

-- no piece has more bytes
pub cut-sizes : (n : ℕ) (xs : List ℕ) → list_all (λ p. leb (length p) n) (cut n xs) ≡ true
unfolding cut
cut-sizes n xs = pieces-sizes (length xs) n xs
