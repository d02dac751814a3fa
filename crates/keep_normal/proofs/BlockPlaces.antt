-- Where the blocks of a stream lie.
-- Laws: `length-placed`, `placed-at`, `block_at`, `at_any`, `all_at`, `all_read`.
use Rattle.std.proofs.Common.{◌≡◌, ℕ, zero, suc, ◌+◌, ◌<◌, Bool, true, List, [], ◌∷◌, length, take, get_or, refl, ap, sym, ◌∙◌, arith, add-zero, zero-add}
use Rattle.std.proofs.lemmas.List.Sums.{sum_by-cons}
use Rattle.std.proofs.lemmas.Bool.{and_parts}
use Rattle.std.specs.List.{list_all}
use Rattle.keep_spec.specs.Locator.{size}
use Rattle.keep_spec.specs.Manifest.{total_size}
use Rattle.keep_normal.specs.declared.block.Block.{Block}
use Rattle.keep_normal.specs.Placed.{placed}

pub length-placed : (start : ℕ) (locators : List (List ℕ)) → length (placed start locators) ≡ length locators
length-placed start [] = refl
length-placed start (l ∷ ls) = ap (λ n. suc n) (length-placed (start + size l) ls)

-- the place of a block, whose locator is l
abbrev pub place_from : ℕ → List ℕ → Block
place_from start l = record { start = start; end = start + size l }

pub placed-at : (i start : ℕ) (locators : List (List ℕ)) (d : Block) → i < length locators → get_or (placed start locators) i d ≡ place_from (start + total_size (take i locators)) (get_or locators i [])
placed-at i start [] d h = absurd (omega arith)
placed-at zero start (l ∷ ls) d h = ap (λ n. place_from n l) (sym (add-zero start))
placed-at (suc i) start (l ∷ ls) d h =
    let total : total_size (take (suc i) (l ∷ ls)) ≡ size l + total_size (take i ls) = sum_by-cons size l (take i ls) in
    let place : start + size l + total_size (take i ls) ≡ start + total_size (take (suc i) (l ∷ ls)) = omega arith in
    placed-at i (start + size l) ls d (omega arith) ∙ ap (λ n. place_from n (get_or ls i [])) place

-- a place among those that begin at 0
pub block_at : (blocks : List Block) (locators : List (List ℕ)) (i : ℕ) (d : Block) → blocks ≡ placed 0 locators → i < length blocks
    → (i < length locators) × (get_or blocks i d ≡ place_from (total_size (take i locators)) (get_or locators i []))
block_at blocks locators i d is h =
    let long = ap length is ∙ length-placed 0 locators in
    let inside : i < length locators = omega (arith, long) in
    (inside, ap (λ bs. get_or bs i d) is ∙ placed-at i 0 locators d inside ∙ ap (λ n. place_from n (get_or locators i [])) (zero-add (total_size (take i locators))))

-- an element within a list is the same whatever stands past its end
pub at_any : {X : Type 0} (xs : List X) (i : ℕ) (d e : X) → i < length xs → get_or xs i d ≡ get_or xs i e
at_any [] i d e h = absurd (omega arith)
at_any (x ∷ xs) zero d e h = refl
at_any (x ∷ xs) (suc i) d e h = at_any xs i d e (omega arith)

-- what holds of each element holds of the one at a place
pub all_at : {X : Type 0} (p : X → Bool) (xs : List X) (i : ℕ) (d : X) → list_all p xs ≡ true → i < length xs → p (get_or xs i d) ≡ true
all_at p [] i d h l = absurd (omega arith)
all_at p (x ∷ xs) zero d h l = (and_parts (p x) (list_all p xs) h).0
all_at p (x ∷ xs) (suc i) d h l = all_at p xs i d (and_parts (p x) (list_all p xs) h).1 (omega arith)

pub all_read : {X : Type 0} (p : X → Bool) (xs : List X) (i : ℕ) (x : X) → list_all p xs ≡ true → i < length xs → x ≡ get_or xs i x → p x ≡ true
all_read p xs i x h l e = ap p e ∙ all_at p xs i x h l
