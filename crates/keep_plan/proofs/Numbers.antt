-- Lists made from the first numbers.
use Rattle.std.proofs.Common.{◌≡◌, ◌≤◌, ◌<◌, ◌+◌, ℕ, zero, suc, List, [], ◌∷◌, ◌++◌, map, length, slice_index_or, get_or, take, drop, refl, sym, ap, ◌∙◌, subst, arith}
use Rattle.std.proofs.Math.ListN.{set, replicate}
use Rattle.keep_spec.specs.Members.{numbers_from}
use Rattle.keep_plan.specs.Drafted.{each_from}

both : {X : Type 0} (x y : X) (xs ys : List X) → x ≡ y → xs ≡ ys → x ∷ xs ≡ y ∷ ys
both x y xs ys e h = ap (λ v. v ∷ xs) e ∙ ap (λ l. y ∷ l) h

pub map-numbers : {X : Type 0} (f g : ℕ → X) (k n : ℕ) → ((x : ℕ) → k ≤ x → x < k + n → f x ≡ g x) → map f (numbers_from k n) ≡ map g (numbers_from k n)
map-numbers f g k zero same = refl
map-numbers f g k (suc n) same = both (f k) (g k) (map f (numbers_from (k + 1) n)) (map g (numbers_from (k + 1) n)) (same k (omega arith) (omega arith)) (map-numbers f g (k + 1) n (λ x low high. same x (omega arith) (omega arith)))

-- one of them is replaced
pub set-numbers : {X : Type 0} (f g : ℕ → X) (k n i : ℕ) (v : X) → g (k + i) ≡ v → ((x : ℕ) → (x ≡ k + i → ⊥) → g x ≡ f x) → set (map f (numbers_from k n)) i v ≡ map g (numbers_from k n)
set-numbers f g k zero i v at other = refl
set-numbers f g k (suc n) zero v at other =
    let same : k + 0 ≡ k = omega arith in
    both v (g k) (map f (numbers_from (k + 1) n)) (map g (numbers_from (k + 1) n)) (sym at ∙ ap g same) (map-numbers f g (k + 1) n (λ x low high. sym (other x (λ e. omega arith))))
set-numbers f g k (suc n) (suc i) v at other =
    let same : k + suc i ≡ (k + 1) + i = omega arith in
    both (f k) (g k) (set (map f (numbers_from (k + 1) n)) i v) (map g (numbers_from (k + 1) n)) (sym (other k (λ e. omega arith)))
    (set-numbers f g (k + 1) n i v (ap g (sym same) ∙ at) (λ x ne. other x (λ e. ne (e ∙ same))))

pub at-number : {X : Type 0} (f : ℕ → X) (k n i : ℕ) (d : X) → i < n → slice_index_or (map f (numbers_from k n)) i d ≡ f (k + i)
at-number f k zero i d lt = absurd (omega arith)
at-number f k (suc n) zero d lt = let same : k ≡ k + 0 = omega arith in ap f same
at-number f k (suc n) (suc i) d lt = let same : (k + 1) + i ≡ k + suc i = omega arith in at-number f (k + 1) n i d (omega arith) ∙ ap f same

pub one-more : (k n : ℕ) → numbers_from k (n + 1) ≡ numbers_from k n ++ (k + n) ∷ []
one-more k n = subst (λ m. numbers_from k m ≡ numbers_from k n ++ (k + n) ∷ []) (let e : suc n ≡ n + 1 = omega arith in e) (more k n)
  where
    more : (k n : ℕ) → numbers_from k (suc n) ≡ numbers_from k n ++ (k + n) ∷ []
    more k zero = let same : k ≡ k + 0 = omega arith in ap (λ v. v ∷ []) same
    more k (suc n) = let same : (k + 1) + n ≡ k + suc n = omega arith in ap (λ l. k ∷ l) (more (k + 1) n) ∙ ap (λ v. k ∷ (numbers_from (k + 1) n ++ v ∷ [])) same

pub each-number : {X : Type 0} (f : ℕ → X → X) (g : ℕ → X) (k n : ℕ) → each_from k f (map g (numbers_from k n)) ≡ map (λ d. f d (g d)) (numbers_from k n)
each-number f g k zero = refl
each-number f g k (suc n) = ap (λ l. f k (g k) ∷ l) (each-number f g (k + 1) n)

pub each-same : {X : Type 0} (f g : ℕ → X → X) (k : ℕ) (xs : List X) → ((d : ℕ) (x : X) → k ≤ d → d < k + length xs → f d x ≡ g d x) → each_from k f xs ≡ each_from k g xs
each-same f g k [] same = refl
each-same f g k (x ∷ xs) same = both (f k x) (g k x) (each_from (k + 1) f xs) (each_from (k + 1) g xs) (same k x (omega arith) (omega arith)) (each-same f g (k + 1) xs (λ d y low high. same d y (omega arith) (omega arith)))

pub alike : {X : Type 0} (x : X) (k n : ℕ) → replicate n x ≡ map (λ (d : ℕ). x) (numbers_from k n)
alike x k zero = refl
alike x k (suc n) = ap (λ l. x ∷ l) (alike x (k + 1) n)

-- one place more
set-each : {X : Type 0} (f : ℕ → X → X) (k i : ℕ) (xs : List X) (d : X) → i < length xs →
    set (each_from k f (take i xs) ++ drop i xs) i (f (k + i) (get_or (each_from k f (take i xs) ++ drop i xs) i d)) ≡ each_from k f (take (suc i) xs) ++ drop (suc i) xs
set-each f k i [] d lt = absurd (omega arith)
set-each f k zero (x ∷ xs) d lt = let z : k + 0 ≡ k = omega arith in ap (λ v. f v x ∷ xs) z
set-each f k (suc i) (x ∷ xs) d lt =
    let z : k + suc i ≡ (k + 1) + i = omega arith in
    ap (λ v. f k x ∷ set (each_from (k + 1) f (take i xs) ++ drop i xs) i (f v (get_or (each_from (k + 1) f (take i xs) ++ drop i xs) i d))) z
    ∙ ap (λ l. f k x ∷ l) (set-each f (k + 1) i xs d (omega arith))

pub each-more : {X : Type 0} (f : ℕ → X → X) (i : ℕ) (xs ys : List X) (x y : X) → i < length xs → ys ≡ each_from 0 f (take i xs) ++ drop i xs → x ≡ get_or ys i x → y ≡ f i x → set ys i y ≡ each_from 0 f (take (i + 1) xs) ++ drop (i + 1) xs
each-more f i xs ys x y lt are at is =
    let z : i ≡ 0 + i = omega arith in
    let s : suc i ≡ i + 1 = omega arith in
    ap (set ys i) (is ∙ ap (f i) at)
    ∙ ap (λ l. set l i (f i (get_or l i x))) are
    ∙ ap (λ v. set (each_from 0 f (take i xs) ++ drop i xs) i (f v (get_or (each_from 0 f (take i xs) ++ drop i xs) i x))) z
    ∙ set-each f 0 i xs x lt
    ∙ ap (λ v. each_from 0 f (take v xs) ++ drop v xs) s
