-- The first numbers, one more at a time: `numbers-next`, `filter_next`.
use Rattle.std.proofs.Common.{◌≡◌, ◌+◌, ℕ, zero, suc, List, [], ◌∷◌, ◌++◌, filter, cond, Bool, true, false, refl, ◌∙◌, ap, arith}
use Rattle.keep_spec.specs.Members.{numbers_from}

pub numbers-next : (k n m : ℕ) → m ≡ k + n → numbers_from k (suc n) ≡ numbers_from k n ++ m ∷ []
numbers-next k zero m e = ap (λ v. v ∷ []) (omega arith)
numbers-next k (suc n) m e = ap (λ v. k ∷ v) (numbers-next (k + 1) n m (omega arith))

filter-push : {X : Type 0} (p : X → Bool) (xs : List X) (x : X) → filter p (xs ++ x ∷ []) ≡ filter p xs ++ cond (p x) (x ∷ []) []
filter-push p [] x = refl
filter-push p (y ∷ ys) x = by (p y) (filter-push p ys x)
  where
    by : (b : Bool) → filter p (ys ++ x ∷ []) ≡ filter p ys ++ cond (p x) (x ∷ []) [] → cond b (y ∷ filter p (ys ++ x ∷ [])) (filter p (ys ++ x ∷ [])) ≡ cond b (y ∷ filter p ys) (filter p ys) ++ cond (p x) (x ∷ []) []
    by true e = ap (λ v. y ∷ v) e
    by false e = e

pub filter_next : (p : ℕ → Bool) (n m : ℕ) → m ≡ n + 1 → filter p (numbers_from 0 m) ≡ filter p (numbers_from 0 n) ++ cond (p n) (n ∷ []) []
filter_next p n m e = ap (λ k. filter p (numbers_from 0 k)) one ∙ ap (filter p) (numbers-next 0 n n (omega arith)) ∙ filter-push p (numbers_from 0 n) n
  where
    one : m ≡ suc n
    one = omega arith
