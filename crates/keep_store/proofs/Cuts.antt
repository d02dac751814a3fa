-- A list cut at a name: its parts below and above the name, and a name that nothing has.
use Rattle.std.proofs.Common.{◌≡◌, ℕ, zero, suc, ◌+◌, ◌<◌, ◌≤◌, List, [], ◌∷◌, ◌++◌, length, map, take, drop, get_or, None, Some, refl, sym, ◌∙◌, ap, arith, append-nil, add-one, Option, Result, Ok, Err, option_map, inl, inr}
use Rattle.std.specs.List.{AllByRecursion}
use Rattle.std.specs.declared.cmp.Ordering.{Ordering}
use Rattle.std.specs.declared.cmp.Ordering.TheVariants.{Less, Equal, Greater}
use Rattle.std.specs.Ordering.{match_ordering}
use Rattle.keep_event.specs.Store.{Cut, cut, onto, name_cmp, find, put, without, change, IsAscending}
use Rattle.keep_event.specs.declared.names.Name.{Name}
use Rattle.keep_store.proofs.Order.{flip, head-below, tail-ascends}

module _ {X : Type 0} (n : Name) where
  pub step : (e : Name × X) (es : List (Name × X)) (r : Ordering) → name_cmp n e.0 ≡ r → cut n (e ∷ es) ≡ match_ordering r (record { front = []; at = None; back = e ∷ es }) (record { front = []; at = Some e; back = es }) (onto (e ∷ []) (cut n es))
  step e es r h = ap (λ o. match_ordering o (record { front = []; at = None; back = e ∷ es }) (record { front = []; at = Some e; back = es }) (onto (e ∷ []) (cut n es))) h

-- ---- a list in three parts, of which the first is below a name and the last above it
abbrev pub within : {X : Type 0} → List (Name × X) → Cut X → List (Name × X) → Cut X
within xs c zs = record { front = xs ++ c.front; at = c.at; back = c.back ++ zs }

pub cut-below : {X : Type 0} (n : Name) (xs zs : List (Name × X)) → AllByRecursion (λ m. name_cmp n m ≡ Greater) (map (λ e. e.0) xs) → cut n (xs ++ zs) ≡ onto xs (cut n zs)
cut-below n [] zs h = refl
cut-below n (x ∷ xs) zs h = step n x (xs ++ zs) Greater h.0 ∙ ap (onto (x ∷ [])) (cut-below n xs zs h.1)

cut-above-step : {X : Type 0} (o : Ordering) (y : Name × X) (ys zs : List (Name × X)) (c d : Cut X) → d ≡ within [] c zs
    → match_ordering o (record { front = []; at = None; back = y ∷ (ys ++ zs) }) (record { front = []; at = Some y; back = ys ++ zs }) (onto (y ∷ []) d)
    ≡ within [] (match_ordering o (record { front = []; at = None; back = y ∷ ys }) (record { front = []; at = Some y; back = ys }) (onto (y ∷ []) c)) zs
cut-above-step Less y ys zs c d e = refl
cut-above-step Equal y ys zs c d e = refl
cut-above-step Greater y ys zs c d e = ap (onto (y ∷ [])) e

pub cut-above : {X : Type 0} (n : Name) (ys zs : List (Name × X)) → AllByRecursion (λ m. name_cmp n m ≡ Less) (map (λ e. e.0) zs) → cut n (ys ++ zs) ≡ within [] (cut n ys) zs
cut-above n [] [] h = refl
cut-above n [] (z ∷ zs) h = step n z zs Less h.0
cut-above n (y ∷ ys) zs h = cut-above-step (name_cmp n y.0) y ys zs (cut n ys) (cut n (ys ++ zs)) (cut-above n ys zs h)

-- nothing has the name, so nothing goes
cut-absent : {X : Type 0} (o : Ordering) (e : Name × X) (es : List (Name × X)) (c : Cut X) → (c.at ≡ None → c.front ++ c.back ≡ es)
    → (let d : Cut X = match_ordering o (record { front = []; at = None; back = e ∷ es }) (record { front = []; at = Some e; back = es }) (onto (e ∷ []) c) in d.at ≡ None → d.front ++ d.back ≡ e ∷ es)
cut-absent Less e es c h none = refl
cut-absent Equal e es c h none = cc none
cut-absent Greater e es c h none = ap (λ v. e ∷ v) (h none)

cut-without : {X : Type 0} (n : Name) (es : List (Name × X)) → (cut n es).at ≡ None → without n es ≡ es
cut-without n [] none = refl
cut-without n (e ∷ es) none = cut-absent (name_cmp n e.0) e es (cut n es) (cut-without n es) none

no-map : {A B : Type 0} (f : A → B) (o : Option A) → option_map f o ≡ None → o ≡ None
no-map f None e = refl
no-map f (Some x) e = cc e

pub without-absent : {X : Type 0} (n : Name) (es : List (Name × X)) → find n es ≡ None → without n es ≡ es
without-absent {X = X} n es none = cut-without n es (no-map (λ (e : Name × X). e.1) (cut n es).at none)

-- a name above all others goes behind them
all-mid : {X : Type 0} (P : Name → Type 0) (es ys : List (Name × X)) (n : Name) (x : X) → AllByRecursion P (map (λ e. e.0) (es ++ (n, x) ∷ ys)) → P n
all-mid P [] ys n x h = h.0
all-mid P (e ∷ es) ys n x h = all-mid P es ys n x h.1

pub put-next : {X : Type 0} (es ys : List (Name × X)) (n : Name) (x : X) → IsAscending (es ++ (n, x) ∷ ys) → put n x es ≡ es ++ (n, x) ∷ []
put-next [] ys n x s = refl
put-next {X = X} (e ∷ es) ys n x s =
    let below : name_cmp e.0 n ≡ Less = all-mid (λ m. name_cmp e.0 m ≡ Less) es ys n x (head-below e (es ++ (n, x) ∷ ys) s) in
    ap (λ (c : Cut X). c.front ++ (n, x) ∷ c.back) (step n e es Greater (flip e.0 n Less below)) ∙ ap (λ v. e ∷ v) (put-next es ys n x (tail-ascends e (es ++ (n, x) ∷ ys) s))
