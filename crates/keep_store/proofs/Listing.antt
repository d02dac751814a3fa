-- What a page of names holds.
use Rattle.std.proofs.Common.{◌≡◌, ℕ, zero, suc, ◌-◌, ◌<◌, ◌≤◌, append-nil, take_all, List, [], ◌∷◌, ◌++◌, length, map, take, Option, None, Some, refl, sym, ◌∙◌, ap, arith, append_assoc, length-append}
use Rattle.std.proofs.lemmas.List.{map-append}
use Rattle.std.specs.declared.cmp.Ordering.{Ordering}
use Rattle.std.specs.declared.cmp.Ordering.TheVariants.{Less, Equal, Greater}
use Rattle.std.specs.Ordering.{match_ordering}
use Rattle.std.specs.List.{AllByRecursion}
use Rattle.std.specs.List.Sorted.{IsStrictlySortedBy}
use Rattle.keep_event.specs.Store.{Cut, cut, onto, name_cmp, above, held_of, IsAscending, AreAscending}
use Rattle.keep_event.specs.declared.names.Name.{Name}
use Rattle.keep_event.specs.declared.names.Stored.{Stored}
use Rattle.keep_store.proofs.Order.{tail-ascends, head-below}

pub take-none : {A B : Type 0} (f : A → B) (k : ℕ) (xs : List A) → length xs ≡ 0 → take k (map f xs) ≡ []
take-none f zero xs e = refl
take-none f (suc k) [] e = refl
take-none f (suc k) (x ∷ xs) e = absurd (omega arith)

-- one more is listed
pub take-step : {A : Type 0} (limit : ℕ) (out : List A) (x : A) (xs : List A) → length out < limit → (out ++ x ∷ []) ++ take (limit - length (out ++ x ∷ [])) xs ≡ out ++ take (limit - length out) (x ∷ xs)
take-step limit out x xs lt =
    let more : limit - length out ≡ suc (limit - length (out ++ x ∷ [])) = omega (arith, length-append out (x ∷ [])) in
    append_assoc out (x ∷ []) (take (limit - length (out ++ x ∷ [])) xs) ∙ ap (λ k. out ++ take k (x ∷ xs)) (sym more)

-- what is above a name ascends
above-step : {X : Type 0} (o : Ordering) (e : Name × X) (es : List (Name × X)) (c : Cut X) → IsAscending (e ∷ es) → IsAscending c.back
    → (let d : Cut X = match_ordering o (record { front = []; at = None; back = e ∷ es }) (record { front = []; at = Some e; back = es }) (onto (e ∷ []) c) in IsAscending d.back)
above-step Less e es c s t = s
above-step Equal e es c s t = tail-ascends e es s
above-step Greater e es c s t = t

cut-ascends : {X : Type 0} (n : Name) (es : List (Name × X)) → IsAscending es → IsAscending (cut n es).back
cut-ascends n [] s = s
cut-ascends n (e ∷ es) s = above-step (name_cmp n e.0) e es (cut n es) s (cut-ascends n es (tail-ascends e es s))

above-ascends : {X : Type 0} (after : Option Name) (es : List (Name × X)) → IsAscending es → IsAscending (above after es)
above-ascends None es s = s
above-ascends (Some n) es s = cut-ascends n es s

all-taken : (P : Name → Type 0) (k : ℕ) (es : List (Name × Stored)) → AllByRecursion P (map (λ e. e.0) es) → AllByRecursion P (map (λ h. h.name) (take k (map held_of es)))
all-taken P zero es h = tt
all-taken P (suc k) [] h = tt
all-taken P (suc k) (e ∷ es) h = (h.0, all-taken P k es h.1)

taken-ascends : (k : ℕ) (es : List (Name × Stored)) → IsAscending es → AreAscending (map (λ h. h.name) (take k (map held_of es)))
unfolding IsStrictlySortedBy
taken-ascends zero es s = tt
taken-ascends (suc k) [] s = tt
taken-ascends (suc k) (e ∷ es) s = (all-taken (λ m. name_cmp e.0 m ≡ Less) k es (head-below e es s), taken-ascends k es (tail-ascends e es s))

pub page-ascends : (after : Option Name) (k : ℕ) (es : List (Name × Stored)) → IsAscending es → AreAscending (map (λ h. h.name) (take k (map held_of (above after es))))
page-ascends after k es s = taken-ascends k (above after es) (above-ascends after es s)

-- nothing is left to list
pub all-listed : {A B : Type 0} (f : A → B) (limit : ℕ) (out : List B) (xs : List A) → length out ≤ limit → length xs ≡ 0 → take limit (out ++ map f xs) ≡ out
all-listed f limit out [] few e = ap (take limit) (append-nil out) ∙ take_all limit out few
all-listed f limit out (x ∷ xs) few e = absurd (omega arith)

-- as much is listed as was asked for
pub full-listed : {A : Type 0} (limit : ℕ) (out xs : List A) → length out ≡ limit → take limit (out ++ xs) ≡ out
full-listed limit [] xs e = ap (λ k. take k xs) (sym e)
full-listed zero (y ∷ out) xs e = absurd (omega arith)
full-listed (suc k) (y ∷ out) xs e = ap (λ v. y ∷ v) (full-listed k out xs (omega arith))

-- what is left out is left out of more
pub take-again : {A : Type 0} (k : ℕ) (xs ys : List A) → take k (take k xs ++ ys) ≡ take k (xs ++ ys)
take-again zero xs ys = refl
take-again (suc k) [] ys = refl
take-again (suc k) (x ∷ xs) ys = ap (λ v. x ∷ v) (take-again k xs ys)

-- one bucket more is listed
pub list-step : {A B : Type 0} (f : A → B) (k : ℕ) (out new : List B) (xs ys : List A) → new ≡ take k (out ++ map f xs) → take k (new ++ map f ys) ≡ take k (out ++ map f (xs ++ ys))
list-step f k out new xs ys e =
    ap (λ v. take k (v ++ map f ys)) e ∙ take-again k (out ++ map f xs) (map f ys)
    ∙ ap (take k) (append_assoc out (map f xs) (map f ys) ∙ ap (λ v. out ++ v) (sym (map-append f xs ys)))

pub take-few : {A : Type 0} (k : ℕ) (xs : List A) → length (take k xs) ≤ k
take-few zero xs = omega arith
take-few (suc k) [] = omega arith
take-few (suc k) (x ∷ xs) = let h = take-few k xs in omega (arith, h)

-- one side, an entry and the other side are listed one after the other
pub list-node : {A B : Type 0} (f : A → B) (k : ℕ) (out low own : List B) (xs : List A) (x : A) (ys : List A) → low ≡ take k (out ++ map f xs) → own ≡ take k (low ++ f x ∷ []) → take k (own ++ map f ys) ≡ take k (out ++ map f (xs ++ x ∷ ys))
list-node f k out low own xs x ys d e =
    list-step f k out own (xs ++ x ∷ []) ys (e ∙ list-step f k out low xs (x ∷ []) d)
    ∙ ap (λ v. take k (out ++ map f v)) (append_assoc xs (x ∷ []) ys)
