-- The bytes of names, when one comes or goes.
use Rattle.std.proofs.Common.{◌≡◌, ℕ, ◌+◌, ◌≤◌, List, [], ◌∷◌, ◌++◌, Option, None, Some, option_map, refl, sym, ◌∙◌, ap, arith, zero-add}
use Rattle.std.specs.Prelude.{sum_by, unwrap_or, option_to_list}
use Rattle.std.proofs.lemmas.List.Sums.{sum_by-append}
use Rattle.std.specs.declared.cmp.Ordering.{Ordering}
use Rattle.std.specs.declared.cmp.Ordering.TheVariants.{Less, Equal, Greater}
use Rattle.std.specs.Ordering.{match_ordering}
use Rattle.keep_event.specs.Store.{Cut, cut, onto, name_cmp, find, put, without, change, with_mtime}
use Rattle.keep_event.specs.declared.names.Name.{Name}
use Rattle.keep_event.specs.declared.names.Metadata.{Metadata}
use Rattle.keep_volume.specs.Index.{total, size_at}

-- a cut list, joined again
abbrev pub joined : {X : Type 0} → Cut X → List (Name × X)
joined c = c.front ++ (option_to_list c.at ++ c.back)

whole-step : {X : Type 0} (o : Ordering) (e : Name × X) (es : List (Name × X)) (c : Cut X) → es ≡ joined c →
    (e ∷ es) ≡ joined (match_ordering o (record { front = []; at = None; back = e ∷ es }) (record { front = []; at = Some e; back = es }) (onto (e ∷ []) c))
whole-step Less e es c h = refl
whole-step Equal e es c h = refl
whole-step Greater e es c h = ap (λ v. e ∷ v) h

pub cut-whole : {X : Type 0} (n : Name) (es : List (Name × X)) → es ≡ joined (cut n es)
cut-whole n [] = refl
cut-whole n (e ∷ es) = whole-step (name_cmp n e.0) e es (cut n es) (cut-whole n es)

pub sum-cons : {X : Type 0} (f : X → ℕ) (e : Name × X) (ys : List (Name × X)) → sum_by (λ e. f e.1) (e ∷ ys) ≡ f e.1 + sum_by (λ e. f e.1) ys
sum-cons f e ys = sum_by-append (λ e. f e.1) (e ∷ []) ys ∙ ap (λ v. v + sum_by (λ e. f e.1) ys) (zero-add (f e.1))

sum-maybe : {X : Type 0} (f : X → ℕ) (o : Option (Name × X)) (ys : List (Name × X)) → sum_by (λ e. f e.1) (option_to_list o ++ ys) ≡ unwrap_or (option_map f (option_map (λ (e : Name × X). e.1) o)) 0 + sum_by (λ e. f e.1) ys
sum-maybe f None ys = sym (zero-add _)
sum-maybe f (Some e) ys = sum-cons f e ys

module _ {X : Type 0} (f : X → ℕ) (n : Name) (es : List (Name × X)) where
  sum-parts : sum_by (λ e. f e.1) es ≡ sum_by (λ e. f e.1) (cut n es).front + (unwrap_or (option_map f (find n es)) 0 + sum_by (λ e. f e.1) (cut n es).back)
  sum-parts = ap (sum_by (λ e. f e.1)) (cut-whole n es) ∙ sum_by-append (λ e. f e.1) (cut n es).front _ ∙ ap (λ v. sum_by (λ e. f e.1) (cut n es).front + v) (sum-maybe f (cut n es).at (cut n es).back)

  pub sum-put : (x : X) → sum_by (λ e. f e.1) (put n x es) + unwrap_or (option_map f (find n es)) 0 ≡ sum_by (λ e. f e.1) es + f x
  sum-put x =
      let p : sum_by (λ e. f e.1) (put n x es) ≡ sum_by (λ e. f e.1) (cut n es).front + (f x + sum_by (λ e. f e.1) (cut n es).back) = sum_by-append (λ e. f e.1) (cut n es).front _ ∙ ap (λ v. sum_by (λ e. f e.1) (cut n es).front + v) (sum-cons f (n, x) (cut n es).back) in
      omega (arith, p, sum-parts)

  pub sum-without : sum_by (λ e. f e.1) (without n es) + unwrap_or (option_map f (find n es)) 0 ≡ sum_by (λ e. f e.1) es
  sum-without =
      let p : sum_by (λ e. f e.1) (without n es) ≡ sum_by (λ e. f e.1) (cut n es).front + sum_by (λ e. f e.1) (cut n es).back = sum_by-append (λ e. f e.1) (cut n es).front _ in
      omega (arith, p, sum-parts)

pub total-put : (n : Name) (x : Metadata) (index : List (Name × Metadata)) → total (put n x index) + size_at n index ≡ total index + x.size
total-put n x index = sum-put (λ (s : Metadata). s.size) n index x

pub total-without : (n : Name) (index : List (Name × Metadata)) → total (without n index) + size_at n index ≡ total index
total-without n index = sum-without (λ (s : Metadata). s.size) n index

-- another time takes no other bytes
change-sum : (n : Name) (m : ℕ) (index : List (Name × Metadata)) (o : Option Metadata) → find n index ≡ o → total (change (with_mtime m) n index o) ≡ total index
change-sum n m index None h = refl
change-sum n m index (Some s) h =
    let p = total-put n (with_mtime m s) index in
    let q : size_at n index ≡ s.size = ap (λ (o : Option Metadata). unwrap_or (option_map (λ (s : Metadata). s.size) o) 0) h in
    omega (arith, p, q)

pub total-change : (n : Name) (m : ℕ) (index : List (Name × Metadata)) → total (change (with_mtime m) n index (find n index)) ≡ total index
total-change n m index = change-sum n m index (find n index) refl

pub size-le : (n : Name) (index : List (Name × Metadata)) → size_at n index ≤ total index
size-le n index = omega (arith, total-without n index)

pub size-found : (n : Name) (index : List (Name × Metadata)) (s : Metadata) → find n index ≡ Some s → size_at n index ≡ s.size
size-found n index s h = ap (λ (o : Option Metadata). unwrap_or (option_map (λ (s : Metadata). s.size) o) 0) h
