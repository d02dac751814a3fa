-- A list cut at a name, from the place that a search finds; what a change at that place makes of the list.
use Rattle.std.proofs.Common.{◌≡◌, ℕ, zero, suc, ◌+◌, ◌<◌, ◌≤◌, List, [], ◌∷◌, ◌++◌, length, map, take, drop, get_or, None, Some, refl, sym, ◌∙◌, ap, arith, append-nil, add-one, Option, Result, Ok, Err, option_map, inl, inr}
use Rattle.std.specs.List.{AllByRecursion, insert, remove, slice_set}
use Rattle.std.specs.List.Sorted.{IsSearchInRange, IsBinarySearchResult}
use Rattle.std.specs.declared.cmp.Ordering.{Ordering}
use Rattle.std.specs.declared.cmp.Ordering.TheVariants.{Less, Equal, Greater}
use Rattle.std.specs.Ordering.{match_ordering}
use Rattle.std.proofs.lemmas.Bool.{cases_lt}
use Rattle.std.proofs.lemmas.List.{at_drop_more, set_split}
use Rattle.std.proofs.lemmas.Option.{slice_get_read}
use Rattle.keep_volume.specs.Places.{IsPlace}
use Rattle.keep_event.specs.Store.{Cut, cut, onto, name_cmp, find, put, without, change, IsAscending}
use Rattle.keep_event.specs.declared.names.Name.{Name}
use Rattle.keep_store.proofs.Cuts.{step}
use Rattle.keep_store.proofs.Order.{flip, past-equal, ascending-at, comparisons-rise}

-- the element at a place, whatever the default is
pub element : {A : Type 0} (xs : List A) (i : ℕ) → i < length xs → (x : A) × ((d : A) → get_or xs i d ≡ x)
element [] i lt = absurd (omega arith)
element (x ∷ xs) zero lt = (x, λ d. refl)
element (x ∷ xs) (suc i) lt = element xs i (omega arith)

module _ {X : Type 0} (n : Name) where
  -- entries below the name are passed
  pub cut-past : (es : List (Name × X)) (i : ℕ) → i ≤ length es → ((j : ℕ) (d : Name × X) → j < i → name_cmp n (get_or es j d).0 ≡ Greater) → cut n es ≡ onto (take i es) (cut n (drop i es))
  cut-past es zero le below = refl
  cut-past [] (suc i) le below = absurd (omega arith)
  cut-past (e ∷ es) (suc i) le below = step n e es Greater (below 0 e (omega arith)) ∙ ap (onto (e ∷ [])) (cut-past es i (omega arith) (λ j d lt. below (suc j) d (omega arith)))

  -- at the i-th entry
  at_x : (es : List (Name × X)) (i : ℕ) (x : Name × X) (r : Ordering) → i < length es → x ≡ get_or es i x → name_cmp n x.0 ≡ r → cut n (drop i es) ≡ match_ordering r (record { front = []; at = None; back = x ∷ drop (i + 1) es }) (record { front = []; at = Some x; back = drop (i + 1) es }) (onto (x ∷ []) (cut n (drop (i + 1) es)))
  at_x es i x r lt is h = at_drop_more (cut n) es i x lt ∙ ap (λ y. cut n (y ∷ drop (i + 1) es)) (sym is) ∙ step n x (drop (i + 1) es) r h

  -- what a search finds that has passed the first i entries
  module _ (es : List (Name × X)) (i : ℕ) (whole : cut n es ≡ onto (take i es) (cut n (drop i es))) where
    place-less : (x : Name × X) → i < length es → x ≡ get_or es i x → name_cmp n x.0 ≡ Less → IsPlace es (cut n es) (Err i)
    place-less x lt is h =
        let e : cut n es ≡ record { front = take i es ++ []; at = None; back = x ∷ drop (i + 1) es } = whole ∙ ap (onto (take i es)) (at_x es i x Less lt is h) in
        (omega arith, ap (λ (c : Cut X). c.front) e ∙ append-nil (take i es), ap (λ (c : Cut X). c.at) e, ap (λ (c : Cut X). c.back) e ∙ sym (at_drop_more (λ v. v) es i x lt ∙ ap (λ y. y ∷ drop (i + 1) es) (sym is)))

    place-equal : (x : Name × X) → i < length es → x ≡ get_or es i x → name_cmp n x.0 ≡ Equal → IsPlace es (cut n es) (Ok i)
    place-equal x lt is h =
        let e : cut n es ≡ record { front = take i es ++ []; at = Some x; back = drop (i + 1) es } = whole ∙ ap (onto (take i es)) (at_x es i x Equal lt is h) in
        (lt, ap (λ (c : Cut X). c.front) e ∙ append-nil (take i es), ap (λ (c : Cut X). c.at) e ∙ sym (slice_get_read es _ i x refl lt is), ap (λ (c : Cut X). c.back) e)

    place-end : drop i es ≡ [] → i ≤ length es → IsPlace es (cut n es) (Err i)
    place-end h le =
        let e : cut n es ≡ record { front = take i es ++ []; at = None; back = [] } = whole ∙ ap (λ v. onto (take i es) (cut n v)) h in
        (le, ap (λ (c : Cut X). c.front) e ∙ append-nil (take i es), ap (λ (c : Cut X). c.at) e, ap (λ (c : Cut X). c.back) e ∙ sym h)

  -- a binary search ends at the name, or at the gap for it
  pub searched : (es : List (Name × X)) (r : Result ℕ ℕ) → IsAscending es → IsSearchInRange r (length es) → IsBinarySearchResult (λ e. name_cmp e.0 n) es r → IsPlace es (cut n es) r
  searched es (Ok i) s lt equal =
      let x = element es i lt in
      let here : name_cmp n x.0.0 ≡ Equal = flip x.0.0 n Equal (ap (λ (e : Name × X). name_cmp e.0 n) (sym (x.1 x.0)) ∙ equal x.0) in
      place-equal es i (cut-past es i (omega arith) (λ j d below. past-equal n (get_or es j d).0 x.0.0 (ap (λ (e : Name × X). name_cmp (get_or es j d).0 e.0) (sym (x.1 d)) ∙ ascending-at es j i d below lt s) here)) x.0 lt (sym (x.1 x.0)) here
  searched es (Err i) s le parted =
      let p = parted (comparisons-rise n es s) in
      let whole = cut-past es i le (λ j d below. flip (get_or es j d).0 n Less (p.0 j d (omega arith) below)) in
      elim (cases_lt i (length es)) [
        | inl lt ↦ let x = element es i lt in place-less es i whole x.0 lt (sym (x.1 x.0)) (flip x.0.0 n Greater (ap (λ (e : Name × X). name_cmp e.0 n) (sym (x.1 x.0)) ∙ p.1 i x.0 (omega arith) lt))
        | inr ge ↦ place-end es i whole (no-more es i ge) le
      ]
    where
      no-more : (es : List (Name × X)) (i : ℕ) → length es ≤ i → drop i es ≡ []
      no-more [] zero le = refl
      no-more [] (suc i) le = refl
      no-more (e ∷ es) zero le = absurd (omega arith)
      no-more (e ∷ es) (suc i) le = no-more es i (omega arith)

module _ {X : Type 0} (n : Name) (es : List (Name × X)) (i : ℕ) (is : IsPlace es (cut n es) (Ok i)) where
  pub put-at : (x : X) → put n x es ≡ slice_set es i (n, x)
  put-at x = rw (is.1, is.3, add-one) (sym (set_split es i (n, x) is.0))

  pub find-at : (e : Name × X) → e ≡ get_or es i e → find n es ≡ Some e.1
  find-at e d = ap (option_map (λ (e : Name × X). e.1)) (is.2 ∙ slice_get_read es _ i e refl is.0 d)

  pub without-at : without n es ≡ remove es i
  without-at = rw (is.1, is.3, add-one) refl

  pub change-at : (f : X → X) (e : Name × X) → e ≡ get_or es i e → change f n es (find n es) ≡ slice_set es i (n, f e.1)
  change-at f e d = ap (change f n es) (find-at e d) ∙ put-at (f e.1)

pub put-gap : {X : Type 0} (n : Name) (es : List (Name × X)) (i : ℕ) → IsPlace es (cut n es) (Err i) → (x : X) → put n x es ≡ insert es i (n, x)
put-gap n es i is x = rw (is.1, is.3) refl
