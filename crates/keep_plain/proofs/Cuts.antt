-- A list cut at a name: a walk that passes entries below it (`cut-on`, `cut-here`, `cut-gap`, `cut-end`), and what a change at the place makes of the list (`find-at`, `put-at`, `without-at`, `change-at`, `put-gap`, `find-gap`, `without-gap`).
use Rattle.std.proofs.Common.{◌≡◌, ℕ, ◌+◌, ◌<◌, ◌≤◌, List, [], ◌∷◌, ◌++◌, length, take, drop, get_or, Option, None, Some, option_map, Ok, Err, refl, sym, ◌∙◌, ap, arith, append-nil, append_assoc, add-one}
use Rattle.std.specs.List.{insert, remove, slice_set}
use Rattle.std.specs.declared.cmp.Ordering.{Ordering}
use Rattle.std.specs.declared.cmp.Ordering.TheVariants.{Less, Equal, Greater}
use Rattle.std.specs.Ordering.{nat_cmp, match_ordering}
use Rattle.std.specs.Option.{option_cmp}
use Rattle.std.specs.Cmp.Lexicographic.{slice_cmp}
use Rattle.std.specs.Prelude.{unwrap_or}
use Rattle.std.proofs.lemmas.Map.Lookups.{exact_bytes, exact_unsigned, exact_pairs}
use Rattle.std.proofs.lemmas.List.{at_drop_more, at_drop_all, set_split, take_more, take-append-drop}
use Rattle.std.proofs.lemmas.Option.{slice_get_read}
use Rattle.keep_event.specs.Store.{Cut, cut, onto, name_cmp, find, put, without, change}
use Rattle.keep_event.specs.declared.names.Name.{Name}
use Rattle.keep_plain.specs.Places.{IsCutAt}

module _ {X : Type 0} (n : Name) where
  step : (e : Name × X) (es : List (Name × X)) (r : Ordering) → name_cmp n e.0 ≡ r → cut n (e ∷ es) ≡ match_ordering r (record { front = []; at = None; back = e ∷ es }) (record { front = []; at = Some e; back = es }) (onto (e ∷ []) (cut n es))
  step e es r h = ap (λ o. match_ordering o (record { front = []; at = None; back = e ∷ es }) (record { front = []; at = Some e; back = es }) (onto (e ∷ []) (cut n es))) h

  module _ (es : List (Name × X)) (i : ℕ) (e : Name × X) (lt : i < length es) (is : e ≡ get_or es i e) where
    rest-is : drop i es ≡ e ∷ drop (i + 1) es
    rest-is = at_drop_more (λ v. v) es i e lt ∙ ap (λ y. y ∷ drop (i + 1) es) (sym is)

    module _ (so_far : cut n es ≡ onto (take i es) (cut n (drop i es))) where
      at-entry : (r : Ordering) → name_cmp n e.0 ≡ r → cut n es ≡ onto (take i es) (match_ordering r (record { front = []; at = None; back = e ∷ drop (i + 1) es }) (record { front = []; at = Some e; back = drop (i + 1) es }) (onto (e ∷ []) (cut n (drop (i + 1) es))))
      at-entry r h = so_far ∙ ap (onto (take i es)) (ap (cut n) rest-is ∙ step e (drop (i + 1) es) r h)

      -- an entry below the name is passed
      pub cut-on : name_cmp n e.0 ≡ Greater → cut n es ≡ onto (take (i + 1) es) (cut n (drop (i + 1) es))
      cut-on h =
          let more : take (i + 1) es ≡ take i es ++ e ∷ [] = take_more es i e lt ∙ ap (λ y. take i es ++ y ∷ []) (sym is) in
          at-entry Greater h
          ∙ ap (λ v. record { front = v; at = (cut n (drop (i + 1) es)).at; back = (cut n (drop (i + 1) es)).back }) (sym (append_assoc (take i es) (e ∷ []) (cut n (drop (i + 1) es)).front))
          ∙ ap (λ v. onto v (cut n (drop (i + 1) es))) (sym more)

      pub cut-here : name_cmp n e.0 ≡ Equal → IsCutAt n es (Ok i)
      cut-here h = (
        lt,
        at-entry Equal h ∙ ap (λ v. record { front = v; at = Some e; back = drop (i + 1) es }) (append-nil (take i es))
            ∙ ap (λ (o : Option (Name × X)). record { front = take i es; at = o; back = drop (i + 1) es }) (sym (slice_get_read es _ i e refl lt is)),
      )

      pub cut-gap : name_cmp n e.0 ≡ Less → IsCutAt n es (Err i)
      cut-gap h = (
        omega (arith, lt),
        at-entry Less h ∙ ap (λ v. record { front = v; at = None; back = e ∷ drop (i + 1) es }) (append-nil (take i es))
            ∙ ap (λ v. record { front = take i es; at = None; back = v }) (sym rest-is),
      )

  pub cut-end : (es : List (Name × X)) (i : ℕ) → cut n es ≡ onto (take i es) (cut n (drop i es)) → length es ≤ i → i ≤ length es → IsCutAt n es (Err i)
  cut-end es i so_far ge le =
      let none : drop i es ≡ [] = at_drop_all (λ v. v) es i ge in
      (le, so_far ∙ ap (λ v. onto (take i es) (cut n v)) none ∙ ap (λ v. record { front = v; at = None; back = [] }) (append-nil (take i es)) ∙ ap (λ v. record { front = take i es; at = None; back = v }) (sym none))

module _ {X : Type 0} (n : Name) (es : List (Name × X)) (i : ℕ) (is : IsCutAt n es (Ok i)) where
  pub put-at : (x : X) → put n x es ≡ slice_set es i (n, x)
  put-at x = rw (is.1, add-one) (sym (set_split es i (n, x) is.0))

  pub find-at : (e : Name × X) → e ≡ get_or es i e → find n es ≡ Some e.1
  find-at e d = ap (λ (c : Cut X). option_map (λ (e : Name × X). e.1) c.at) is.1 ∙ ap (option_map (λ (e : Name × X). e.1)) (slice_get_read es _ i e refl is.0 d)

  pub without-at : without n es ≡ remove es i
  without-at = rw (is.1, add-one) refl

module _ {X : Type 0} (n : Name) (es : List (Name × X)) (i : ℕ) (is : IsCutAt n es (Err i)) where
  pub put-gap : (x : X) → put n x es ≡ insert es i (n, x)
  put-gap x = rw is.1 refl

  pub find-gap : find n es ≡ None
  find-gap = rw is.1 refl

  pub without-gap : without n es ≡ es
  without-gap = rw is.1 (take-append-drop i es)

-- ---- the entry at the place has the name
exact-option : (x y : Option ℕ) → option_cmp nat_cmp x y ≡ Equal → x ≡ y
exact-option None None h = refl
exact-option None (Some y) h = cc h
exact-option (Some x) None h = cc h
exact-option (Some x) (Some y) h = ap Some (exact_unsigned x y h)

pub exact-names : (a b : Name) → name_cmp a b ≡ Equal → a ≡ b
exact-names a b h = ap (λ (p : List ℕ × Option ℕ). record { digest = p.0; deadline = p.1 }) (exact_pairs (slice_cmp nat_cmp) (option_cmp nat_cmp) exact_bytes exact-option (a.digest, a.deadline) (b.digest, b.deadline) h)

named-step : {X : Type 0} (n : Name) (o : Ordering) (e x : Name × X) (es : List (Name × X)) (c : Cut X) → name_cmp n e.0 ≡ o → (c.at ≡ Some x → name_cmp n x.0 ≡ Equal)
    → (match_ordering o (record { front = []; at = None; back = e ∷ es }) (record { front = []; at = Some e; back = es }) (onto (e ∷ []) c)).at ≡ Some x → name_cmp n x.0 ≡ Equal
named-step n Less e x es c h k is = cc is
named-step {X = X} n Equal e x es c h k is = ap (λ (o : Option (Name × X)). name_cmp n (unwrap_or o e).0) (sym is) ∙ h
named-step n Greater e x es c h k is = k is

at-named : {X : Type 0} (n : Name) (es : List (Name × X)) (x : Name × X) → (cut n es).at ≡ Some x → name_cmp n x.0 ≡ Equal
at-named n [] x is = cc is
at-named n (e ∷ es) x is = named-step n (name_cmp n e.0) e x es (cut n es) refl (at-named n es x) is

pub change-at : {X : Type 0} (n : Name) (es : List (Name × X)) (i : ℕ) → IsCutAt n es (Ok i) → (f : X → X) (e : Name × X) → e ≡ get_or es i e → change f n es (find n es) ≡ slice_set es i (e.0, f e.1)
change-at {X = X} n es i is f e d =
    let named : n ≡ e.0 = exact-names n e.0 (at-named n es e (ap (λ (c : Cut X). c.at) is.1 ∙ slice_get_read es _ i e refl is.0 d)) in
    ap (change f n es) (find-at n es i is e d) ∙ put-at n es i is (f e.1) ∙ ap (λ v. slice_set es i (v, f e.1)) named
