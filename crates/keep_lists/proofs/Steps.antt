-- Reading the items of an array one after another.
use Rattle.std.proofs.Common.{◌≡◌, ◌+◌, ◌<◌, ℕ, List, [], ◌∷◌, ◌++◌, drop, length, get_or, Option, None, Some, Result, Ok, Err, refl, sym, ◌∙◌, ap, arith, append_assoc}
use Rattle.std.specs.Option.{option_map_or}
use Rattle.std.proofs.lemmas.List.{at_drop_more}
use Rattle.serde_json.specs.Data.{Data, item}
use Rattle.serde_json.specs.View.{view, items_view}
use Rattle.serde_json.specs.declared.value.Value.{Value}
use Rattle.keep_spec.specs.Json.{items_length}
use Rattle.keep_spec.specs.Results.{◌>>=◌}
use Rattle.keep_event.specs.Lists.{each_from}

-- the items so far, and then those of the values that are left
abbrev pub with_items : {X : Type 0} → List X → Result (List X) ℕ → Result (List X) ℕ
with_items xs r = r >>= λ rest. Ok (xs ++ rest)

then-one : {X : Type 0} (xs : List X) (x : X) (r : Result (List X) ℕ) → with_items xs (r >>= λ rest. Ok (x ∷ rest)) ≡ with_items (xs ++ x ∷ []) r
then-one xs x (Ok rest) = ap Ok (sym (append_assoc xs (x ∷ []) rest))
then-one xs x (Err n) = refl

next-items : (vs : List Value) (i : ℕ) (d : Value) → i < length vs → items_view (drop i vs) ≡ item (view (get_or vs i d)) (items_view (drop (i + 1) vs))
next-items vs i d lt = at_drop_more items_view vs i d lt

module _ {X : Type 0} (f : Data → Option X) (vs : List Value) (i : ℕ) (d : Value) (lt : i < length vs) where
  -- a value that is read
  pub read-one : (n : ℕ) (xs : List X) (x : X) → f (view (get_or vs i d)) ≡ Some x → with_items xs (each_from n f (items_view (drop i vs))) ≡ with_items (xs ++ x ∷ []) (each_from (n + 1) f (items_view (drop (i + 1) vs)))
  read-one n xs x e =
      ap (λ v. with_items xs (each_from n f v)) (next-items vs i d lt)
      ∙ ap (λ o. with_items xs (option_map_or (λ y. each_from (n + 1) f (items_view (drop (i + 1) vs)) >>= λ rest. Ok (y ∷ rest)) o (Err n))) e
      ∙ then-one xs x (each_from (n + 1) f (items_view (drop (i + 1) vs)))

  -- a value that isn't in the form
  pub read-none : (n : ℕ) (xs : List X) → f (view (get_or vs i d)) ≡ None → with_items xs (each_from n f (items_view (drop i vs))) ≡ Err n
  read-none n xs e =
      ap (λ v. with_items xs (each_from n f v)) (next-items vs i d lt)
      ∙ ap (λ o. with_items xs (option_map_or (λ y. each_from (n + 1) f (items_view (drop (i + 1) vs)) >>= λ rest. Ok (y ∷ rest)) o (Err n))) e

pub items_length_view : (vs : List Value) → items_length (items_view vs) ≡ length vs
items_length_view [] = refl
items_length_view (v ∷ vs) = omega (arith, items_length_view vs)
