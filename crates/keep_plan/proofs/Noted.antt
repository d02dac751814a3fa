-- What the mentions of a digest say, one mention more.
use Rattle.std.proofs.Common.{◌≡◌, ◌+◌, ℕ, List, [], ◌∷◌, ◌++◌, map, Bool, true, false, refl, sym, ap, ◌∙◌, arith, Option, None, Some, nat_eq, if◌then◌else◌}
use Rattle.std.specs.Prelude.{max, filter_map}
use Rattle.std.specs.List.{last_or, cons_option}
use Rattle.std.specs.Option.{option_or}
use Rattle.std.proofs.lemmas.Bool.{eqb-true, eq-eqb}
use Rattle.std.proofs.lemmas.List.Elements.{filter_map-append}
use Rattle.keep_spec.specs.Members.{numbers_from}
use Rattle.keep_event.specs.declared.lists.Entry.{Entry}
use Rattle.keep_plan.specs.declared.mentions.Mention.{Mention}
use Rattle.keep_plan.specs.declared.mentions.Place.{Place}
use Rattle.keep_plan.specs.declared.mentions.Place.TheVariants.{Held, Wanted}
use Rattle.keep_plan.specs.Mentions.{entry_at, last_entry, want_at, greatest_want, put}
use Rattle.keep_plan.proofs.Numbers.{set-numbers, map-numbers}

-- the last of two lists
last-both : {X : Type 0} (o : Option X) (xs ys : List X) → last_or o (xs ++ ys) ≡ last_or (last_or o xs) ys
last-both o [] ys = refl
last-both o (x ∷ xs) ys = last-both (Some x) xs ys

last-default : {X : Type 0} (o : Option X) (ys : List X) → last_or o ys ≡ option_or (last_or None ys) o
last-default o [] = refl
last-default o (y ∷ ys) = last-default (Some y) ys ∙ given (last_or None ys) y o ∙ ap (λ v. option_or v o) (sym (last-default (Some y) ys))
  where
    given : {X : Type 0} (v : Option X) (y : X) (o : Option X) → option_or v (Some y) ≡ option_or (option_or v (Some y)) o
    given None y o = refl
    given (Some x) y o = refl

pub last-append : {X : Type 0} (xs ys : List X) → last_or None (xs ++ ys) ≡ option_or (last_or None ys) (last_or None xs)
last-append xs ys = last-both None xs ys ∙ last-default (last_or None xs) ys

abbrev pub entry_of_mention : ℕ → Mention → Option Entry
entry_of_mention d m = entry_at d m.digest m.place

pub last_entry-append : (d : ℕ) (xs ys : List Mention) → last_entry d (xs ++ ys) ≡ option_or (last_entry d ys) (last_entry d xs)
last_entry-append d xs ys = ap (last_or None) (filter_map-append (entry_of_mention d) xs ys) ∙ last-append (filter_map (entry_of_mention d) xs) (filter_map (entry_of_mention d) ys)

single : {X : Type 0} (o : Option X) → last_or None (cons_option o []) ≡ o
single None = refl
single (Some x) = refl

pub last_entry-more : (d : ℕ) (ms : List Mention) (m : Mention) → last_entry d (ms ++ m ∷ []) ≡ option_or (entry_at d m.digest m.place) (last_entry d ms)
last_entry-more d ms m = last_entry-append d ms (m ∷ []) ∙ ap (λ o. option_or o (last_entry d ms)) (single (entry_at d m.digest m.place))

entry-here : (device d : ℕ) (e : Entry) (o : Option Entry) (b : Bool) → nat_eq device d ≡ b → (device ≡ d → ⊥) → option_or (if b then Some e else None) o ≡ o
entry-here device d e o true is ne = absurd (ne (eqb-true device d is))
entry-here device d e o false is ne = refl

entry-this : (device : ℕ) (e : Entry) (o : Option Entry) → option_or (if nat_eq device device then Some e else None) o ≡ Some e
entry-this device e o = ap (λ b. option_or (if b then Some e else None) o) (eq-eqb device device refl)

put-place : (h : List ℕ) (p : Place) (n : ℕ) (f : ℕ → Option Entry) → put h p (map f (numbers_from 0 n)) ≡ map (λ d. option_or (entry_at d h p) (f d)) (numbers_from 0 n)
put-place h (Held device size mtime) n f =
    let e : Entry = record { digest = h; size = size; mtime = mtime } in
    let at : 0 + device ≡ device = omega arith in
    set-numbers f (λ d. option_or (entry_at d h (Held device size mtime)) (f d)) 0 n device (Some e)
    (ap (λ d. option_or (entry_at d h (Held device size mtime)) (f d)) at ∙ entry-this device e (f device))
    (λ x ne. entry-here device x e (f x) (nat_eq device x) refl (λ same. ne (sym same ∙ sym at)))
put-place h (Wanted want) n f = refl

pub put-more : (n : ℕ) (ms : List Mention) (m : Mention) → put m.digest m.place (map (λ d. last_entry d ms) (numbers_from 0 n)) ≡ map (λ d. last_entry d (ms ++ m ∷ [])) (numbers_from 0 n)
put-more n ms m = put-place m.digest m.place n (λ d. last_entry d ms) ∙ map-numbers (λ d. option_or (entry_at d m.digest m.place) (last_entry d ms)) (λ d. last_entry d (ms ++ m ∷ [])) 0 n (λ d low high. sym (last_entry-more d ms m))

pub greatest-append : (xs ys : List Mention) → greatest_want (xs ++ ys) ≡ max (greatest_want xs) (greatest_want ys)
greatest-append [] ys = omega arith
greatest-append (x ∷ xs) ys = let rest = greatest-append xs ys in omega arith

pub greatest-more : (ms : List Mention) (m : Mention) → max (want_at m.place) (greatest_want ms) ≡ greatest_want (ms ++ m ∷ [])
greatest-more ms m = let both = greatest-append ms (m ∷ []) in omega arith

pub none-noted : (n : ℕ) → map (λ d. last_entry d []) (numbers_from 0 n) ≡ map (λ (d : ℕ). None) (numbers_from 0 n)
none-noted n = refl
