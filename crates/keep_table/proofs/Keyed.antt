-- A map whose values each stand under a number of their own, as the list of its values.
use Rattle.std.proofs.Common.{◌≡◌, ◌<◌, ◌≤◌, ◌++◌, ◌&&◌, ℕ, List, [], ◌∷◌, Bool, true, false, cond, not, map, filter, nat_eq, Option, Some, None, refl, ap, sym, ◌∙◌, arith}
use Rattle.std.specs.Prelude.{nat_lt}
use Rattle.std.specs.List.{find, AllByRecursion}
use Rattle.std.specs.Map.{lookup, remove_entry, set_value, values_of}
use Rattle.std.specs.BTreeMap.{is_at, insert_entry}
use Rattle.std.specs.BTreeMap.Range.{range_contains}
use Rattle.std.specs.Ordering.{nat_cmp, is_eq, is_lt}
use Rattle.std.specs.declared.cmp.Ordering.TheVariants.{Greater}
use Rattle.std.specs.declared.ops.Bound.TheVariants.{Excluded, Unbounded}
use Rattle.std.proofs.lemmas.Bool.{ne_eqb, le-ltb, eqb-true}
use Rattle.std.proofs.lemmas.Bool.Decides.{nat_tests}
use Rattle.keep_table.specs.Contents.{RisesAbove}
use Rattle.keep_table.specs.Maps.{keyed}

pub at-eq : (a b : ℕ) → is_eq (nat_cmp a b) ≡ nat_eq b a
at-eq a b = grind (arith, nat_tests)

pub lt-is : (a b : ℕ) → is_lt (nat_cmp a b) ≡ nat_lt a b
lt-is a b = grind (arith, nat_tests)

greater : (a b : ℕ) → b < a → nat_cmp a b ≡ Greater
greater a b h = rw (le-ltb a b (omega arith), ne_eqb a b (λ e. omega arith)) refl

pub values-keyed : {X : Type 0} (key : X → ℕ) (xs : List X) → values_of (keyed key xs) ≡ xs
values-keyed key [] = refl
values-keyed key (x ∷ xs) = ap (λ ys. x ∷ ys) (values-keyed key xs)

-- what is keyed is the keyed list of its values
pub keyed-again : {X : Type 0} (key : X → ℕ) (xs : List X) (es : List (ℕ × X)) → es ≡ keyed key xs → es ≡ keyed key (values_of es)
keyed-again key xs es e = rw e (rw (values-keyed key xs) refl)

pub values-are : {X : Type 0} (key : X → ℕ) (xs : List X) (es : List (ℕ × X)) → es ≡ keyed key xs → values_of es ≡ xs
values-are key xs es e = rw e (values-keyed key xs)

pub lookup-keyed : {X : Type 0} (key : X → ℕ) (k : ℕ) (xs : List X) → lookup (is_at (nat_cmp k)) (keyed key xs) ≡ find (λ x. nat_eq (key x) k) xs
lookup-keyed key k [] = refl
lookup-keyed key k (x ∷ xs) = rw (at-eq k (key x), lookup-keyed key k xs) refl

pub insert-keyed : {X : Type 0} (key : X → ℕ) (x : X) (xs : List X) → AllByRecursion (λ y. key y < key x) xs → insert_entry nat_cmp (keyed key xs) (key x) x ≡ keyed key (xs ++ x ∷ [])
insert-keyed key x [] h = refl
insert-keyed key x (y ∷ xs) h = rw (greater (key x) (key y) h.0) (ap (λ es. (key y, y) ∷ es) (insert-keyed key x xs h.1))

-- ---- values whose keys rise

pub rises-down : (low low' : ℕ) (ns : List ℕ) → low' ≤ low → RisesAbove low ns → RisesAbove low' ns
rises-down low low' [] le h = tt
rises-down low low' (n ∷ ns) le h = (omega (arith, h.0), h.1)

-- no value has a key that isn't above the bound
pub without-none : {X : Type 0} (key : X → ℕ) (k low : ℕ) (xs : List X) → k ≤ low → RisesAbove low (map key xs) → filter (λ x. not (nat_eq (key x) k)) xs ≡ xs
without-none key k low [] le h = refl
without-none key k low (x ∷ xs) le h = rw (ne_eqb (key x) k (λ e. omega (arith, h.0))) (ap (λ ys. x ∷ ys) (without-none key k (key x) xs (omega (arith, h.0)) h.1))

removed : {X : Type 0} (key : X → ℕ) (k : ℕ) (b : Bool) (x : X) (xs : List X) → nat_eq (key x) k ≡ b → RisesAbove (key x) (map key xs) →
    remove_entry (is_at (nat_cmp k)) (keyed key xs) ≡ keyed key (filter (λ x. not (nat_eq (key x) k)) xs) →
    cond b (keyed key xs) ((key x, x) ∷ remove_entry (is_at (nat_cmp k)) (keyed key xs)) ≡ keyed key (cond (not b) (x ∷ filter (λ x. not (nat_eq (key x) k)) xs) (filter (λ x. not (nat_eq (key x) k)) xs))
removed key k true x xs is h rest = let same : key x ≡ k = eqb-true (key x) k is in rw (without-none key k (key x) xs (omega arith) h) refl
removed key k false x xs is h rest = ap (λ es. (key x, x) ∷ es) rest

pub remove-keyed : {X : Type 0} (key : X → ℕ) (k low : ℕ) (xs : List X) → RisesAbove low (map key xs) → remove_entry (is_at (nat_cmp k)) (keyed key xs) ≡ keyed key (filter (λ x. not (nat_eq (key x) k)) xs)
remove-keyed key k low [] h = refl
remove-keyed key k low (x ∷ xs) h = rw (at-eq k (key x)) (removed key k (nat_eq (key x) k) x xs refl h.1 (remove-keyed key k (key x) xs h.1))

-- a change of the values that have a key, where none has it
pub change-none : {X : Type 0} (key : X → ℕ) (k low : ℕ) (f : X → X) (xs : List X) → k ≤ low → RisesAbove low (map key xs) → map (λ x. cond (nat_eq (key x) k) (f x) x) xs ≡ xs
change-none key k low f [] le h = refl
change-none key k low f (x ∷ xs) le h = rw (ne_eqb (key x) k (λ e. omega (arith, h.0))) (ap (λ ys. x ∷ ys) (change-none key k (key x) f xs (omega (arith, h.0)) h.1))

absent : {X : Type 0} (key : X → ℕ) (k : ℕ) (f : X → X) (b : Bool) (x : X) (xs : List X) → (find (λ x. nat_eq (key x) k) xs ≡ None → map (λ x. cond (nat_eq (key x) k) (f x) x) xs ≡ xs) →
    cond b (Some x) (find (λ x. nat_eq (key x) k) xs) ≡ None → cond b (f x) x ∷ map (λ x. cond (nat_eq (key x) k) (f x) x) xs ≡ x ∷ xs
absent key k f true x xs rest e = absurd (cc)
absent key k f false x xs rest e = ap (λ ys. x ∷ ys) (rest e)

pub change-absent : {X : Type 0} (key : X → ℕ) (k : ℕ) (f : X → X) (xs : List X) → find (λ x. nat_eq (key x) k) xs ≡ None → map (λ x. cond (nat_eq (key x) k) (f x) x) xs ≡ xs
change-absent key k f [] e = refl
change-absent key k f (x ∷ xs) e = absent key k f (nat_eq (key x) k) x xs (λ e. change-absent key k f xs e) e

changed : {X : Type 0} (key : X → ℕ) (k : ℕ) (f : X → X) (b : Bool) (x y : X) (xs : List X) → ((x : X) → key (f x) ≡ key x) → nat_eq (key x) k ≡ b → RisesAbove (key x) (map key xs) →
    cond b (Some x) (find (λ x. nat_eq (key x) k) xs) ≡ Some y →
    (find (λ x. nat_eq (key x) k) xs ≡ Some y → set_value (is_at (nat_cmp k)) (keyed key xs) (f y) ≡ keyed key (map (λ x. cond (nat_eq (key x) k) (f x) x) xs)) →
    cond b ((key x, f y) ∷ keyed key xs) ((key x, x) ∷ set_value (is_at (nat_cmp k)) (keyed key xs) (f y)) ≡ (key (cond b (f x) x), cond b (f x) x) ∷ keyed key (map (λ x. cond (nat_eq (key x) k) (f x) x) xs)
changed key k f true x y xs same is h found rest =
    let here : x ≡ y = cc in
    let there : key x ≡ k = eqb-true (key x) k is in
    rw (change-none key k (key x) f xs (omega arith) h, ← here, same x) refl
changed key k f false x y xs same is h found rest = ap (λ es. (key x, x) ∷ es) (rest found)

-- the value that has the key is changed in its place
pub change-keyed : {X : Type 0} (key : X → ℕ) (k low : ℕ) (f : X → X) (y : X) (xs : List X) → ((x : X) → key (f x) ≡ key x) → RisesAbove low (map key xs) → find (λ x. nat_eq (key x) k) xs ≡ Some y →
    set_value (is_at (nat_cmp k)) (keyed key xs) (f y) ≡ keyed key (map (λ x. cond (nat_eq (key x) k) (f x) x) xs)
change-keyed key k low f y [] same h found = absurd (cc)
change-keyed key k low f y (x ∷ xs) same h found =
    rw (at-eq k (key x)) (changed key k f (nat_eq (key x) k) x y xs same refl h.1 found (λ e. change-keyed key k (key x) f y xs same h.1 e))

-- ---- the first value above a key

abbrev pub first_value : {X : Type 0} → List (ℕ × X) → Option X
first_value [] = None
first_value (e ∷ es) = Some e.1

above : {X : Type 0} (b : Bool) (e : ℕ × X) (es : List (ℕ × X)) (found : Option X) → first_value es ≡ found → first_value (cond (b && true) (e ∷ es) es) ≡ cond b (Some e.1) found
above true e es found rest = refl
above false e es found rest = rest

pub first-above : {X : Type 0} (key : X → ℕ) (k : ℕ) (xs : List X) → first_value (filter (λ e. range_contains nat_cmp (Excluded k) Unbounded e.0) (keyed key xs)) ≡ find (λ x. nat_lt k (key x)) xs
first-above key k [] = refl
first-above key k (x ∷ xs) = rw (lt-is k (key x)) (above (nat_lt k (key x)) (key x, x) (filter (λ e. range_contains nat_cmp (Excluded k) Unbounded e.0) (keyed key xs)) (find (λ x. nat_lt k (key x)) xs) (first-above key k xs))

-- keys that rise still rise with a greater one at the end, and where some values go
pub rises-with : {X : Type 0} (key : X → ℕ) (low : ℕ) (x : X) (xs : List X) → low < key x → AllByRecursion (λ y. key y < key x) xs → RisesAbove low (map key xs) → RisesAbove low (map key (xs ++ x ∷ []))
rises-with key low x [] lt a h = (lt, tt)
rises-with key low x (y ∷ xs) lt a h = (h.0, rises-with key (key y) x xs a.0 a.1 h.1)

rises-cond : {X : Type 0} (key : X → ℕ) (low : ℕ) (b : Bool) (x : X) (xs : List X) → low < key x → RisesAbove (key x) (map key xs) → RisesAbove low (map key (cond b (x ∷ xs) xs))
rises-cond key low true x xs lt h = (lt, h)
rises-cond key low false x xs lt h = rises-down (key x) low (map key xs) (omega arith) h

pub rises-without : {X : Type 0} (key : X → ℕ) (low : ℕ) (q : X → Bool) (xs : List X) → RisesAbove low (map key xs) → RisesAbove low (map key (filter q xs))
rises-without key low q [] h = tt
rises-without key low q (x ∷ xs) h = rises-cond key low (q x) x (filter q xs) h.0 (rises-without key (key x) q xs h.1)

key-stays : {X : Type 0} (key : X → ℕ) (f : X → X) (b : Bool) (x : X) → ((x : X) → key (f x) ≡ key x) → key (cond b (f x) x) ≡ key x
key-stays key f true x same = same x
key-stays key f false x same = refl

pub keys-changed : {X : Type 0} (key : X → ℕ) (k : ℕ) (f : X → X) (xs : List X) → ((x : X) → key (f x) ≡ key x) → map key (map (λ x. cond (nat_eq (key x) k) (f x) x) xs) ≡ map key xs
keys-changed key k f [] same = refl
keys-changed key k f (x ∷ xs) same = rw (key-stays key f (nat_eq (key x) k) x same, keys-changed key k f xs same) refl

kept : {X : Type 0} (key : X → ℕ) (b : Bool) (x : X) (xs : List X) → cond b ((key x, x) ∷ keyed key xs) (keyed key xs) ≡ keyed key (cond b (x ∷ xs) xs)
kept key true x xs = refl
kept key false x xs = refl

pub filter-keyed : {X : Type 0} (key : X → ℕ) (q : X → Bool) (xs : List X) → filter (λ e. q e.1) (keyed key xs) ≡ keyed key (filter q xs)
filter-keyed key q [] = refl
filter-keyed key q (x ∷ xs) = rw (filter-keyed key q xs) (kept key (q x) x (filter q xs))

-- ---- the same of a map's entries

pub added : {X : Type 0} (key : X → ℕ) (x : X) (es es' : List (ℕ × X)) → es ≡ keyed key (values_of es) → AllByRecursion (λ y. key y < key x) (values_of es) → es' ≡ insert_entry nat_cmp es (key x) x → es' ≡ keyed key (values_of es ++ x ∷ [])
added key x es es' e h is = is ∙ ap (λ fs. insert_entry nat_cmp fs (key x) x) e ∙ insert-keyed key x (values_of es) h

pub dropped : {X : Type 0} (key : X → ℕ) (k : ℕ) (es es' : List (ℕ × X)) → es ≡ keyed key (values_of es) → RisesAbove 0 (map key (values_of es)) → es' ≡ remove_entry (is_at (nat_cmp k)) es → es' ≡ keyed key (filter (λ x. not (nat_eq (key x) k)) (values_of es))
dropped key k es es' e h is = is ∙ ap (λ fs. remove_entry (is_at (nat_cmp k)) fs) e ∙ remove-keyed key k 0 (values_of es) h

pub found : {X : Type 0} (key : X → ℕ) (k : ℕ) (es : List (ℕ × X)) → es ≡ keyed key (values_of es) → lookup (is_at (nat_cmp k)) es ≡ find (λ x. nat_eq (key x) k) (values_of es)
found key k es e = ap (λ fs. lookup (is_at (nat_cmp k)) fs) e ∙ lookup-keyed key k (values_of es)

pub rewritten : {X : Type 0} (key : X → ℕ) (k : ℕ) (f : X → X) (y : X) (es es' : List (ℕ × X)) → ((x : X) → key (f x) ≡ key x) → es ≡ keyed key (values_of es) → RisesAbove 0 (map key (values_of es)) → lookup (is_at (nat_cmp k)) es ≡ Some y →
    es' ≡ set_value (is_at (nat_cmp k)) es (f y) → es' ≡ keyed key (map (λ x. cond (nat_eq (key x) k) (f x) x) (values_of es))
rewritten key k f y es es' same e h there is = is ∙ ap (λ fs. set_value (is_at (nat_cmp k)) fs (f y)) e ∙ change-keyed key k 0 f y (values_of es) same h (sym (found key k es e) ∙ there)

cond-same : {X : Type 0} (b : Bool) (x : X) → cond b x x ≡ x
cond-same true x = refl
cond-same false x = refl

map-same : {X : Type 0} (p : X → Bool) (xs : List X) → map (λ x. cond (p x) x x) xs ≡ xs
map-same p [] = refl
map-same p (x ∷ xs) = rw (cond-same (p x) x, map-same p xs) refl

-- the value that the key has is written again
pub put-back : {X : Type 0} (key : X → ℕ) (k : ℕ) (y : X) (es es' : List (ℕ × X)) → es ≡ keyed key (values_of es) → RisesAbove 0 (map key (values_of es)) → lookup (is_at (nat_cmp k)) es ≡ Some y →
    es' ≡ set_value (is_at (nat_cmp k)) es y → es' ≡ es
put-back key k y es es' e h there is = rewritten key k (λ x. x) y es es' (λ x. refl) e h there is ∙ ap (λ xs. keyed key xs) (map-same (λ x. nat_eq (key x) k) (values_of es)) ∙ sym e

pub filtered : {X : Type 0} (key : X → ℕ) (q : X → Bool) (es es' : List (ℕ × X)) → es ≡ keyed key (values_of es) → es' ≡ filter (λ e. q e.1) es → es' ≡ keyed key (filter q (values_of es))
filtered key q es es' e is = is ∙ ap (λ fs. filter (λ e. q e.1) fs) e ∙ filter-keyed key q (values_of es)

pub first-of-rows : {X : Type 0} (key : X → ℕ) (k : ℕ) (es : List (ℕ × X)) → es ≡ keyed key (values_of es) → first_value (filter (λ e. range_contains nat_cmp (Excluded k) Unbounded e.0) es) ≡ find (λ x. nat_lt k (key x)) (values_of es)
first-of-rows key k es e = ap (λ fs. first_value (filter (λ e. range_contains nat_cmp (Excluded k) Unbounded e.0) fs)) e ∙ first-above key k (values_of es)
