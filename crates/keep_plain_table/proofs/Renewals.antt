-- A record becomes the current one of its collection: it is added and the one before superseded, and then those that are due go, or the other way round.
use Rattle.std.proofs.Common.{◌≡◌, ◌++◌, ◌&&◌, ℕ, List, [], ◌∷◌, Bool, true, false, cond, not, map, filter, refl, ap, ◌∙◌}
use Rattle.std.specs.Prelude.{nat_lt}
use Rattle.std.proofs.lemmas.List.Elements.{filter-append}
use Rattle.keep_event.specs.Table.{is_current, is_due, is_due_of, is_of, superseded}
use Rattle.keep_event.specs.declared.table.Standing.{Standing}
use Rattle.keep_event.specs.declared.table.Standing.TheVariants.{Current, Kept, Preserved}
use Rattle.keep_event.specs.declared.table.Record.{Record}

map-cond : {X : Type 0} (f : X → X) (b : Bool) (x : X) (xs : List X) → cond b (f x ∷ map f xs) (map f xs) ≡ map f (cond b (x ∷ xs) xs)
map-cond f true x xs = refl
map-cond f false x xs = refl

-- a change that a test doesn't see may be made before the test or after it
filter-changed : {X : Type 0} (p : X → Bool) (f : X → X) → ((x : X) → p (f x) ≡ p x) → (xs : List X) → filter p (map f xs) ≡ map f (filter p xs)
filter-changed p f same [] = refl
filter-changed p f same (x ∷ xs) = rw (same x, filter-changed p f same xs) (map-cond f (p x) x (filter p xs))

-- whether a record is due stays where it is superseded
due-cases : (reading n : ℕ) (standing : Standing) (r : Record) (s : Standing) (b : Bool) → r.standing ≡ s → is_of n r ≡ b → is_due reading standing ≡ false → is_due_of reading n (superseded n standing r) ≡ is_due_of reading n r
due-cases reading n standing r Current true e of later = rw (e, of, later) (ap (λ b. b && false) of)
due-cases reading n standing r (Kept until) true e of later = rw (e, of) (ap (λ b. b && nat_lt until reading) of)
due-cases reading n standing r Preserved true e of later = rw (e, of) (ap (λ b. b && false) of)
due-cases reading n standing r s false e of later = rw of (ap (λ b. b && is_due reading r.standing) of)

current-not-due : (reading : ℕ) (s : Standing) → is_current s ≡ true → is_due reading s ≡ false
current-not-due reading Current h = refl
current-not-due reading (Kept until) h = cc h
current-not-due reading Preserved h = refl

not-both : (a b : Bool) → b ≡ false → not (a && b) ≡ true
not-both true b h = rw h refl
not-both false b h = refl

pub renewed : (reading : ℕ) (standing : Standing) (row : Record) (rs : List Record) → is_due reading standing ≡ false → is_current row.standing ≡ true →
    filter (λ r. not (is_due_of reading row.collection r)) (map (superseded row.collection standing) rs ++ row ∷ []) ≡ map (superseded row.collection standing) (filter (λ r. not (is_due_of reading row.collection r)) rs) ++ row ∷ []
renewed reading standing row rs later current =
    let n = row.collection in
    let stays : not (is_due_of reading n row) ≡ true = not-both (is_of n row) (is_due reading row.standing) (current-not-due reading row.standing current) in
    let last : filter (λ r. not (is_due_of reading n r)) (row ∷ []) ≡ row ∷ [] = ap (λ b. cond b (row ∷ []) []) stays in
    filter-append (λ r. not (is_due_of reading n r)) (map (superseded n standing) rs) (row ∷ [])
    ∙ ap (λ xs. xs ++ filter (λ r. not (is_due_of reading n r)) (row ∷ [])) (filter-changed (λ r. not (is_due_of reading n r)) (superseded n standing) (λ r. ap not (due-cases reading n standing r r.standing (is_of n r) refl refl later)) rs)
    ∙ ap (λ xs. map (superseded n standing) (filter (λ r. not (is_due_of reading n r)) rs) ++ xs) last
