-- How far the trashed copies have been looked through.
use Rattle.std.proofs.Common.{◌≡◌, ℕ, ◌≤◌, min, List, [], ◌∷◌, map, false, Option, None, Some, refl, sym, ◌∙◌, ap, arith, inl, inr, subst}
use Rattle.std.specs.declared.cmp.Ordering.{Ordering}
use Rattle.std.specs.declared.cmp.Ordering.TheVariants.{Less, Equal, Greater}
use Rattle.std.specs.Ordering.{match_ordering, is_lt}
use Rattle.std.specs.List.{AllByRecursion, find as list_find}
use Rattle.std.proofs.lemmas.Bool.Decides.{nat_tests}
use Rattle.std.proofs.lemmas.Cmp.{tied_itself}
use Rattle.keep_event.specs.Store.{Cut, cut, onto, name_cmp, put, change, above, IsAscending, AreAscending}
use Rattle.keep_event.specs.Device.{is_due_at}
use Rattle.keep_event.specs.declared.names.Name.{Name}
use Rattle.keep_event.specs.declared.names.Metadata.{Metadata}
use Rattle.keep_event.specs.declared.names.Held.{Held}
use Rattle.keep_store.proofs.Order.{order, flip, all-map, all-put, head-below, tail-ascends}
use Rattle.keep_volume.specs.Index.{Waits, ArePassed, earlier_of, due, sized_held}

-- what isn't due isn't due earlier
pub not-due-earlier : (a b : ℕ) (o : Option ℕ) → a ≤ b → is_due_at b o ≡ false → is_due_at a o ≡ false
not-due-earlier a b None le h = refl
not-due-earlier a b (Some d) le h = grind (arith, nat_tests)

earlier-le : (a : ℕ) (o : Option ℕ) → earlier_of a o ≤ a
earlier-le a None = omega arith
earlier-le a (Some d) = omega arith

not-due-itself : (a : ℕ) (o : Option ℕ) → is_due_at (earlier_of a o) o ≡ false
not-due-itself a None = refl
not-due-itself a (Some d) = let le : min a d ≤ d = omega arith in grind (arith, nat_tests)

pub waits-earlier : (p : Option Name) (a b : ℕ) (n : Name) → a ≤ b → Waits p b n → Waits p a n
waits-earlier p a b n le w = elim w [ inl h ↦ inl h | inr h ↦ inr (not-due-earlier a b n.deadline le h) ]

-- nothing was looked at
pub none-passed : (a : ℕ) (index : List (Name × Metadata)) → ArePassed None a index
none-passed a [] = tt
none-passed a (e ∷ index) = (inl refl, none-passed a index)

-- a name comes
pub passed-put : (p : Option Name) (a : ℕ) (n : Name) (x : Metadata) (index : List (Name × Metadata)) → ArePassed p a index → ArePassed p (earlier_of a n.deadline) (put n x index)
passed-put p a n x index h =
    all-put (Waits p (earlier_of a n.deadline)) n x index (inr (not-due-itself a n.deadline)) (all-map (Waits p a) (Waits p (earlier_of a n.deadline)) (map (λ e. e.0) index) (λ m w. waits-earlier p (earlier_of a n.deadline) a m (earlier-le a n.deadline) w) h)

-- ---- a look, from where an earlier one came to
not-ahead : (n m : Name) (o : Ordering) (a : ℕ) → name_cmp n m ≡ o → is_lt o ≡ false → Waits (Some n) a m → is_due_at a m.deadline ≡ false
not-ahead n m o a e h w = elim w [ inl k ↦ absurd (let f = sym k ∙ ap is_lt e ∙ h in cc f) | inr k ↦ k ]

-- the copies that were passed aren't due
find-step : (reading a : ℕ) (n : Name) (o : Ordering) (e : Name × Metadata) (es : List (Name × Metadata)) (c : Cut Metadata) → name_cmp n e.0 ≡ o → reading ≤ a → Waits (Some n) a e.0
    → list_find (due reading) c.back ≡ list_find (due reading) es
    → (let d : Cut Metadata = match_ordering o (record { front = []; at = None; back = e ∷ es }) (record { front = []; at = Some e; back = es }) (onto (e ∷ []) c) in list_find (due reading) d.back ≡ list_find (due reading) (e ∷ es))
find-step reading a n Less e es c h le w k = refl
find-step reading a n Equal e es c h le w k = let f : due reading e ≡ false = not-due-earlier reading a e.0.deadline le (not-ahead n e.0 Equal a h refl w) in rw f refl
find-step reading a n Greater e es c h le w k = let f : due reading e ≡ false = not-due-earlier reading a e.0.deadline le (not-ahead n e.0 Greater a h refl w) in rw f k

find-behind : (reading a : ℕ) (n : Name) (es : List (Name × Metadata)) → reading ≤ a → ArePassed (Some n) a es → list_find (due reading) (cut n es).back ≡ list_find (due reading) es
find-behind reading a n [] le h = refl
find-behind reading a n (e ∷ es) le h = find-step reading a n (name_cmp n e.0) e es (cut n es) refl le h.0 (find-behind reading a n es le h.1)

pub find-above : (reading a : ℕ) (p : Option Name) (es : List (Name × Metadata)) → reading ≤ a → ArePassed p a es → list_find (due reading) (above p es) ≡ list_find (due reading) es
find-above reading a None es le h = refl
find-above reading a (Some n) es le h = find-behind reading a n es le h

-- ---- one entry further
abbrev pub Further : Name × Metadata → List (Name × Metadata) → ℕ → List (Name × Metadata) → Type 0
Further e ys a es = ((cut e.0 es).back ≡ ys) × ArePassed (Some e.0) (earlier_of a e.0.deadline) es

ahead-all : (n : Name) (a : ℕ) (ns : List Name) → AllByRecursion (λ m. name_cmp n m ≡ Less) ns → AllByRecursion (Waits (Some n) a) ns
ahead-all n a ns h = all-map (λ m. name_cmp n m ≡ Less) (Waits (Some n) a) ns (λ m k. inl (ap is_lt k)) h

-- the entry is the first
further-first : (e : Name × Metadata) (ys : List (Name × Metadata)) (a : ℕ) → IsAscending (e ∷ ys) → Further e ys a (e ∷ ys)
further-first e ys a s = (
  ap (λ o. let d : Cut Metadata = match_ordering o (record { front = []; at = None; back = e ∷ ys }) (record { front = []; at = Some e; back = ys }) (onto (e ∷ []) (cut e.0 ys)) in d.back) (tied_itself order e.0),
  (inr (not-due-itself a e.0.deadline), ahead-all e.0 (earlier_of a e.0.deadline) (map (λ e. e.0) ys) (head-below e ys s)),
)

-- the entry is behind one that was passed
further-behind : (x e : Name × Metadata) (ys es : List (Name × Metadata)) (a : ℕ) → name_cmp x.0 e.0 ≡ Less → is_due_at a x.0.deadline ≡ false → Further e ys a es → Further e ys a (x ∷ es)
further-behind x e ys es a h w f = (
  ap (λ o. let d : Cut Metadata = match_ordering o (record { front = []; at = None; back = x ∷ es }) (record { front = []; at = Some x; back = es }) (onto (x ∷ []) (cut e.0 es)) in d.back) (flip x.0 e.0 Less h) ∙ f.0,
  (inr (not-due-earlier (earlier_of a e.0.deadline) a x.0.deadline (earlier-le a e.0.deadline) w), f.1),
)

-- what holds of all holds of those above
all-above-step : (P : Name → Type 0) (o : Ordering) (e : Name × Metadata) (es : List (Name × Metadata)) (c : Cut Metadata) → P e.0 → AllByRecursion P (map (λ e. e.0) es) → AllByRecursion P (map (λ e. e.0) c.back)
    → (let d : Cut Metadata = match_ordering o (record { front = []; at = None; back = e ∷ es }) (record { front = []; at = Some e; back = es }) (onto (e ∷ []) c) in AllByRecursion P (map (λ e. e.0) d.back))
all-above-step P Less e es c pe pes h = (pe, pes)
all-above-step P Equal e es c pe pes h = pes
all-above-step P Greater e es c pe pes h = h

all-behind : (P : Name → Type 0) (n : Name) (es : List (Name × Metadata)) → AllByRecursion P (map (λ e. e.0) es) → AllByRecursion P (map (λ e. e.0) (cut n es).back)
all-behind P n [] h = tt
all-behind P n (e ∷ es) h = all-above-step P (name_cmp n e.0) e es (cut n es) h.0 h.1 (all-behind P n es h.1)

first-of-all : (P : Name → Type 0) (es ys : List (Name × Metadata)) (e : Name × Metadata) → es ≡ e ∷ ys → AllByRecursion P (map (λ e. e.0) es) → P e.0
first-of-all P [] ys e h k = cc h
first-of-all P (x ∷ es) ys e h k = subst (λ v. P v.0) (let f : x ≡ e = cc h in f) k.0

further-step : (n : Name) (a : ℕ) (o : Ordering) (x e : Name × Metadata) (es ys : List (Name × Metadata)) → name_cmp n x.0 ≡ o → IsAscending (x ∷ es) → Waits (Some n) a x.0
    → (let d : Cut Metadata = match_ordering o (record { front = []; at = None; back = x ∷ es }) (record { front = []; at = Some x; back = es }) (onto (x ∷ []) (cut n es)) in d.back ≡ e ∷ ys)
    → ((cut n es).back ≡ e ∷ ys → Further e ys a es) → Further e ys a (x ∷ es)
further-step n a Less x e es ys h s w k rest = subst (λ v. Further e ys a v) (sym k) (further-first e ys a (subst IsAscending k s))
further-step n a Equal x e es ys h s w k rest =
    further-behind x e ys es a (first-of-all (λ m. name_cmp x.0 m ≡ Less) es ys e k (head-below x es s)) (not-ahead n x.0 Equal a h refl w)
    (subst (λ v. Further e ys a v) (sym k) (further-first e ys a (subst IsAscending k (tail-ascends x es s))))
further-step n a Greater x e es ys h s w k rest =
    further-behind x e ys es a (first-of-all (λ m. name_cmp x.0 m ≡ Less) (cut n es).back ys e k (all-behind (λ m. name_cmp x.0 m ≡ Less) n es (head-below x es s))) (not-ahead n x.0 Greater a h refl w) (rest k)

further-cut : (n : Name) (a : ℕ) (es ys : List (Name × Metadata)) (e : Name × Metadata) → IsAscending es → ArePassed (Some n) a es → (cut n es).back ≡ e ∷ ys → Further e ys a es
further-cut n a [] ys e s h k = cc k
further-cut n a (x ∷ es) ys e s h k = further-step n a (name_cmp n x.0) x e es ys refl s h.0 k (λ k. further-cut n a es ys e (tail-ascends x es s) h.1 k)

pub further : (p : Option Name) (a : ℕ) (es ys : List (Name × Metadata)) (e : Name × Metadata) → IsAscending es → ArePassed p a es → above p es ≡ e ∷ ys → Further e ys a es
further None a es ys e s h k = subst (λ v. Further e ys a v) (sym k) (further-first e ys a (subst IsAscending k s))
further (Some n) a es ys e s h k = further-cut n a es ys e s h k

-- a name that may be there gets another time
pub passed-change : (p : Option Name) (a : ℕ) (f : Metadata → Metadata) (n : Name) (index : List (Name × Metadata)) (o : Option Metadata) → ArePassed p a index → ArePassed p (earlier_of a n.deadline) (change f n index o)
passed-change p a f n index None h = all-map (Waits p a) (Waits p (earlier_of a n.deadline)) (map (λ e. e.0) index) (λ m w. waits-earlier p (earlier_of a n.deadline) a m (earlier-le a n.deadline) w) h
passed-change p a f n index (Some x) h = passed-put p a n (f x) index h

-- the names of what a store gave
pub held-ascends : (names : List Held) → AreAscending (map (λ h. h.name) names) → IsAscending (map sized_held names)
held-ascends names h = subst AreAscending (same names) h
  where
    same : (names : List Held) → map (λ h. h.name) names ≡ map (λ e. e.0) (map sized_held names)
    same [] = refl
    same (x ∷ xs) = ap (λ v. x.name ∷ v) (same xs)
