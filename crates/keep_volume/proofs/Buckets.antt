-- Names in buckets: what a call on one bucket makes of all names.
use Rattle.std.proofs.Common.{◌≡◌, ℕ, zero, suc, ◌+◌, ◌<◌, ◌≤◌, List, [], ◌∷◌, ◌++◌, length, map, take, drop, get_or, min, ◌-◌, take_all, length-drop, Option, None, Some, option_map, refl, sym, ◌∙◌, ap, subst, arith, append_assoc, append-nil, zero-add, inl, inr, ◌⊎◌, Bool, true, false, cond, Result, Ok, Err}
use Rattle.std.specs.List.{AllByRecursion, slice_set, slice_get, filter}
use Rattle.std.specs.Str.{bytes_eq}
use Rattle.std.specs.Prelude.{OnOk}
use Rattle.std.proofs.lemmas.Option.{slice_get_read}
use Rattle.std.proofs.lemmas.Slice.Eq.{bytes_eq-Decides}
use Rattle.std.proofs.lemmas.List.Elements.{filter-append}
use Rattle.std.specs.declared.cmp.Ordering.TheVariants.{Less, Greater}
use Rattle.std.specs.Ordering.{nat_cmp, ordering_then}
use Rattle.std.specs.Option.{option_cmp}
use Rattle.std.specs.Cmp.{nat_cmp_is}
use Rattle.std.specs.Cmp.Lexicographic.{slice_cmp}
use Rattle.std.proofs.lemmas.List.{length-set, at_drop_more}
use Rattle.keep_event.specs.Store.{Cut, cut, onto, name_cmp, find, put, without, change, above, IsAscending}
use Rattle.keep_event.specs.declared.names.Name.{Name}
use Rattle.keep_volume.specs.Buckets.{Listed, first_byte, first_bucket, entries_above, entries_of, ArePlaced, AreBuckets}
use Rattle.keep_store.proofs.Order.{flip, all-append, all-map, all-put, all-without, ascending-put, ascending-without}
use Rattle.keep_store.proofs.Cuts.{within, cut-below, cut-above}

-- ---- the first byte decides
bytes-less : (xs ys : List ℕ) → get_or xs 0 0 < get_or ys 0 0 → slice_cmp nat_cmp xs ys ≡ Less
bytes-less [] [] lt = absurd (omega arith)
bytes-less [] (y ∷ ys) lt = refl
bytes-less (x ∷ xs) [] lt = absurd (omega arith)
bytes-less (x ∷ xs) (y ∷ ys) lt = ap (λ o. ordering_then o (slice_cmp nat_cmp xs ys)) (sym (nat_cmp_is x y Less lt))

first-less : (n m : Name) → first_byte n < first_byte m → name_cmp n m ≡ Less
first-less n m lt = ap (λ o. ordering_then o (option_cmp nat_cmp n.deadline m.deadline)) (bytes-less n.digest m.digest lt)

placed-from : {X : Type 0} (i : ℕ) (bs : List (Listed X)) → ArePlaced i bs → AllByRecursion (λ m. i ≤ first_byte m) (map (λ e. e.0) (entries_of bs))
placed-from i [] p = tt
placed-from i (b ∷ bs) p =
    all-append (λ m. i ≤ first_byte m) b.entries (entries_of bs)
    (all-map (λ m. first_byte m ≡ i) (λ m. i ≤ first_byte m) (map (λ e. e.0) b.entries) (λ m h. omega arith) p.0)
    (all-map (λ m. suc i ≤ first_byte m) (λ m. i ≤ first_byte m) (map (λ e. e.0) (entries_of bs)) (λ m h. omega arith) (placed-from (suc i) bs p.1))

-- the names behind a bucket are above those that belong to it or to one before
all-later : {X : Type 0} (n : Name) (i : ℕ) (bs : List (Listed X)) → first_byte n < i → ArePlaced i bs → AllByRecursion (λ m. name_cmp n m ≡ Less) (map (λ e. e.0) (entries_of bs))
all-later n i bs lt p = all-map (λ m. i ≤ first_byte m) (λ m. name_cmp n m ≡ Less) (map (λ e. e.0) (entries_of bs)) (λ m h. first-less n m (omega arith)) (placed-from i bs p)

all-earlier : {X : Type 0} (n : Name) (i : ℕ) (es : List (Name × X)) → i < first_byte n → AllByRecursion (λ m. first_byte m ≡ i) (map (λ e. e.0) es) → AllByRecursion (λ m. name_cmp n m ≡ Greater) (map (λ e. e.0) es)
all-earlier n i es lt p = all-map (λ m. first_byte m ≡ i) (λ m. name_cmp n m ≡ Greater) (map (λ e. e.0) es) (λ m h. flip m n Less (first-less m n (omega arith))) p

-- ---- the bucket of a name, and those before and behind it
abbrev before : {X : Type 0} → ℕ → List (Listed X) → List (Name × X)
before b bs = entries_of (take b bs)

abbrev behind : {X : Type 0} → ℕ → List (Listed X) → List (Name × X)
behind b bs = entries_of (drop (suc b) bs)

cut-bucket : {X : Type 0} (n : Name) (i b : ℕ) (l : Listed X) (bs : List (Listed X)) → first_byte n ≡ i + b → ArePlaced i bs → slice_get bs b ≡ Some l → cut n (entries_of bs) ≡ within (before b bs) (cut n l.entries) (behind b bs)
cut-bucket n i b l [] f p s = cc s
cut-bucket {X = X} n i zero l (x ∷ bs) f p s =
    let same : x ≡ l = cc s in
    cut-above n x.entries (entries_of bs) (all-later n (suc i) bs (omega arith) p.1) ∙ ap (λ (y : Listed X). within [] (cut n y.entries) (entries_of bs)) same
cut-bucket n i (suc b) l (x ∷ bs) f p s =
    cut-below n x.entries (entries_of bs) (all-earlier n i x.entries (omega arith) p.0)
    ∙ ap (onto x.entries) (cut-bucket n (suc i) b l bs (omega arith) p.1 s)
    ∙ ap (λ v. record { front = v; at = (cut n l.entries).at; back = (cut n l.entries).back ++ behind b bs }) (sym (append_assoc x.entries (before b bs) (cut n l.entries).front))

entries-at : {X : Type 0} (b : ℕ) (l : Listed X) (bs : List (Listed X)) → slice_get bs b ≡ Some l → entries_of bs ≡ before b bs ++ (l.entries ++ behind b bs)
entries-at b l [] s = cc s
entries-at {X = X} zero l (x ∷ bs) s = let same : x ≡ l = cc s in ap (λ (y : Listed X). y.entries ++ entries_of bs) same
entries-at (suc b) l (x ∷ bs) s = ap (λ v. x.entries ++ v) (entries-at b l bs s) ∙ sym (append_assoc x.entries (before b bs) (l.entries ++ behind b bs))

entries-set : {X : Type 0} (b : ℕ) (l new : Listed X) (bs : List (Listed X)) → slice_get bs b ≡ Some l → entries_of (slice_set bs b new) ≡ before b bs ++ (new.entries ++ behind b bs)
entries-set b l new [] s = cc s
entries-set zero l new (x ∷ bs) s = refl
entries-set (suc b) l new (x ∷ bs) s = ap (λ v. x.entries ++ v) (entries-set b l new bs s) ∙ sym (append_assoc x.entries (before b bs) (new.entries ++ behind b bs))

placed-at : {X : Type 0} (i b : ℕ) (l : Listed X) (bs : List (Listed X)) → ArePlaced i bs → slice_get bs b ≡ Some l → AllByRecursion (λ m. first_byte m ≡ i + b) (map (λ e. e.0) l.entries)
placed-at i b l [] p s = cc s
placed-at {X = X} i zero l (x ∷ bs) p s =
    let same : x ≡ l = cc s in
    all-map (λ m. first_byte m ≡ i) (λ m. first_byte m ≡ i + 0) (map (λ e. e.0) l.entries) (λ m h. omega arith) (subst (λ (y : Listed X). AllByRecursion (λ m. first_byte m ≡ i) (map (λ e. e.0) y.entries)) same p.0)
placed-at i (suc b) l (x ∷ bs) p s = all-map (λ m. first_byte m ≡ suc i + b) (λ m. first_byte m ≡ i + suc b) (map (λ e. e.0) l.entries) (λ m h. omega arith) (placed-at (suc i) b l bs p.1 s)

placed-set : {X : Type 0} (i b : ℕ) (new : Listed X) (bs : List (Listed X)) → ArePlaced i bs → AllByRecursion (λ m. first_byte m ≡ i + b) (map (λ e. e.0) new.entries) → ArePlaced i (slice_set bs b new)
placed-set i b new [] p h = tt
placed-set i zero new (x ∷ bs) p h = (all-map (λ m. first_byte m ≡ i + 0) (λ m. first_byte m ≡ i) (map (λ e. e.0) new.entries) (λ m e. omega arith) h, p.1)
placed-set i (suc b) new (x ∷ bs) p h = (p.0, placed-set (suc i) b new bs p.1 (all-map (λ m. first_byte m ≡ i + suc b) (λ m. first_byte m ≡ suc i + b) (map (λ e. e.0) new.entries) (λ m e. omega arith) h))

number-set : {X : Type 0} (b : ℕ) (new : Listed X) (bs : List (Listed X)) → (bs ≡ []) ⊎ (length bs ≡ 256) → (slice_set bs b new ≡ []) ⊎ (length (slice_set bs b new) ≡ 256)
number-set b new bs h = elim h [ inl e ↦ inl (ap (λ v. slice_set v b new) e) | inr e ↦ inr (length-set bs b new ∙ e) ]

-- ---- what becomes of all names where this becomes of the bucket of a name
module _ {X : Type 0} (n : Name) (b : ℕ) (l : Listed X) (bs : List (Listed X)) (is : AreBuckets bs) (at_byte : b ≡ first_byte n) (there : slice_get bs b ≡ Some l) where
  byte : first_byte n ≡ 0 + b
  byte = omega arith

  whole : cut n (entries_of bs) ≡ within (before b bs) (cut n l.entries) (behind b bs)
  whole = cut-bucket n 0 b l bs byte is.placed there

  own : AllByRecursion (λ m. first_byte m ≡ 0 + b) (map (λ e. e.0) l.entries)
  own = placed-at 0 b l bs is.placed there

  pub find-bucket : find n l.entries ≡ find n (entries_of bs)
  find-bucket = ap (λ (c : Cut X). option_map (λ (e : Name × X). e.1) c.at) (sym whole)

  module _ (new : Listed X) where
    AreAll : List (Name × X) → Type 0
    AreAll es = AllByRecursion (λ m. first_byte m ≡ 0 + b) (map (λ e. e.0) es)

    -- the buckets with this one in their place
    with_new : (es : List (Name × X)) → new.entries ≡ es → entries_of (slice_set bs b new) ≡ before b bs ++ (es ++ behind b bs)
    with_new es e = entries-set b l new bs there ∙ ap (λ v. before b bs ++ (v ++ behind b bs)) e

    are_new : (es : List (Name × X)) → new.entries ≡ es → AreAll es → IsAscending (entries_of (slice_set bs b new)) → AreBuckets (slice_set bs b new)
    unfolding AreAll
    are_new es e all s = record {
      number = number-set b new bs is.number;
      placed = placed-set 0 b new bs is.placed (subst (λ v. AllByRecursion (λ m. first_byte m ≡ 0 + b) (map (λ e. e.0) v)) (sym e) all);
      ascending = s;
    }

    -- it has the same entries
    pub same-bucket : new.entries ≡ l.entries → entries_of (slice_set bs b new) ≡ entries_of bs
    same-bucket e = with_new l.entries e ∙ sym (entries-at b l bs there)

    pub same-buckets : new.entries ≡ l.entries → AreBuckets (slice_set bs b new)
    unfolding AreAll
    same-buckets e = are_new l.entries e own (subst IsAscending (sym (same-bucket e)) is.ascending)

    -- in it the name got this
    module _ (x : X) (e : new.entries ≡ put n x l.entries) where
      put-whole : put n x (entries_of bs) ≡ before b bs ++ (put n x l.entries ++ behind b bs)
      put-whole =
          ap (λ (c : Cut X). c.front ++ (n, x) ∷ c.back) whole
          ∙ append_assoc (before b bs) (cut n l.entries).front ((n, x) ∷ ((cut n l.entries).back ++ behind b bs))
          ∙ ap (λ v. before b bs ++ v) (sym (append_assoc (cut n l.entries).front ((n, x) ∷ (cut n l.entries).back) (behind b bs)))

      pub put-bucket : entries_of (slice_set bs b new) ≡ put n x (entries_of bs)
      put-bucket = with_new (put n x l.entries) e ∙ sym put-whole

      pub put-buckets : AreBuckets (slice_set bs b new)
      unfolding AreAll
      put-buckets = are_new (put n x l.entries) e (all-put (λ m. first_byte m ≡ 0 + b) n x l.entries byte own) (subst IsAscending (sym put-bucket) (ascending-put n x (entries_of bs) is.ascending))

    -- it has the name no more
    module _ (e : new.entries ≡ without n l.entries) where
      without-whole : without n (entries_of bs) ≡ before b bs ++ (without n l.entries ++ behind b bs)
      without-whole =
          ap (λ (c : Cut X). c.front ++ c.back) whole
          ∙ append_assoc (before b bs) (cut n l.entries).front ((cut n l.entries).back ++ behind b bs)
          ∙ ap (λ v. before b bs ++ v) (sym (append_assoc (cut n l.entries).front (cut n l.entries).back (behind b bs)))

      pub without-bucket : entries_of (slice_set bs b new) ≡ without n (entries_of bs)
      without-bucket = with_new (without n l.entries) e ∙ sym without-whole

      pub without-buckets : AreBuckets (slice_set bs b new)
      unfolding AreAll
      without-buckets = are_new (without n l.entries) e (all-without (λ m. first_byte m ≡ 0 + b) n l.entries own) (subst IsAscending (sym without-bucket) (ascending-without n (entries_of bs) is.ascending))

    -- in it what the name has became f of it
    module _ (f : X → X) where
      change-to : (o : Option X) → new.entries ≡ change f n l.entries o → (entries_of (slice_set bs b new) ≡ change f n (entries_of bs) o) × AreBuckets (slice_set bs b new)
      change-to None e = (same-bucket e, same-buckets e)
      change-to (Some x) e = (put-bucket (f x) e, put-buckets (f x) e)

      pub change-bucket : new.entries ≡ change f n l.entries (find n l.entries) → entries_of (slice_set bs b new) ≡ change f n (entries_of bs) (find n (entries_of bs))
      change-bucket e = (change-to (find n l.entries) e).0 ∙ ap (change f n (entries_of bs)) find-bucket

      pub change-buckets : new.entries ≡ change f n l.entries (find n l.entries) → AreBuckets (slice_set bs b new)
      change-buckets e = (change-to (find n l.entries) e).1

-- a bucket with room leaves room in the others
pub room-set : {X : Type 0} (bs : List (Listed X)) (b k : ℕ) (new : Listed X) → b < length bs → 0 < new.room → (b ≡ k) ⊎ (0 < get_or (map (λ (l : Listed X). l.room) bs) k 0) → 0 < get_or (map (λ (l : Listed X). l.room) (slice_set bs b new)) k 0
room-set [] b k new lt r h = absurd (omega arith)
room-set (x ∷ bs) zero zero new lt r h = r
room-set (x ∷ bs) zero (suc k) new lt r h = elim h [ inl e ↦ absurd (omega arith) | inr p ↦ p ]
room-set (x ∷ bs) (suc b) zero new lt r h = elim h [ inl e ↦ absurd (omega arith) | inr p ↦ p ]
room-set (x ∷ bs) (suc b) (suc k) new lt r h = room-set bs b k new (omega arith) r (elim h [ inl e ↦ inl (omega arith) | inr p ↦ inr p ])

pub room-within : (rooms : List ℕ) (k : ℕ) → 0 < get_or rooms k 0 → k < length rooms
room-within [] k r = absurd (omega arith)
room-within (x ∷ rooms) zero r = omega arith
room-within (x ∷ rooms) (suc k) r = let lt = room-within rooms k r in omega (arith, lt)

-- ---- the entries of a digest
one-other : (xs ys : List ℕ) (b : Bool) → bytes_eq xs ys ≡ b → (get_or xs 0 0 ≡ get_or ys 0 0 → ⊥) → b ≡ false
one-other xs ys true e h = absurd (h (ap (λ v. get_or v 0 0) ((bytes_eq-Decides xs ys).0 e)))
one-other xs ys false e h = refl

none-step : {X : Type 0} (b : Bool) (x : Name × X) (ys : List (Name × X)) → b ≡ false → ys ≡ [] → cond b (x ∷ ys) ys ≡ []
none-step true x ys e h = cc e
none-step false x ys e h = h

none-of : {X : Type 0} (digest : List ℕ) (es : List (Name × X)) → AllByRecursion (λ m. first_byte m ≡ get_or digest 0 0 → ⊥) (map (λ e. e.0) es) → filter (λ e. bytes_eq e.0.digest digest) es ≡ []
none-of digest [] h = refl
none-of digest (e ∷ es) h = none-step (bytes_eq e.0.digest digest) e (filter (λ e. bytes_eq e.0.digest digest) es) (one-other e.0.digest digest (bytes_eq e.0.digest digest) refl h.0) (none-of digest es h.1)

own-digest : {X : Type 0} (digest : List ℕ) (i b : ℕ) (l : Listed X) (bs : List (Listed X)) → get_or digest 0 0 ≡ i + b → ArePlaced i bs → slice_get bs b ≡ Some l → filter (λ e. bytes_eq e.0.digest digest) l.entries ≡ filter (λ e. bytes_eq e.0.digest digest) (entries_of bs)
own-digest digest i b l [] f p s = cc s
own-digest {X = X} digest i zero l (x ∷ bs) f p s =
    let same : l ≡ x = cc s in
    let none = none-of digest (entries_of bs) (all-map (λ m. suc i ≤ first_byte m) (λ m. first_byte m ≡ get_or digest 0 0 → ⊥) (map (λ e. e.0) (entries_of bs)) (λ m h e. omega arith) (placed-from (suc i) bs p.1)) in
    ap (λ (y : Listed X). filter (λ e. bytes_eq e.0.digest digest) y.entries) same
    ∙ sym (append-nil (filter (λ e. bytes_eq e.0.digest digest) x.entries))
    ∙ ap (λ v. filter (λ e. bytes_eq e.0.digest digest) x.entries ++ v) (sym none)
    ∙ sym (filter-append (λ e. bytes_eq e.0.digest digest) x.entries (entries_of bs))
own-digest digest i (suc b) l (x ∷ bs) f p s =
    let none = none-of digest x.entries (all-map (λ m. first_byte m ≡ i) (λ m. first_byte m ≡ get_or digest 0 0 → ⊥) (map (λ e. e.0) x.entries) (λ m h e. omega arith) p.0) in
    own-digest digest (suc i) b l bs (omega arith) p.1 s
    ∙ ap (λ v. v ++ filter (λ e. bytes_eq e.0.digest digest) (entries_of bs)) (sym none)
    ∙ sym (filter-append (λ e. bytes_eq e.0.digest digest) x.entries (entries_of bs))

pub digest-bucket : {X : Type 0} (digest : List ℕ) (b : ℕ) (l : Listed X) (bs : List (Listed X)) → AreBuckets bs → b ≡ get_or digest 0 0 → slice_get bs b ≡ Some l → filter (λ e. bytes_eq e.0.digest digest) l.entries ≡ filter (λ e. bytes_eq e.0.digest digest) (entries_of bs)
digest-bucket digest b l bs is f s = own-digest digest 0 b l bs (omega arith) is.placed s

-- ---- a bucket more that has no names
pub entries-more : {X : Type 0} (bs : List (Listed X)) (l : Listed X) → l.entries ≡ [] → entries_of (bs ++ l ∷ []) ≡ entries_of bs
entries-more [] l e = ap (λ v. v ++ []) e
entries-more (b ∷ bs) l e = ap (λ v. b.entries ++ v) (entries-more bs l e)

pub placed-more : {X : Type 0} (i : ℕ) (bs : List (Listed X)) (l : Listed X) → l.entries ≡ [] → ArePlaced i bs → ArePlaced i (bs ++ l ∷ [])
placed-more i [] l e p = (subst (λ v. AllByRecursion (λ m. first_byte m ≡ i) (map (λ e. e.0) v)) (sym e) tt, tt)
placed-more i (b ∷ bs) l e p = (p.0, placed-more (suc i) bs l e p.1)

-- ---- the entries above a name
all-behind : {X : Type 0} (n : Name) (i : ℕ) (bs : List (Listed X)) → first_byte n < i → ArePlaced i bs → entries_of bs ≡ entries_above (Some n) bs
all-behind n i [] lt p = refl
all-behind {X = X} n i (b ∷ bs) lt p =
    let all : AllByRecursion (λ m. name_cmp n m ≡ Less) (map (λ e. e.0) b.entries) = all-map (λ m. first_byte m ≡ i) (λ m. name_cmp n m ≡ Less) (map (λ e. e.0) b.entries) (λ m h. first-less n m (omega arith)) p.0 in
    ap (λ v. v ++ entries_of bs) (sym (ap (λ (c : Cut X). c.back) (cut-above n [] b.entries all)))
    ∙ ap (λ v. above (Some n) b.entries ++ v) (all-behind n (suc i) bs (omega arith) p.1)

above-from : {X : Type 0} (n : Name) (i b : ℕ) (bs : List (Listed X)) → first_byte n ≡ i + b → ArePlaced i bs → (cut n (entries_of bs)).back ≡ entries_above (Some n) (drop b bs)
above-from n i zero [] f p = refl
above-from n i (suc b) [] f p = refl
above-from {X = X} n i zero (x ∷ bs) f p =
    ap (λ (c : Cut X). c.back) (cut-above n x.entries (entries_of bs) (all-later n (suc i) bs (omega arith) p.1))
    ∙ ap (λ v. above (Some n) x.entries ++ v) (all-behind n (suc i) bs (omega arith) p.1)
above-from {X = X} n i (suc b) (x ∷ bs) f p =
    ap (λ (c : Cut X). c.back) (cut-below n x.entries (entries_of bs) (all-earlier n i x.entries (omega arith) p.0)) ∙ above-from n (suc i) b bs (omega arith) p.1

pub above-buckets : {X : Type 0} (after : Option Name) (bs : List (Listed X)) → AreBuckets bs → entries_above after (drop (first_bucket after) bs) ≡ above after (entries_of bs)
above-buckets None bs is = refl
above-buckets (Some n) bs is = sym (above-from n 0 (first_byte n) bs (sym (zero-add (first_byte n))) is.placed)

-- the part of the buckets that a start gives
pub from-start : {X : Type 0} (after : Option Name) (k start : ℕ) (bs given : List (Listed X)) → AreBuckets bs → given ≡ bs → k ≡ first_bucket after → k < 256 → start ≡ min k (length bs) → entries_above after (take (length given - start) (drop start given)) ≡ above after (entries_of bs)
from-start {X = X} after k start bs given is g f lt e =
    ap (λ v. entries_above after (take (length v - start) (drop start v))) g
    ∙ ap (entries_above after) (take_all (length bs - start) (drop start bs) (omega (arith, length-drop start bs)) ∙ start-at is.number)
    ∙ ap (λ j. entries_above after (drop j bs)) f
    ∙ above-buckets after bs is
  where
    drop-nil : (i : ℕ) (xs : List (Listed X)) → xs ≡ [] → drop i xs ≡ xs
    drop-nil zero xs e = refl
    drop-nil (suc i) [] e = refl
    drop-nil (suc i) (x ∷ xs) e = cc e

    start-at : (bs ≡ []) ⊎ (length bs ≡ 256) → drop start bs ≡ drop k bs
    start-at h = elim h [ inl n ↦ drop-nil start bs n ∙ sym (drop-nil k bs n) | inr n ↦ ap (λ j. drop j bs) (let same : start ≡ k = omega arith in same) ]

-- where all buckets from a place on have no entries, the one at the place has none
no-front : {A : Type 0} (xs ys : List A) → xs ++ ys ≡ [] → xs ≡ []
no-front [] ys e = refl
no-front (x ∷ xs) ys e = cc e

pub nothing-first : {X : Type 0} (bs : List (Listed X)) (i : ℕ) (l : Listed X) → i < length bs → l ≡ get_or bs i l → entries_of (drop i bs) ≡ [] → l.entries ≡ []
nothing-first {X = X} bs i l lt is e = ap (λ (v : Listed X). v.entries) is ∙ no-front (get_or bs i l).entries (entries_of (drop (i + 1) bs)) (sym (at_drop_more entries_of bs i l lt) ∙ e)

-- ---- what an answer learns of a bucket
pub read-at : {X : Type 0} (bs given : List (Listed X)) (b : ℕ) (l : Listed X) → given ≡ bs → b < length given → l ≡ get_or given b l → slice_get bs b ≡ Some l
read-at bs given b l e lt is = ap (λ v. slice_get v b) (sym e) ∙ slice_get_read given _ b l refl lt is

pub on-ok : {A E : Type 0} {P Q : Type 0} (r : Result A E) → (P → Q) → OnOk r P → OnOk r Q
on-ok (Ok a) f h = f h
on-ok (Err e) f h = tt

-- ---- a walk through the buckets
pub above-step : {X : Type 0} (after : Option Name) (bs : List (Listed X)) (i : ℕ) (l : Listed X) → i < length bs → l ≡ get_or bs i l → entries_above after (drop i bs) ≡ above after l.entries ++ entries_above after (drop (i + 1) bs)
above-step {X = X} after bs i l lt is = at_drop_more (entries_above after) bs i l lt ∙ ap (λ (v : Listed X). above after v.entries ++ entries_above after (drop (i + 1) bs)) (sym is)

pub none-above : {X : Type 0} (after : Option Name) (bs : List (Listed X)) (i : ℕ) → length bs ≤ i → entries_above after (drop i bs) ≡ []
none-above after [] zero le = refl
none-above after [] (suc i) le = refl
none-above after (b ∷ bs) zero le = absurd (omega arith)
none-above after (b ∷ bs) (suc i) le = none-above after bs i (omega arith)
