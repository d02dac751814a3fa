-- A walk over a list whose keys rise: from each element to the next that passes a test.
use Rattle.std.proofs.Common.{◌≡◌, ◌<◌, ◌≤◌, ◌+◌, ◌&&◌, ◌||◌, ℕ, List, [], ◌∷◌, Bool, true, false, cond, not, map, filter, length, nat_eq, Option, Some, None, refl, ap, sym, subst, ◌∙◌, arith}
use Rattle.std.specs.Prelude.{nat_lt}
use Rattle.std.specs.List.{find}
use Rattle.std.proofs.lemmas.Bool.{ne_eqb, lt-ltb, le-ltb, eq-eqb, ltb-true, and_parts, and_right}
use Rattle.keep_table.specs.Contents.{RisesAbove}
use Rattle.keep_table.specs.Maps.{next_by}
use Rattle.keep_table.proofs.Keyed.{without-none}

-- ---- lists

pub filter-congr : {X : Type 0} (p q : X → Bool) (xs : List X) → ((x : X) → p x ≡ q x) → filter p xs ≡ filter q xs
filter-congr p q [] h = refl
filter-congr p q (x ∷ xs) h = rw (h x, filter-congr p q xs h) refl

and-true : (b : Bool) → (b && true) ≡ b
and-true true = refl
and-true false = refl

or-true : (b : Bool) → (b || true) ≡ true
or-true true = refl
or-true false = refl

pub not-not : (b : Bool) → not (not b) ≡ b
not-not true = refl
not-not false = refl

-- ---- what a search finds

above-cond : {X : Type 0} (key : X → ℕ) (b : Bool) (low : ℕ) (r row : X) (rest : Option X) → low < (key r) → (rest ≡ Some row → (key r) < (key row)) → cond b (Some r) rest ≡ Some row → low < (key row)
above-cond key true low r row rest lt next e = let same : r ≡ row = cc in let is : (key r) ≡ (key row) = ap key same in omega arith
above-cond key false low r row rest lt next e = let more = next e in omega arith

pub found-above : {X : Type 0} (key : X → ℕ) (q : X → Bool) (low : ℕ) (rs : List X) (row : X) → RisesAbove low (map key rs) → find q rs ≡ Some row → low < (key row)
found-above key q low [] row h e = absurd (cc)
found-above key q low (r ∷ rs) row h e = above-cond key (q r) low r row (find q rs) h.0 (λ e. found-above key q (key r) rs row h.1 e) e

passes-cond : {X : Type 0} (q : X → Bool) (b : Bool) (x y : X) (rest : Option X) → q x ≡ b → (rest ≡ Some y → q y ≡ true) → cond b (Some x) rest ≡ Some y → q y ≡ true
passes-cond q true x y rest is next e = let same : x ≡ y = cc in ap q (sym same) ∙ is
passes-cond q false x y rest is next e = next e

pub found-passes : {X : Type 0} (q : X → Bool) (xs : List X) (y : X) → find q xs ≡ Some y → q y ≡ true
found-passes q [] y e = absurd (cc)
found-passes q (x ∷ xs) y e = passes-cond q (q x) x y (find q xs) refl (λ e. found-passes q xs y e) e

-- ---- from one record to the next

-- above a bound that isn't above the first revision
pub later-all : {X : Type 0} (key : X → ℕ) (p : X → Bool) (a low : ℕ) (rs : List X) → a ≤ low → RisesAbove low (map key rs) → filter (next_by key p a) rs ≡ filter p rs
later-all key p a low [] le h = refl
later-all key p a low (r ∷ rs) le h = rw (lt-ltb a (key r) (omega (arith, h.0)), and-true (p r), later-all key p a (key r) rs (omega (arith, h.0)) h.1) refl

-- what doesn't pass the wider test doesn't pass the narrower one
narrower : (p b lt : Bool) → (p ≡ true → b ≡ true) → (b && lt) ≡ false → (p && lt) ≡ false
narrower true b lt h e = (ap (λ x. x && lt) (sym (h refl)) ∙ e)
narrower false b lt h e = refl

more-here : {X : Type 0} (key : X → ℕ) (p : X → Bool) (a : ℕ) (r : X) (rs : List X) → a < (key r) → RisesAbove (key r) (map key rs) →
    filter (next_by key p a) (r ∷ rs) ≡ cond (p r) (r ∷ filter (next_by key p (key r)) (r ∷ rs)) (filter (next_by key p (key r)) (r ∷ rs))
more-here key p a r rs lt h =
    rw (lt-ltb a (key r) lt, and-true (p r), le-ltb (key r) (key r) (omega arith), and_right (p r) false refl, later-all key p a (key r) rs (omega arith) h, later-all key p (key r) (key r) rs (omega arith) h) refl

more-there : {X : Type 0} (key : X → ℕ) (p : X → Bool) (a : ℕ) (r row : X) (rs : List X) → next_by key p a r ≡ false → (key r) < (key row) →
    filter (next_by key p a) rs ≡ cond (p row) (row ∷ filter (next_by key p (key row)) rs) (filter (next_by key p (key row)) rs) →
    filter (next_by key p a) (r ∷ rs) ≡ cond (p row) (row ∷ filter (next_by key p (key row)) (r ∷ rs)) (filter (next_by key p (key row)) (r ∷ rs))
more-there key p a r row rs other lt rest = rw (other, le-ltb (key row) (key r) (omega arith), and_right (p r) false refl) rest

more-cond : {X : Type 0} (key : X → ℕ) (b p : X → Bool) (t : Bool) (a : ℕ) (r row : X) (rs : List X) → ((r : X) → p r ≡ true → b r ≡ true) → next_by key b a r ≡ t → RisesAbove (key r) (map key rs) →
    (find (next_by key b a) rs ≡ Some row → filter (next_by key p a) rs ≡ cond (p row) (row ∷ filter (next_by key p (key row)) rs) (filter (next_by key p (key row)) rs)) →
    cond t (Some r) (find (next_by key b a) rs) ≡ Some row →
    filter (next_by key p a) (r ∷ rs) ≡ cond (p row) (row ∷ filter (next_by key p (key row)) (r ∷ rs)) (filter (next_by key p (key row)) (r ∷ rs))
more-cond key b p true a r row rs wider is h rest e =
    let same : r ≡ row = cc in
    let lt = ltb-true a (key r) (and_parts (b r) (nat_lt a (key r)) is).1 in
    subst (λ x. filter (next_by key p a) (r ∷ rs) ≡ cond (p x) (x ∷ filter (next_by key p (key x)) (r ∷ rs)) (filter (next_by key p (key x)) (r ∷ rs))) same (more-here key p a r rs lt h)
more-cond key b p false a r row rs wider is h rest e =
    more-there key p a r row rs (narrower (p r) (b r) (nat_lt a (key r)) (wider r) is) (found-above key (next_by key b a) (key r) rs row h e) (rest e)

-- those that pass a narrower test above a bound: the next one, where it passes, and those above that one
pub next-more : {X : Type 0} (key : X → ℕ) (b p : X → Bool) (a low : ℕ) (rs : List X) (row : X) → ((r : X) → p r ≡ true → b r ≡ true) → RisesAbove low (map key rs) → find (next_by key b a) rs ≡ Some row →
    filter (next_by key p a) rs ≡ cond (p row) (row ∷ filter (next_by key p (key row)) rs) (filter (next_by key p (key row)) rs)
next-more key b p a low [] row wider h e = absurd (cc)
next-more key b p a low (r ∷ rs) row wider h e =
    more-cond key b p (next_by key b a r) a r row rs wider refl h.1 (λ e. next-more key b p a (key r) rs row wider h.1 e) e

none-cond : {X : Type 0} (key : X → ℕ) (b p : X → Bool) (t : Bool) (a : ℕ) (r : X) (rs : List X) → ((r : X) → p r ≡ true → b r ≡ true) → next_by key b a r ≡ t →
    (find (next_by key b a) rs ≡ None → filter (next_by key p a) rs ≡ []) → cond t (Some r) (find (next_by key b a) rs) ≡ None → filter (next_by key p a) (r ∷ rs) ≡ []
none-cond key b p true a r rs wider is rest e = absurd (cc)
none-cond key b p false a r rs wider is rest e = rw (narrower (p r) (b r) (nat_lt a (key r)) (wider r) is) (rest e)

pub next-none : {X : Type 0} (key : X → ℕ) (b p : X → Bool) (a : ℕ) (rs : List X) → ((r : X) → p r ≡ true → b r ≡ true) → find (next_by key b a) rs ≡ None → filter (next_by key p a) rs ≡ []
next-none key b p a [] wider e = refl
next-none key b p a (r ∷ rs) wider e = none-cond key b p (next_by key b a r) a r rs wider refl (λ e. next-none key b p a rs wider e) e

-- fewer are left above the next one
pub fewer : {X : Type 0} (key : X → ℕ) (b : X → Bool) (a low : ℕ) (rs : List X) (row : X) → RisesAbove low (map key rs) → find (next_by key b a) rs ≡ Some row → length (filter (next_by key b (key row)) rs) + 1 ≡ length (filter (next_by key b a) rs)
fewer key b a low rs row h e =
    let passes = (and_parts (b row) (nat_lt a (key row)) (found-passes (next_by key b a) rs row e)).0 in
    rw (next-more key b b a low rs row (λ r t. t) h e, passes) (omega arith)

-- ---- records that go as the walk passes them

-- what a walk has left that takes the bad ones out, as far as the bound
abbrev pub keeps : {X : Type 0} → (X → ℕ) → (X → Bool) → ℕ → X → Bool
keeps key bad a r = not (bad r) || nat_lt a (key r)

pub keeps-all : {X : Type 0} (key : X → ℕ) (bad : X → Bool) (a low : ℕ) (rs : List X) → a ≤ low → RisesAbove low (map key rs) → filter (keeps key bad a) rs ≡ rs
keeps-all key bad a low [] le h = refl
keeps-all key bad a low (r ∷ rs) le h = rw (lt-ltb a (key r) (omega (arith, h.0)), or-true (not (bad r)), keeps-all key bad a (key r) rs (omega (arith, h.0)) h.1) refl

kept-cond : {X : Type 0} (key : X → ℕ) (b : X → Bool) (bad lt : Bool) (a : ℕ) (r : X) (rs ks : List X) → nat_lt a (key r) ≡ lt → find (next_by key b a) ks ≡ find (next_by key b a) rs →
    find (next_by key b a) (cond (not bad || lt) (r ∷ ks) ks) ≡ find (next_by key b a) (r ∷ rs)
kept-cond key b bad true a r rs ks is rest = rw (or-true (not bad), rest) refl
kept-cond key b true false a r rs ks is rest = rw (is, and_right (b r) false refl) rest
kept-cond key b false false a r rs ks is rest = rw rest refl

-- the next one is the next one of all
pub kept-next : {X : Type 0} (key : X → ℕ) (b bad : X → Bool) (a : ℕ) (rs : List X) → find (next_by key b a) (filter (keeps key bad a) rs) ≡ find (next_by key b a) rs
kept-next key b bad a [] = refl
kept-next key b bad a (r ∷ rs) = kept-cond key b (bad r) (nat_lt a (key r)) a r rs (filter (keeps key bad a) rs) refl (kept-next key b bad a rs)

same-keeps : (bad b lt : Bool) → (bad ≡ true → b ≡ true) → (b && lt) ≡ false → (not bad || lt) ≡ not bad
same-keeps true b lt h e = ap (λ x. x && lt) (sym (h refl)) ∙ e
same-keeps false b lt h e = refl

-- a walk at its end has taken all bad ones out
pub keeps-end : {X : Type 0} (key : X → ℕ) (b bad : X → Bool) (a : ℕ) (rs : List X) → ((r : X) → bad r ≡ true → b r ≡ true) → find (next_by key b a) rs ≡ None → filter (keeps key bad a) rs ≡ filter (λ r. not (bad r)) rs
keeps-end key b bad a [] wider e = refl
keeps-end key b bad a (r ∷ rs) wider e = end-cond key b bad (next_by key b a r) a r rs wider refl (λ e. keeps-end key b bad a rs wider e) e
  where
    end-cond : {X : Type 0} (key : X → ℕ) (b bad : X → Bool) (t : Bool) (a : ℕ) (r : X) (rs : List X) → ((r : X) → bad r ≡ true → b r ≡ true) → next_by key b a r ≡ t →
        (find (next_by key b a) rs ≡ None → filter (keeps key bad a) rs ≡ filter (λ r. not (bad r)) rs) → cond t (Some r) (find (next_by key b a) rs) ≡ None → filter (keeps key bad a) (r ∷ rs) ≡ filter (λ r. not (bad r)) (r ∷ rs)
    end-cond key b bad true a r rs wider is rest e = absurd (cc)
    end-cond key b bad false a r rs wider is rest e = rw (same-keeps (bad r) (b r) (nat_lt a (key r)) (wider r) is, rest e) refl

-- the records without the one that has the revision
abbrev pub without : {X : Type 0} → (X → ℕ) → ℕ → List X → List X
without key revision rs = filter (λ r. not (nat_eq (key r) revision)) rs

without-cond : {X : Type 0} (key : X → ℕ) (k : Bool) (v : ℕ) (r : X) (ks rs : List X) → nat_eq (key r) v ≡ false → without key v ks ≡ rs → without key v (cond k (r ∷ ks) ks) ≡ cond k (r ∷ rs) rs
without-cond key true v r ks rs is rest = rw (is, rest) refl
without-cond key false v r ks rs is rest = rest

drop-here : {X : Type 0} (key : X → ℕ) (bad : X → Bool) (a : ℕ) (r : X) (rs : List X) → a < (key r) → RisesAbove (key r) (map key rs) → bad r ≡ true →
    without key (key r) (filter (keeps key bad a) (r ∷ rs)) ≡ filter (keeps key bad (key r)) (r ∷ rs)
drop-here key bad a r rs lt h gone =
    rw (lt-ltb a (key r) lt, gone, le-ltb (key r) (key r) (omega arith), keeps-all key bad a (key r) rs (omega arith) h, keeps-all key bad (key r) (key r) rs (omega arith) h, eq-eqb (key r) (key r) refl)
    (without-none key (key r) (key r) rs (omega arith) h)

drop-cond : {X : Type 0} (key : X → ℕ) (b bad : X → Bool) (t : Bool) (a : ℕ) (r row : X) (rs : List X) → ((r : X) → bad r ≡ true → b r ≡ true) → next_by key b a r ≡ t → RisesAbove (key r) (map key rs) → bad row ≡ true →
    (find (next_by key b a) rs ≡ Some row → without key (key row) (filter (keeps key bad a) rs) ≡ filter (keeps key bad (key row)) rs) →
    cond t (Some r) (find (next_by key b a) rs) ≡ Some row → without key (key row) (filter (keeps key bad a) (r ∷ rs)) ≡ filter (keeps key bad (key row)) (r ∷ rs)
drop-cond key b bad true a r row rs wider is h gone rest e =
    let same : r ≡ row = cc in
    let lt = ltb-true a (key r) (and_parts (b r) (nat_lt a (key r)) is).1 in
    subst (λ x. without key (key x) (filter (keeps key bad a) (r ∷ rs)) ≡ filter (keeps key bad (key x)) (r ∷ rs)) same (drop-here key bad a r rs lt h (ap bad same ∙ gone))
drop-cond key b bad false a r row rs wider is h gone rest e =
    let lt = found-above key (next_by key b a) (key r) rs row h e in
    rw (same-keeps (bad r) (b r) (nat_lt a (key r)) (wider r) is, same-keeps (bad r) (b r) (nat_lt (key row) (key r)) (wider r) (rw (le-ltb (key row) (key r) (omega arith)) (and_right (b r) false refl)))
    (without-cond key (not (bad r)) (key row) r (filter (keeps key bad a) rs) (filter (keeps key bad (key row)) rs) (ne_eqb (key r) (key row) (λ e. omega arith)) (rest e))

-- a bad one goes as the walk passes it
pub keeps-dropped : {X : Type 0} (key : X → ℕ) (b bad : X → Bool) (a low : ℕ) (rs : List X) (row : X) → ((r : X) → bad r ≡ true → b r ≡ true) → RisesAbove low (map key rs) → bad row ≡ true → find (next_by key b a) rs ≡ Some row →
    without key (key row) (filter (keeps key bad a) rs) ≡ filter (keeps key bad (key row)) rs
keeps-dropped key b bad a low [] row wider h gone e = absurd (cc)
keeps-dropped key b bad a low (r ∷ rs) row wider h gone e = drop-cond key b bad (next_by key b a r) a r row rs wider refl h.1 gone (λ e. keeps-dropped key b bad a (key r) rs row wider h.1 gone e) e

pass-here : {X : Type 0} (key : X → ℕ) (bad : X → Bool) (a : ℕ) (r : X) (rs : List X) → a < (key r) → RisesAbove (key r) (map key rs) → bad r ≡ false → filter (keeps key bad a) (r ∷ rs) ≡ filter (keeps key bad (key r)) (r ∷ rs)
pass-here key bad a r rs lt h good = rw (good, keeps-all key bad a (key r) rs (omega arith) h, keeps-all key bad (key r) (key r) rs (omega arith) h) refl

pass-cond : {X : Type 0} (key : X → ℕ) (b bad : X → Bool) (t : Bool) (a : ℕ) (r row : X) (rs : List X) → ((r : X) → bad r ≡ true → b r ≡ true) → next_by key b a r ≡ t → RisesAbove (key r) (map key rs) → bad row ≡ false →
    (find (next_by key b a) rs ≡ Some row → filter (keeps key bad a) rs ≡ filter (keeps key bad (key row)) rs) →
    cond t (Some r) (find (next_by key b a) rs) ≡ Some row → filter (keeps key bad a) (r ∷ rs) ≡ filter (keeps key bad (key row)) (r ∷ rs)
pass-cond key b bad true a r row rs wider is h good rest e =
    let same : r ≡ row = cc in
    let lt = ltb-true a (key r) (and_parts (b r) (nat_lt a (key r)) is).1 in
    subst (λ x. filter (keeps key bad a) (r ∷ rs) ≡ filter (keeps key bad (key x)) (r ∷ rs)) same (pass-here key bad a r rs lt h (ap bad same ∙ good))
pass-cond key b bad false a r row rs wider is h good rest e =
    let lt = found-above key (next_by key b a) (key r) rs row h e in
    rw (same-keeps (bad r) (b r) (nat_lt a (key r)) (wider r) is, same-keeps (bad r) (b r) (nat_lt (key row) (key r)) (wider r) (rw (le-ltb (key row) (key r) (omega arith)) (and_right (b r) false refl)), rest e) refl

-- a good one stays
pub keeps-passed : {X : Type 0} (key : X → ℕ) (b bad : X → Bool) (a low : ℕ) (rs : List X) (row : X) → ((r : X) → bad r ≡ true → b r ≡ true) → RisesAbove low (map key rs) → bad row ≡ false → find (next_by key b a) rs ≡ Some row →
    filter (keeps key bad a) rs ≡ filter (keeps key bad (key row)) rs
keeps-passed key b bad a low [] row wider h good e = absurd (cc)
keeps-passed key b bad a low (r ∷ rs) row wider h good e = pass-cond key b bad (next_by key b a r) a r row rs wider refl h.1 good (λ e. keeps-passed key b bad a (key r) rs row wider h.1 good e) e

-- the next one of what a walk has left is the next one of all
pub next-of-all : {X : Type 0} (key : X → ℕ) (b bad : X → Bool) (a : ℕ) (rs ks : List X) (o : Option X) → ks ≡ filter (keeps key bad a) rs → o ≡ find (next_by key b a) ks → find (next_by key b a) rs ≡ o
next-of-all key b bad a rs ks o is e = sym (kept-next key b bad a rs) ∙ ap (λ xs. find (next_by key b a) xs) (sym is) ∙ sym e
