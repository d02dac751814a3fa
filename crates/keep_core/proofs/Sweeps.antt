-- The map of sweeps: the first above a time (`first-above`), an older one taken out (`popped`), a new one put in front (`put-first`), both together (`taken-out`, `put-in`); and members of a map's entries (`found-in`).
use Rattle.std.proofs.Common.{◌≡◌, ◌&&◌, ℕ, List, [], ◌∷◌, Bool, true, false, cond, filter, Option, Some, None, IfSome, IfNone, refl, sym, ◌∙◌, ap, arith, inl, inr}
use Rattle.std.specs.Prelude.{nat_lt}
use Rattle.std.specs.BTreeMap.{insert_entry, is_at}
use Rattle.std.specs.BTreeMap.Range.{range_contains}
use Rattle.std.specs.Map.{lookup}
use Rattle.std.specs.Ordering.{nat_cmp}
use Rattle.std.specs.declared.cmp.Ordering.TheVariants.{Less}
use Rattle.std.specs.declared.ops.Bound.TheVariants.{Excluded, Unbounded}
use Rattle.std.proofs.lemmas.Bool.Decides.{nat_tests}
use Rattle.keep_spec.specs.Members.{IsIn}
use Rattle.keep_table.proofs.Keyed.{lt-is}
use Rattle.keep_core.specs.Seen.{last_sweep, begins_by, swept_by}

abbrev pub first_number : List (ℕ × ℕ) → ℕ
first_number [] = 0
first_number (e ∷ es) = e.1

above : (b : Bool) (e : ℕ × ℕ) (es : List (ℕ × ℕ)) (found : ℕ) → first_number es ≡ found → first_number (cond (b && true) (e ∷ es) es) ≡ cond b e.1 found
above true e es found rest = refl
above false e es found rest = rest

pub first-above : (k : ℕ) (es : List (ℕ × ℕ)) → first_number (filter (λ e. range_contains nat_cmp (Excluded k) Unbounded e.0) es) ≡ last_sweep k es
first-above k [] = refl
first-above k (e ∷ es) = rw (lt-is k e.0) (above (nat_lt k e.0) e (filter (λ e. range_contains nat_cmp (Excluded k) Unbounded e.0) es) (last_sweep k es) (first-above k es))

-- a sweep at a reading that isn't above the time
pub popped : (reading t : ℕ) (p : ℕ × ℕ) (rest : List (ℕ × ℕ)) → begins_by reading (p ∷ rest) ≡ true → nat_lt t reading ≡ false → last_sweep t rest ≡ last_sweep t (p ∷ rest)
popped reading t p rest by up =
    let lower : nat_lt t p.0 ≡ false = grind (arith, nat_tests, by, up) in
    sym (ap (λ b. cond b p.1 (last_sweep t rest)) lower)

pub put-first : (reading events : ℕ) (es : List (ℕ × ℕ)) → begins_by reading es ≡ false → insert_entry nat_cmp es reading events ≡ (reading, events) ∷ es
put-first reading events [] up = refl
put-first reading events (e ∷ es) up = let less : nat_cmp reading e.0 ≡ Less = grind (arith, nat_tests, up) in rw less refl

-- what a look-up finds is an entry's
found-by : {X : Type 0} (k : ℕ) (x : X) (e : ℕ × X) (es : List (ℕ × X)) (b : Bool) → cond b (Some e.1) (lookup (is_at (nat_cmp k)) es) ≡ Some x → (lookup (is_at (nat_cmp k)) es ≡ Some x → (m : ℕ) × IsIn (m, x) es) → (m : ℕ) × IsIn (m, x) (e ∷ es)
found-by k x e es true is rest = (e.0, inl (ap (λ y. (e.0, y)) (sym (cc is))))
found-by k x e es false is rest = let r = rest is in (r.0, inr r.1)

pub found-in : {X : Type 0} (k : ℕ) (x : X) (es : List (ℕ × X)) → lookup (is_at (nat_cmp k)) es ≡ Some x → (m : ℕ) × IsIn (m, x) es
found-in k x [] is = absurd (cc is)
found-in k x (e ∷ es) is = found-by k x e es (is_at (nat_cmp k) e.0) is (found-in k x es)

-- ---- a sweep at a reading, noted: those at readings up to it are taken out, and it is put in front

taken-by : (reading t : ℕ) (es rest : List (ℕ × ℕ)) (r : Option (ℕ × ℕ)) → begins_by reading es ≡ true → nat_lt t reading ≡ false → IfSome r (λ p. es ≡ p ∷ rest) → IfNone r (rest ≡ es) → last_sweep t rest ≡ last_sweep t es
taken-by reading t es rest (Some p) by off some none = popped reading t p rest (sym (ap (begins_by reading) some) ∙ by) off ∙ sym (ap (last_sweep t) some)
taken-by reading t es rest None by off some none = ap (last_sweep t) none

pub taken-out : (reading t : ℕ) (r : Option (ℕ × ℕ)) (es rest : List (ℕ × ℕ)) → begins_by reading es ≡ true → nat_lt t reading ≡ false → IfSome r (λ p. es ≡ p ∷ rest) → IfNone r (rest ≡ es) → last_sweep t rest ≡ last_sweep t es
taken-out reading t r es rest by off some none = taken-by reading t es rest r by off some none

put-by : (reading events t left before : ℕ) (b : Bool) → nat_lt t reading ≡ b → (nat_lt t reading ≡ false → left ≡ before) → cond b events left ≡ cond b events before
put-by reading events t left before true e same = refl
put-by reading events t left before false e same = same e

pub put-in : (reading events t : ℕ) (es old new : List (ℕ × ℕ)) → begins_by reading es ≡ false → new ≡ insert_entry nat_cmp es reading events → ((t : ℕ) → nat_lt t reading ≡ false → last_sweep t es ≡ last_sweep t old) → last_sweep t new ≡ swept_by reading events t (last_sweep t old)
put-in reading events t es old new off is same =
    ap (last_sweep t) (is ∙ put-first reading events es off) ∙ put-by reading events t (last_sweep t es) (last_sweep t old) (nat_lt t reading) refl (same t)
