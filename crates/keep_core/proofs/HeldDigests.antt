-- The digests that are named by what is kept of each collection are those that held versions name: `referred-is`.
use Rattle.std.proofs.Common.{◌≡◌, ℕ, List, [], ◌∷◌, ◌++◌, map, filter, Bool, true, false, cond, refl, sym, ◌∙◌, ap, subst, inl, inr, Option, None, Some, eq-eqb}
use Rattle.std.specs.Prelude.{◌↔◌, All, Result, Ok, Err, IfOk}
use Rattle.std.specs.BTreeMap.{get}
use Rattle.std.specs.List.{flat_map, AllByRecursion}
use Rattle.std.specs.Ordering.{nat_cmp}
use Rattle.std.proofs.lemmas.List.Elements.{recursion_from_All}
use Rattle.keep_spec.specs.Config.{Configuration}
use Rattle.keep_spec.specs.Members.{IsIn}
use Rattle.keep_order.proofs.Lists.{Joins, in-joined, joined-in, in-filter, filter-in}
use Rattle.keep_core.specs.declared.held.Held.{Held}
use Rattle.keep_core.specs.declared.held.Tracked.{Tracked}
use Rattle.keep_core.specs.declared.held.Version.{Version}
use Rattle.keep_safety.specs.Past.{Past}
use Rattle.keep_safety.specs.Rows.{rows, refs}
use Rattle.keep_core.specs.Seen.{version_of, named_by, last_sweep, last_swept, passed, outlives_by, tracked_of, left, named_where, named_left, Tracks, IsKnown}
use Rattle.keep_core.proofs.HeldVersions.{is_of, left-alike}
use Rattle.keep_core.proofs.LiveDigests.{named_as}
use Rattle.keep_core.proofs.Sweeps.{found-in}

pub mapped : {A E : Type 0} (P Q : A → Type 0) (r : Result A E) → ((a : A) → P a → Q a) → IfOk r P → IfOk r Q
mapped P Q (Ok a) f h = f a h
mapped P Q (Err e) f h = h

all-at : {X : Type 0} (P : X → Type 0) (x : X) (xs : List X) → AllByRecursion P xs → IsIn x xs → P x
all-at P x [] h i = absurd i
all-at P x (y ∷ ys) h (inl e) = subst P (sym e) h.0
all-at P x (y ∷ ys) h (inr i) = all-at P x ys h.1 i

where-by : (p : Version → Bool) (v : Version) (vs : List Version) (b : Bool) (rest : List (List ℕ)) → named_by vs ≡ rest → named_where b v.named ++ rest ≡ named_by (cond b (v ∷ vs) vs)
where-by p v vs true rest e = ap (λ x. v.named ++ x) (sym e)
where-by p v vs false rest e = sym e

named-where : (p : Version → Bool) (vs : List Version) → flat_map (λ v. named_where (p v) v.named) vs ≡ named_by (filter p vs)
named-where p [] = refl
named-where p (v ∷ vs) = where-by p v (filter p vs) (p v) (flat_map (λ v. named_where (p v) v.named) vs) (sym (named-where p vs))

-- named by what is left
left-as : (c : Configuration) (last : ℕ → ℕ) (k : Tracked) → named_left c last k ≡ named_by (left c last k)
left-as c last k = named-where (λ v. outlives_by c (passed k.events last) k.delete_at v.superseded) k.versions

module _ (c : Configuration) (past : Past) (h : Held) (known : IsKnown c past h) (d : List ℕ) where
  abbrev last : ℕ → ℕ
  last t = last_sweep t h.sweeps.entries

  abbrev here : ℕ × Tracked → List (List ℕ)
  here e = named_left c last e.1

  abbrev all : List Version
  all = map version_of (rows c past)

  -- a collection's versions, as they are kept
  own : (n : ℕ) (k : Tracked) → tracked_of (get nat_cmp h.collections n) ≡ k → named_left c last k ≡ named_by (filter (is_of n) all)
  own n k is = left-as c last k ∙ ap named_by (left-alike c last (λ t. last_swept t past) k known.sweeps ∙ sym (let t : Tracks c past n k = subst (λ k. Tracks c past n k) is (known.tracked n) in t.held))

  of-all : (n : ℕ) → IsIn d (named_by (filter (is_of n) all)) → IsIn d (refs c past)
  of-all n i =
      let j : Joins (λ (v : Version). v.named) d (filter (is_of n) all) = in-joined (λ (v : Version). v.named) d (filter (is_of n) all) i in
      subst (λ v. IsIn d v) (named_as (rows c past)) (joined-in (λ (v : Version). v.named) j.from d all ((in-filter (is_of n) j.from all j.member).0) j.has)

  pub to-refs : AllByRecursion (λ e. get nat_cmp h.collections e.0 ≡ Some e.1) h.collections.entries → IsIn d (flat_map here h.collections.entries) → IsIn d (refs c past)
  to-refs found i =
      let j : Joins here d h.collections.entries = in-joined here d h.collections.entries i in
      of-all j.from.0 (subst (λ v. IsIn d v) (own j.from.0 j.from.1 (ap tracked_of (all-at (λ e. get nat_cmp h.collections e.0 ≡ Some e.1) j.from h.collections.entries found j.member))) j.has)

  kept-by : (n : ℕ) (o : Option Tracked) → get nat_cmp h.collections n ≡ o → IsIn d (named_left c last (tracked_of o)) → IsIn d (flat_map here h.collections.entries)
  kept-by n None is i = absurd i
  kept-by n (Some k) is i = let at = found-in n k h.collections.entries is in joined-in here (at.0, k) d h.collections.entries at.1 i

  from-version : Joins (λ (v : Version). v.named) d all → IsIn d (flat_map here h.collections.entries)
  from-version j =
      let n = j.from.collection in
      let own-versions : IsIn d (named_by (filter (is_of n) all)) = joined-in (λ (v : Version). v.named) j.from d (filter (is_of n) all) (filter-in (is_of n) j.from all j.member (eq-eqb n n refl)) j.has in
      kept-by n (get nat_cmp h.collections n) refl (subst (λ v. IsIn d v) (sym (own n (tracked_of (get nat_cmp h.collections n)) refl)) own-versions)

  pub from-refs : IsIn d (refs c past) → IsIn d (flat_map here h.collections.entries)
  from-refs i = from-version (in-joined (λ (v : Version). v.named) d all (subst (λ v. IsIn d v) (sym (named_as (rows c past))) i))

pub referred-is : (c : Configuration) (past : Past) (h : Held) → IsKnown c past h → All (λ e. get nat_cmp h.collections e.0 ≡ Some e.1) h.collections.entries → (items : List (List ℕ)) →
    items ≡ flat_map (λ e. named_left c (λ t. last_sweep t h.sweeps.entries) e.1) h.collections.entries → (d : List ℕ) → IsIn d items ↔ IsIn d (refs c past)
referred-is c past h known found items is d = (
  λ i. to-refs c past h known d (recursion_from_All _ _ found) (subst (λ v. IsIn d v) is i),
  λ i. subst (λ v. IsIn d v) (sym is) (from-refs c past h known d i),
)
