-- What is known of the names of a run is known again when a name is set: `names-set`; a new name makes one name more, `length-new`.
use Rattle.std.proofs.Common.{◌≡◌, ◌≤◌, ◌<◌, ℕ, suc, Bool, true, false, List, [], ◌∷◌, cond, length, Option, None, Some, refl, sym, ◌∙◌, ap, subst, arith, inl, inr}
use Rattle.std.specs.Prelude.{◌⊎◌}
use Rattle.std.specs.Str.{bytes_eq}
use Rattle.std.proofs.lemmas.Slice.Eq.{bytes_eq-Decides}
use Rattle.std.specs.Ordering.{match_ordering, nat_cmp, is_eq}
use Rattle.std.specs.Cmp.Lexicographic.{slice_cmp}
use Rattle.std.specs.BTreeMap.{is_at}
use Rattle.std.specs.declared.cmp.Ordering.{Ordering}
use Rattle.std.specs.declared.cmp.Ordering.TheVariants.{Less, Equal, Greater}
use Rattle.keep_spec.specs.Config.{Configuration}
use Rattle.keep_safety.specs.Past.{Past}
use Rattle.keep_history.specs.declared.task.TaskState.{TaskState}
use Rattle.keep_history.specs.declared.task.TaskState.TheVariants as S
use Rattle.keep_history.specs.Effects.{Standing}
use Rattle.keep_history.specs.Names.{Named, at_name, with_name}
use Rattle.keep_history.proofs.Follows.{at-other, at-same}
use Rattle.keep_rounds.proofs.Moves.{IsKnown}
use Rattle.keep_rounds.proofs.Turns.{AreActors}

-- ---- how many names there are
module _ {X : Type 0} where
  pub length-new : (a : List ℕ) (x : X) (names : Named X) → at_name a names ≡ None → length (with_name a x names) ≡ suc (length names)
  length-new a x [] e = refl
  length-new a x (y ∷ ys) e = by (slice_cmp nat_cmp a y.0) refl (λ n. length-new a x ys n) e
    where
      no : Some y.1 ≡ None → ⊥
      no e = cc

      by : (o : Ordering) → slice_cmp nat_cmp a y.0 ≡ o → (at_name a ys ≡ None → length (with_name a x ys) ≡ suc (length ys)) → cond (is_eq o) (Some y.1) (at_name a ys) ≡ None
          → length (match_ordering o ((a, x) ∷ y ∷ ys) ((y.0, x) ∷ ys) (y ∷ with_name a x ys)) ≡ suc (suc (length ys))
      by Less c ih e = refl
      by Equal c ih e = absurd (no e)
      by Greater c ih e = ap suc (ih e)

  pub length-kept : (a : List ℕ) (x : X) (names : Named X) → length names ≤ length (with_name a x names)
  length-kept a x [] = let le : 0 ≤ 1 = omega arith in le
  length-kept a x (y ∷ ys) = by (slice_cmp nat_cmp a y.0) (length-kept a x ys)
    where
      by : (o : Ordering) → length ys ≤ length (with_name a x ys) → suc (length ys) ≤ length (match_ordering o ((a, x) ∷ y ∷ ys) ((y.0, x) ∷ ys) (y ∷ with_name a x ys))
      by Less ih = let le : suc (length ys) ≤ suc (suc (length ys)) = omega arith in le
      by Equal ih = let le : suc (length ys) ≤ suc (length ys) = omega arith in le
      by Greater ih = let le : suc (length ys) ≤ suc (length (with_name a x ys)) = omega (arith, ih) in le

-- ---- which names are open
abbrev pub IsOpenAt : Named (TaskState Standing) → List ℕ → Standing → Type 0
IsOpenAt names a s = at_name a names ≡ Some (S.Open s)

clash : true ≡ false → ⊥
clash e = cc

some-same : {X : Type 0} {x y : X} → Some x ≡ Some y → x ≡ y
some-same e = cc

-- after a name was set, an open name is that one, or it was open before
after-set : (a name : List ℕ) (st : TaskState Standing) (names : Named (TaskState Standing)) (s : Standing) → IsOpenAt (with_name name st names) a s
    → ((a ≡ name) × (st ≡ S.Open s)) ⊎ ((bytes_eq a name ≡ false) × IsOpenAt names a s)
after-set a name st names s e = by (bytes_eq a name) refl
  where
    by : (b : Bool) → bytes_eq a name ≡ b → ((a ≡ name) × (st ≡ S.Open s)) ⊎ ((bytes_eq a name ≡ false) × IsOpenAt names a s)
    by true f =
        let same : a ≡ name = (bytes_eq-Decides a name).0 f in
        inl (same, some-same (sym (at-same name st names) ∙ subst (λ k. at_name k (with_name name st names) ≡ Some (S.Open s)) same e))
    by false f = inr (f, sym (at-other a name st names f) ∙ e)

-- the tasks that stand open are known; each has an actor of its own, below the number of names
pub record NamesHold (c : Configuration) (balances : ℕ → Bool) (past : Past) (names : Named (TaskState Standing)) : Type 0 where
  pub actors : AreActors (length names) past
  pub below : (a : List ℕ) (s : Standing) → IsOpenAt names a s → s.actor < length names
  pub known : (a : List ℕ) (s : Standing) → IsOpenAt names a s → IsKnown c balances past s
  pub apart : (a b : List ℕ) (s t : Standing) → IsOpenAt names a s → IsOpenAt names b t → bytes_eq a b ≡ false → s.actor ≡ t.actor → ⊥

-- what is known of the task at the name that is set
pub record IsOwn (c : Configuration) (balances : ℕ → Bool) (past : Past) (name : List ℕ) (before after : Named (TaskState Standing)) (s : Standing) : Type 0 where
  pub below : s.actor < length after
  pub known : IsKnown c balances past s
  pub apart : (a : List ℕ) (t : Standing) → bytes_eq a name ≡ false → IsOpenAt before a t → t.actor ≡ s.actor → ⊥

module _ (c : Configuration) (old new : ℕ → Bool) (past later : Past) (name : List ℕ) (st : TaskState Standing) (names : Named (TaskState Standing)) where
  abbrev names_set : Named (TaskState Standing)
  names_set = with_name name st names

  pub names-set : NamesHold c old past names → AreActors (length names_set) later
      → ((a : List ℕ) (s : Standing) → bytes_eq a name ≡ false → IsOpenAt names a s → IsKnown c new later s)
      → ((s : Standing) → st ≡ S.Open s → IsOwn c new later name names names_set s)
      → NamesHold c new later names_set
  names-set h actors others own = record {
    actors = actors;
    below = λ a s e. is-below a s (after-set a name st names s e);
    known = λ a s e. is-known a s (after-set a name st names s e);
    apart = λ a b s t e f n same. are-apart a b s t (after-set a name st names s e) (after-set b name st names t f) n same;
  }
    where
      is-below : (a : List ℕ) (s : Standing) → ((a ≡ name) × (st ≡ S.Open s)) ⊎ ((bytes_eq a name ≡ false) × IsOpenAt names a s) → s.actor < length names_set
      is-below a s (inl x) = (own s x.1).below
      is-below a s (inr x) = let lt : s.actor < length names = h.below a s x.1 in let le : length names ≤ length names_set = length-kept name st names in omega (arith, lt, le)

      is-known : (a : List ℕ) (s : Standing) → ((a ≡ name) × (st ≡ S.Open s)) ⊎ ((bytes_eq a name ≡ false) × IsOpenAt names a s) → IsKnown c new later s
      is-known a s (inl x) = (own s x.1).known
      is-known a s (inr x) = others a s x.0 x.1

      both : (a b : List ℕ) → a ≡ name → b ≡ name → bytes_eq a b ≡ false → ⊥
      both a b p q n = clash (sym ((bytes_eq-Decides a b).1 (p ∙ sym q)) ∙ n)

      are-apart : (a b : List ℕ) (s t : Standing) → ((a ≡ name) × (st ≡ S.Open s)) ⊎ ((bytes_eq a name ≡ false) × IsOpenAt names a s) → ((b ≡ name) × (st ≡ S.Open t)) ⊎ ((bytes_eq b name ≡ false) × IsOpenAt names b t)
          → bytes_eq a b ≡ false → s.actor ≡ t.actor → ⊥
      are-apart a b s t (inl x) (inl y) n same = both a b x.0 y.0 n
      are-apart a b s t (inl x) (inr y) n same = (own s x.1).apart b t y.0 y.1 (sym same)
      are-apart a b s t (inr x) (inl y) n same = (own t y.1).apart a s x.0 x.1 same
      are-apart a b s t (inr x) (inr y) n same = h.apart a b s t x.1 y.1 n same
