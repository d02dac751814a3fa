-- Names beside other names: `same-length`, `same-seen`, `same-lookup` and `same-with`; `with_name-twice` for a name that is set twice; `same-after` for a task that has ended. What holds of the state of every name: `named`, `looked-up`, `after-end`.
use Rattle.std.proofs.Common.{◌≡◌, ℕ, suc, Bool, true, false, List, [], ◌∷◌, length, cond, Option, Some, IfSome, refl, ◌∙◌, ap, subst}
use Rattle.std.specs.List.{AllByRecursion}
use Rattle.std.specs.Ordering.{match_ordering, nat_cmp}
use Rattle.std.specs.Cmp.{tied_itself}
use Rattle.std.specs.Cmp.Lexicographic.{slice_cmp, nat_list_cmp_total}
use Rattle.std.specs.BTreeMap.{is_at}
use Rattle.std.specs.declared.cmp.Ordering.{Ordering}
use Rattle.std.specs.declared.cmp.Ordering.TheVariants.{Less, Equal, Greater}
use Rattle.keep_history.specs.declared.task.Outcome.{Outcome}
use Rattle.keep_history.specs.declared.task.Outcome.TheVariants as O
use Rattle.keep_history.specs.declared.task.TaskState.{TaskState}
use Rattle.keep_history.specs.declared.task.TaskState.TheVariants as S
use Rattle.keep_history.specs.Effects.{state_after}
use Rattle.keep_history.specs.Names.{Named, Seen, located, row, seen, at_name, with_name, seen_names}
use Rattle.keep_run.specs.Named.{SameState, SameLookup, SameNames}

-- ---- a name that is set twice

module _ {X : Type 0} (name : List ℕ) (a b : X) where
  twice_at : (e : List ℕ × X) (es : Named X) (o : Ordering) → slice_cmp nat_cmp name e.0 ≡ o → with_name name b (with_name name a es) ≡ with_name name b es → with_name name b (match_ordering o ((name, a) ∷ e ∷ es) ((e.0, a) ∷ es) (e ∷ with_name name a es)) ≡ match_ordering o ((name, b) ∷ e ∷ es) ((e.0, b) ∷ es) (e ∷ with_name name b es)
  twice_at e es Less is more = rw (tied_itself nat_list_cmp_total name) refl
  twice_at e es Equal is more = rw is refl
  twice_at e es Greater is more = rw (is, more) refl

  -- what a name was given first is forgotten
  pub with_name-twice : (names : Named X) → with_name name b (with_name name a names) ≡ with_name name b names
  with_name-twice [] = rw (tied_itself nat_list_cmp_total name) refl
  with_name-twice (e ∷ es) = twice_at e es (slice_cmp nat_cmp name e.0) refl (with_name-twice es)

-- ---- two lists of names

module _ {T U : Type 0} (R : T → U → Type 0) where
  pub same-length : (ps : Named (TaskState T)) (qs : Named (TaskState U)) → SameNames R ps qs → length ps ≡ length qs
  same-length [] [] h = refl
  same-length (a ∷ ps) (b ∷ qs) h = ap suc (same-length ps qs h.1.1)
  same-length [] (b ∷ qs) h = absurd h
  same-length (a ∷ ps) [] h = absurd h

  seen-same : (a : TaskState T) (b : TaskState U) → SameState R a b → seen a ≡ seen b
  seen-same (S.Open t) (S.Open u) h = refl
  seen-same (S.Located a) (S.Located b) h = ap located h
  seen-same (S.Row a) (S.Row b) h = ap row h
  seen-same S.Ended S.Ended h = refl
  seen-same (S.Open t) (S.Located b) h = absurd h
  seen-same (S.Open t) (S.Row b) h = absurd h
  seen-same (S.Open t) S.Ended h = absurd h
  seen-same (S.Located a) (S.Open u) h = absurd h
  seen-same (S.Located a) (S.Row b) h = absurd h
  seen-same (S.Located a) S.Ended h = absurd h
  seen-same (S.Row a) (S.Open u) h = absurd h
  seen-same (S.Row a) (S.Located b) h = absurd h
  seen-same (S.Row a) S.Ended h = absurd h
  seen-same S.Ended (S.Open u) h = absurd h
  seen-same S.Ended (S.Located b) h = absurd h
  seen-same S.Ended (S.Row b) h = absurd h

  -- later lines see the same of both
  pub same-seen : (ps : Named (TaskState T)) (qs : Named (TaskState U)) → SameNames R ps qs → seen_names ps ≡ seen_names qs
  same-seen [] [] h = refl
  same-seen (a ∷ ps) (b ∷ qs) h =
      let here : List ℕ → Seen → Named Seen → Named Seen = λ name s rest. (name, s) ∷ rest in
      ap (λ v. here v (seen a.1) (seen_names ps)) h.0 ∙ ap (λ v. here b.0 v (seen_names ps)) (seen-same a.1 b.1 h.1.0) ∙ ap (here b.0 (seen b.1)) (same-seen ps qs h.1.1)
  same-seen [] (b ∷ qs) h = absurd h
  same-seen (a ∷ ps) [] h = absurd h

  lookup-by : (k : Bool) (a : TaskState T) (b : TaskState U) (x : Option (TaskState T)) (y : Option (TaskState U)) → SameState R a b → SameLookup R x y → SameLookup R (cond k (Some a) x) (cond k (Some b) y)
  lookup-by true a b x y h more = h
  lookup-by false a b x y h more = more

  -- what became of a name is found in both
  pub same-lookup : (name : List ℕ) (ps : Named (TaskState T)) (qs : Named (TaskState U)) → SameNames R ps qs → SameLookup R (at_name name ps) (at_name name qs)
  same-lookup name [] [] h = tt
  same-lookup name (a ∷ ps) (b ∷ qs) h =
      subst (λ k. SameLookup R (at_name name (a ∷ ps)) (cond k (Some b.1) (at_name name qs))) (ap (is_at (slice_cmp nat_cmp name)) h.0)
      (lookup-by (is_at (slice_cmp nat_cmp name) a.0) a.1 b.1 (at_name name ps) (at_name name qs) h.1.0 (same-lookup name ps qs h.1.1))
  same-lookup name [] (b ∷ qs) h = absurd h
  same-lookup name (a ∷ ps) [] h = absurd h

  module _ (name : List ℕ) (x : TaskState T) (y : TaskState U) (same : SameState R x y) where
    with-by : (o : Ordering) (a : List ℕ × TaskState T) (b : List ℕ × TaskState U) (ps xs : Named (TaskState T)) (qs ys : Named (TaskState U)) → a.0 ≡ b.0 → SameState R a.1 b.1 → SameNames R ps qs → SameNames R xs ys →
        SameNames R (match_ordering o ((name, x) ∷ a ∷ ps) ((a.0, x) ∷ ps) (a ∷ xs)) (match_ordering o ((name, y) ∷ b ∷ qs) ((b.0, y) ∷ qs) (b ∷ ys))
    with-by Less a b ps xs qs ys e h r more = (refl, (same, (e, (h, r))))
    with-by Equal a b ps xs qs ys e h r more = (e, (same, r))
    with-by Greater a b ps xs qs ys e h r more = (e, (h, more))

    -- a name is set in both
    pub same-with : (ps : Named (TaskState T)) (qs : Named (TaskState U)) → SameNames R ps qs → SameNames R (with_name name x ps) (with_name name y qs)
    same-with [] [] h = (refl, (same, tt))
    same-with (a ∷ ps) (b ∷ qs) h =
        subst (λ o. SameNames R (with_name name x (a ∷ ps)) (match_ordering o ((name, y) ∷ b ∷ qs) ((b.0, y) ∷ qs) (b ∷ with_name name y qs))) (ap (slice_cmp nat_cmp name) h.0)
        (with-by (slice_cmp nat_cmp name a.0) a b ps (with_name name x ps) qs (with_name name y qs) h.0 h.1.0 h.1.1 (same-with ps qs h.1.1))
    same-with [] (b ∷ qs) h = absurd h
    same-with (a ∷ ps) [] h = absurd h

  -- a task ended the same way
  pub same-after : (o : Outcome) → SameState R (state_after o) (state_after o)
  same-after (O.Stored locator) = refl
  same-after (O.Touched locator) = refl
  same-after (O.Row version want trash_at text) = refl
  same-after _ = tt

-- ---- every name

module _ {T : Type 0} (P : TaskState T → Type 0) where
  abbrev pub AllNames : Named (TaskState T) → Type 0
  AllNames names = AllByRecursion (λ n. P n.1) names

  named-by : (o : Ordering) (name : List ℕ) (st : TaskState T) (e : List ℕ × TaskState T) (es rest : Named (TaskState T)) → P st → P e.1 → AllNames es → AllNames rest →
      AllNames (match_ordering o ((name, st) ∷ e ∷ es) ((e.0, st) ∷ es) (e ∷ rest))
  named-by Less name st e es rest p q h k = (p, (q, h))
  named-by Equal name st e es rest p q h k = (p, h)
  named-by Greater name st e es rest p q h k = (q, k)

  pub named : (name : List ℕ) (st : TaskState T) (names : Named (TaskState T)) → P st → AllNames names → AllNames (with_name name st names)
  named name st [] p h = (p, tt)
  named name st (e ∷ es) p h = named-by (slice_cmp nat_cmp name e.0) name st e es (with_name name st es) p h.0 h.1 (named name st es p h.1)

  looked-by : (b : Bool) (st : TaskState T) (rest : Option (TaskState T)) → P st → IfSome rest P → IfSome (cond b (Some st) rest) P
  looked-by true st rest p h = p
  looked-by false st rest p h = h

  pub looked-up : (name : List ℕ) (names : Named (TaskState T)) → AllNames names → IfSome (at_name name names) P
  looked-up name [] h = tt
  looked-up name (e ∷ es) h = looked-by (is_at (slice_cmp nat_cmp name) e.0) e.1 (at_name name es) h.0 (looked-up name es h.1)

  -- what holds of each state that is not open holds after an end
  pub after-end : ((locator : List ℕ) → P (S.Located locator)) → ((text : List ℕ) → P (S.Row text)) → P S.Ended → (o : Outcome) → P (state_after o)
  after-end on_locator on_row ended (O.Stored locator) = on_locator locator
  after-end on_locator on_row ended (O.Touched locator) = on_locator locator
  after-end on_locator on_row ended (O.Row version want trash_at text) = on_row text
  after-end on_locator on_row ended _ = ended
