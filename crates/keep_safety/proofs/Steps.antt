-- What each line of the device machine does to the kept round and to the trash list: `step-moves`, `cleared-round`, `paged-holds`, `accepted-round`.
use Rattle.std.proofs.Common.{◌≡◌, ◌≤◌, ◌+◌, ℕ, List, [], ◌∷◌, true, refl, sym, ◌∙◌, ap, subst, Option, None, Some, is_none, max, arith, inl, inr, map, filter}
use Rattle.std.specs.Prelude.{◌⊎◌, nat_lt, ◌==◌, ◌-◌, length}
use Rattle.std.specs.List.{find as list_find}
use Rattle.std.specs.Str.{bytes_eq}
use Rattle.std.proofs.lemmas.Bool.{ltb-false, eqb-true, and_parts}
use Rattle.md5.specs.Md5.{md5}
use Rattle.keep_spec.specs.Times.{grace}
use Rattle.keep_event.specs.Device as machine
use Rattle.keep_event.specs.Device.{State, Reply, stays, replica, replica_of}
use Rattle.keep_event.specs.Store.{IsAscending, find}
use Rattle.keep_event.specs.declared.names.Name.{Name}
use Rattle.keep_event.specs.declared.names.Stored.{Stored}
use Rattle.keep_event.specs.declared.lists.Entry.{Entry}
use Rattle.keep_event.specs.declared.lists.Lists.{Lists}
use Rattle.keep_event.specs.declared.lists.TrashItem.{TrashItem}
use Rattle.keep_event.specs.declared.lists.PullItem.{PullItem}
use Rattle.keep_event.specs.declared.device.DeviceRules.{DeviceRules}
use Rattle.keep_event.specs.declared.device.DeviceAnswer.TheVariants as A
use Rattle.keep_event.specs.declared.device.DeviceQuery.{DeviceQuery}
use Rattle.keep_event.specs.declared.device.DeviceQuery.TheVariants as Q
use Rattle.keep_spec.specs.Members.{IsIn}
use Rattle.keep_safety.proofs.Finds.{find-member}
use Rattle.keep_order.proofs.Lists.{in-map, in-filter}
use Rattle.keep_safety.proofs.Lines.{by-if}

-- the list is a part of what it was, under the same round
pub record Keeps (s : State) (r : Reply) : Type 0 where
  pub round : r.state.round ≡ s.round
  pub within : (x : TrashItem) → IsIn x r.state.trash → IsIn x s.trash

-- it is empty, under a round that isn't lower
pub record Empties (s : State) (r : Reply) : Type 0 where
  pub round : s.round ≤ r.state.round
  pub empty : r.state.trash ≡ []

-- it is the list of an accept of the kept round
pub record Takes (s : State) (q : DeviceQuery) (r : Reply) : Type 0 where
  pub lists : Lists
  pub asked : q ≡ Q.Accept s.round lists
  pub answered : r.answer ≡ A.Accepted (length lists.trash) (length lists.pull)
  pub round : r.state.round ≡ s.round
  pub trash : r.state.trash ≡ lists.trash

abbrev pub Moves : State → DeviceQuery → Reply → Type 0
Moves s q r = Keeps s r ⊎ (Empties s r ⊎ Takes s q r)

keeps-all : (s : State) (q : DeviceQuery) (r : Reply) → r.state.round ≡ s.round → r.state.trash ≡ s.trash → Moves s q r
keeps-all s q r e f = inl (record { round = e; within = λ x i. subst (λ v. IsIn x v) f i })

module _ (rules : DeviceRules) (reading : ℕ) (s : State) where
  -- the list and the round are as they were
  abbrev Same : Reply → Type 0
  Same r = (r.state.round ≡ s.round) × (r.state.trash ≡ s.trash)

  compared-same : (bytes : List ℕ) (o : Option Stored) → Same (machine.compared bytes reading s o)
  compared-same bytes None = (refl, refl)
  compared-same bytes (Some r) = by-if Same (bytes_eq r.bytes bytes) _ _ (λ e. (refl, refl)) (λ e. (refl, refl))

  placed-same : (bytes : List ℕ) (mtime : ℕ) → Same (machine.placed rules bytes mtime s)
  placed-same bytes mtime = by-if Same (nat_lt rules.capacity (machine.used s.held - machine.taken_by (replica_of (md5 bytes) s) + length bytes)) _ _ (λ e. (refl, refl)) (λ e. (refl, refl))

  written-same : (bytes : List ℕ) (o : Option Stored) → Same (machine.written rules bytes reading s o)
  written-same bytes None = placed-same bytes reading
  written-same bytes (Some r) =
      by-if Same (bytes_eq r.bytes bytes) _ _ (λ e. (refl, refl))
      (λ e. by-if Same (bytes_eq (md5 r.bytes) (md5 bytes)) _ _ (λ e. (refl, refl)) (λ e. placed-same bytes (max r.mtime reading)))

  fetched-same : (x : List ℕ) (o : Option Stored) → Same (machine.fetched x s o)
  fetched-same x None = (refl, refl)
  fetched-same x (Some r) = by-if Same (bytes_eq (md5 r.bytes) x) _ _ (λ e. (refl, refl)) (λ e. (refl, refl))

  touched-same : (x : List ℕ) (o : Option Stored) → Same (machine.touched x reading s o)
  touched-same x None = (refl, refl)
  touched-same x (Some r) = (refl, refl)

  trashed-same : (item : TrashItem) (o : Option Stored) → Same (machine.trashed rules item reading s o)
  trashed-same item None = (refl, refl)
  trashed-same item (Some r) =
      by-if Same (r.mtime == item.mtime) _ _ (λ e. by-if Same (nat_lt (r.mtime + grace rules.ttl rules.skew) reading) _ _ (λ e. (refl, refl)) (λ e. (refl, refl))) (λ e. (refl, refl))

  back-same : (x : List ℕ) (o : Option (Name × Stored)) → Same (machine.back x reading s o)
  back-same x None = (refl, refl)
  back-same x (Some e) = (refl, refl)

  brought-back-same : (x : List ℕ) (o : Option Stored) → Same (machine.brought_back x reading s o)
  brought-back-same x None = back-same x (machine.last_copy x s.held)
  brought-back-same x (Some r) = (refl, refl)

  emptied-same : (o : Option (Name × Stored)) → Same (machine.emptied s o)
  emptied-same None = (refl, refl)
  emptied-same (Some e) = (refl, refl)

  same-moves : (q : DeviceQuery) (r : Reply) → Same r → Moves s q r
  same-moves q r h = keeps-all s q r h.0 h.1

  trash-first-moves : (q : DeviceQuery) (items : List TrashItem) → s.trash ≡ items → Moves s q (machine.trash_first rules reading s items)
  unfolding machine.trash_item
  trash-first-moves q [] e = keeps-all s q _ refl refl
  trash-first-moves q (item ∷ rest) e =
      inl (record {
        round = (by-if Same rules.read_only (stays A.ReadOnly s) (machine.trashed rules item reading s (replica_of item.digest s)) (λ only. (refl, refl)) (λ writes. trashed-same item (replica_of item.digest s))).0;
        within = λ x i. subst (λ v. IsIn x v) (sym e) (inr i);
      })

  pull-first-moves : (q : DeviceQuery) (items : List PullItem) → Moves s q (machine.pull_first s items)
  pull-first-moves q [] = keeps-all s q _ refl refl
  pull-first-moves q (item ∷ rest) = keeps-all s q _ refl refl

  pub step-moves : (q : DeviceQuery) → Moves s q (machine.step rules reading q s)
  unfolding machine.compare_touch machine.write machine.fetch machine.touch machine.clear machine.accept machine.page machine.trash_next machine.pull_next machine.untrash machine.empty_next machine.restart
  step-moves (Q.CompareTouch block token) = same-moves _ _ (by-if Same rules.read_only (stays A.ReadOnly s) (machine.compared block reading s (replica_of (md5 block) s)) (λ only. (refl, refl)) (λ writes. compared-same block (replica_of (md5 block) s)))
  step-moves (Q.Write block token) = same-moves _ _ (by-if Same rules.read_only (stays A.ReadOnly s) (machine.written rules block reading s (replica_of (md5 block) s)) (λ only. (refl, refl)) (λ writes. written-same block (replica_of (md5 block) s)))
  step-moves (Q.Fetch x) = same-moves _ _ (fetched-same x (replica_of x s))
  step-moves (Q.Touch x token) = same-moves _ _ (by-if Same rules.read_only (stays A.ReadOnly s) (machine.touched x reading s (replica_of x s)) (λ only. (refl, refl)) (λ writes. touched-same x (replica_of x s)))
  step-moves (Q.Clear round) = by-if (Moves s (Q.Clear round)) (nat_lt round s.round) _ _ (λ stale. keeps-all s _ _ refl refl)
      (λ fresh. inr (inl (record { round = ltb-false round s.round fresh; empty = refl })))
  step-moves (Q.Accept round lists) = by-if (Moves s (Q.Accept round lists)) (round == s.round) _ _
      (λ same. inr (inr (record { lists = lists; asked = ap (λ n. Q.Accept n lists) (eqb-true round s.round same); answered = refl; round = refl; trash = refl })))
      (λ stale. keeps-all s _ _ refl refl)
  step-moves (Q.Page round prefix) = by-if (Moves s (Q.Page round prefix)) (round == s.round) _ _ (λ same. keeps-all s _ _ refl refl) (λ stale. keeps-all s _ _ refl refl)
  step-moves Q.TrashNext = trash-first-moves Q.TrashNext s.trash refl
  step-moves Q.PullNext = pull-first-moves Q.PullNext s.pull
  step-moves (Q.Untrash x) = same-moves _ _ (by-if Same rules.read_only (stays A.ReadOnly s) (machine.brought_back x reading s (replica_of x s)) (λ only. (refl, refl)) (λ writes. brought-back-same x (replica_of x s)))
  step-moves Q.EmptyNext = same-moves _ _ (by-if Same rules.read_only (stays A.ReadOnly s) (machine.emptied s (list_find (machine.is_due reading) s.held)) (λ only. (refl, refl)) (λ writes. emptied-same (list_find (machine.is_due reading) s.held)))
  step-moves Q.Restart = inr (inl (record { round = omega arith; empty = refl }))

  -- ---- a clear that was answered keeps its round
  clear-keeps : (round : ℕ) → (machine.step rules reading (Q.Clear round) s).answer ≡ A.Cleared → (machine.step rules reading (Q.Clear round) s).state.round ≡ round
  unfolding machine.clear
  clear-keeps round = by-if (λ (r : Reply). r.answer ≡ A.Cleared → r.state.round ≡ round) (nat_lt round s.round) (stays (A.Stale s.round) s) (record { answer = A.Cleared; state = record { held = s.held; round = round; trash = []; pull = [] } }) (λ stale e. cc e) (λ fresh e. refl)

  pub cleared-round : (round : ℕ) → (machine.step rules reading (Q.Clear round) s).answer ≡ A.Cleared → (machine.step rules reading (Q.Clear round) s).state.round ≡ round
  cleared-round = clear-keeps

  -- ---- a page tells replicas that are there, under the kept round
  pub record Pages (round : ℕ) (entries : List Entry) : Type 0 where
    pub kept : round ≡ s.round
    pub held : (x : Entry) → IsIn x entries → (r : Stored) × (replica_of x.digest s ≡ Some r) × (r.mtime ≡ x.mtime)

  no-deadline : (n : Name) → is_none n.deadline ≡ true → n ≡ replica n.digest
  no-deadline n e = ap (λ o. record { digest = n.digest; deadline = o }) (none n.deadline e)
    where
      none : (o : Option ℕ) → is_none o ≡ true → o ≡ None
      none None e = refl
      none (Some t) e = cc e

  entry-held : (up : IsAscending s.held) (prefix : List ℕ) (x : Entry) → IsIn x (map machine.entry_of (filter (λ e. machine.is_paged prefix e.0) s.held)) → (r : Stored) × (replica_of x.digest s ≡ Some r) × (r.mtime ≡ x.mtime)
  entry-held up prefix x i =
      let c = in-map machine.entry_of x (filter (λ e. machine.is_paged prefix e.0) s.held) i in
      let f = in-filter (λ (e : Name × Stored). machine.is_paged prefix e.0) c.from s.held c.member in
      let p = and_parts (machine.begins prefix c.from.0.digest) (is_none c.from.0.deadline) f.1 in
      (c.from.1, ap (λ (v : Entry). replica_of v.digest s) c.is ∙ ap (λ n. find n s.held) (sym (no-deadline c.from.0 p.1)) ∙ find-member c.from s.held f.0 up, ap (λ (v : Entry). v.mtime) (sym c.is))

  entries-told : {xs ys : List Entry} → A.Page xs ≡ A.Page ys → xs ≡ ys
  entries-told e = cc e

  pub paged-holds : (up : IsAscending s.held) (round : ℕ) (prefix : List ℕ) (entries : List Entry) → (machine.step rules reading (Q.Page round prefix) s).answer ≡ A.Page entries → Pages round entries
  unfolding machine.page
  paged-holds up round prefix entries = by-if (λ (r : Reply). r.answer ≡ A.Page entries → Pages round entries) (round == s.round)
      (stays (A.Page (map machine.entry_of (filter (λ e. machine.is_paged prefix e.0) s.held))) s) (stays (A.Stale s.round) s)
      (λ same e. record { kept = eqb-true round s.round same; held = λ x i. entry-held up prefix x (subst (λ v. IsIn x v) (sym (entries-told e)) i) })
      (λ stale e. cc e)

  -- ---- an accept that was answered is of the kept round
  pub accepted-round : (round : ℕ) (lists : Lists) (t p : ℕ) → (machine.step rules reading (Q.Accept round lists) s).answer ≡ A.Accepted t p → round ≡ s.round
  unfolding machine.accept
  accepted-round round lists t p = by-if (λ (r : Reply). r.answer ≡ A.Accepted t p → round ≡ s.round) (round == s.round)
      (record { answer = A.Accepted (length lists.trash) (length lists.pull); state = record { held = s.held; round = s.round; trash = lists.trash; pull = lists.pull } }) (stays (A.Stale s.round) s)
      (λ same e. eqb-true round s.round same) (λ stale e. cc e)
