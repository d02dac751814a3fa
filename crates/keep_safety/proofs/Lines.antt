-- What each line of the device machine does to the replica of one digest: it stays, is put, or goes (`step-does`).
use Rattle.std.proofs.Common.{◌≡◌, ◌<◌, ◌≤◌, ◌+◌, ℕ, Equal, List, [], ◌∷◌, Bool, true, false, refl, sym, ◌∙◌, ap, subst, Option, None, Some, IfSome, is_some, max, arith, inl, inr, map, filter, if◌then◌else◌}
use Rattle.std.specs.Prelude.{◌⊎◌, nat_lt, ◌==◌, ◌-◌, length, unwrap_or}
use Rattle.std.specs.List.{find as list_find}
use Rattle.std.specs.Str.{bytes_eq}
use Rattle.std.proofs.lemmas.Bool.{cases_Bool, ltb-true, eqb-true, and_parts}
use Rattle.md5.specs.Md5.{md5}
use Rattle.keep_spec.specs.Times.{grace, nanos}
use Rattle.keep_event.specs.Device as machine
use Rattle.keep_event.specs.Device.{State, Reply, stays, replica, copy, replica_of, with_held}
use Rattle.keep_event.specs.Store as store
use Rattle.keep_event.specs.Store.{find, put, without, IsAscending, name_cmp}
use Rattle.keep_event.specs.declared.names.Name.{Name}
use Rattle.keep_event.specs.declared.names.Stored.{Stored}
use Rattle.keep_event.specs.declared.lists.TrashItem.{TrashItem}
use Rattle.keep_event.specs.declared.lists.PullItem.{PullItem}
use Rattle.keep_event.specs.declared.device.DeviceRules.{DeviceRules}
use Rattle.keep_event.specs.declared.device.DeviceAnswer.{DeviceAnswer}
use Rattle.keep_event.specs.declared.device.DeviceAnswer.TheVariants as A
use Rattle.keep_event.specs.declared.device.DeviceQuery.{DeviceQuery}
use Rattle.keep_event.specs.declared.device.DeviceQuery.TheVariants as Q
use Rattle.keep_spec.specs.Members.{IsIn}
use Rattle.keep_safety.specs.Holds.{held_after}
use Rattle.keep_safety.specs.Signatures.{digest_named, time_told}
use Rattle.keep_safety.proofs.Finds.{find-put-same, find-put-other, find-without-same, find-without-other, find-member}
use Rattle.keep_safety.proofs.Names.{bytes-same, bytes-self, bytes-other, other-replica, replica-no-copy}
use Rattle.keep_order.proofs.Lists.{last-in, find-in, in-filter}

abbrev pub is_trashed : DeviceAnswer → Bool
is_trashed (A.Trashed digest deadline round) = true
is_trashed _ = false

-- the replica stays
pub record Stays (h : List ℕ) (s : State) (q : DeviceQuery) (r : Reply) : Type 0 where
  pub same : replica_of h r.state ≡ replica_of h s
  pub told : digest_named q ≡ Some h → time_told r.answer ≡ None
  pub said : (b : Bool) → held_after h (digest_named q) r.answer b ≡ b
  pub keeps : (deadline round : ℕ) → r.answer ≡ A.Trashed h deadline round → ⊥

-- it is put, or its time is set to a later one
pub record Puts (h : List ℕ) (s : State) (q : DeviceQuery) (r : Reply) : Type 0 where
  pub stored : Stored
  pub there : replica_of h r.state ≡ Some stored
  pub later : IfSome (replica_of h s) (λ b. b.mtime ≤ stored.mtime)
  pub told : IfSome (time_told r.answer) (λ m. m ≡ stored.mtime)
  pub said : (b : Bool) → b ≡ is_some (replica_of h s) → held_after h (digest_named q) r.answer b ≡ true
  pub keeps : (digest : List ℕ) (deadline round : ℕ) → r.answer ≡ A.Trashed digest deadline round → ⊥

-- it is trashed, by an item of the list that has its time
pub record Goes (rules : DeviceRules) (reading : ℕ) (h : List ℕ) (s : State) (r : Reply) : Type 0 where
  pub stored : Stored
  pub was : replica_of h s ≡ Some stored
  pub gone : replica_of h r.state ≡ None
  pub deadline : ℕ
  pub answered : r.answer ≡ A.Trashed h deadline s.round
  pub item : TrashItem
  pub listed : IsIn item s.trash
  pub digest : item.digest ≡ h
  pub time : item.mtime ≡ stored.mtime
  pub old : stored.mtime + grace rules.ttl rules.skew < reading

pub by-if : {X : Type 0} (P : X → Type 0) (b : Bool) (x y : X) → (b ≡ true → P x) → (b ≡ false → P y) → P (if b then x else y)
by-if P true x y f g = f refl
by-if P false x y f g = g refl

module _ (rules : DeviceRules) (reading : ℕ) (s : State) (up : IsAscending s.held) (h : List ℕ) where
  abbrev pub Does : DeviceQuery → Reply → Type 0
  Does q r = Stays h s q r ⊎ (Puts h s q r ⊎ Goes rules reading h s r)

  no-trash : (a : DeviceAnswer) → is_trashed a ≡ false → (x : List ℕ) (deadline round : ℕ) → a ≡ A.Trashed x deadline round → ⊥
  no-trash a e x deadline round is = absurd (cc (ap is_trashed is))

  -- a line that changes no replica and says nothing
  quiet : (q : DeviceQuery) (a : DeviceAnswer) (t : State) → t.held ≡ s.held → time_told a ≡ None → ((b : Bool) → held_after h (digest_named q) a b ≡ b) → is_trashed a ≡ false → Does q (record { answer = a; state = t })
  quiet q a t e told said keeps = inl (record { same = ap (find (replica h)) e; told = λ n. told; said = said; keeps = no-trash a keeps h })

  -- a replica of x is put into a list that finds each other replica as before
  puts-same : (q : DeviceQuery) (x : List ℕ) (stored : Stored) (es : List (Name × Stored)) (a : DeviceAnswer) → h ≡ x → time_told a ≡ Some stored.mtime ⊎ (time_told a ≡ None) → IfSome (replica_of x s) (λ b. b.mtime ≤ stored.mtime) →
      ((b : Bool) → b ≡ is_some (replica_of x s) → held_after x (digest_named q) a b ≡ true) → is_trashed a ≡ false →
      Does q (record { answer = a; state = with_held (put (replica x) stored es) s })
  puts-same q x stored es a e told later said keeps = inr (inl (record {
    stored = stored;
    there = ap (λ v. find (replica v) (put (replica x) stored es)) e ∙ find-put-same (replica x) stored es;
    later = subst (λ v. IfSome (replica_of v s) (λ b. b.mtime ≤ stored.mtime)) (sym e) later;
    told = times (time_told a) told;
    said = λ b is. ap (λ v. held_after v (digest_named q) a b) e ∙ said b (is ∙ ap (λ v. is_some (replica_of v s)) e);
    keeps = no-trash a keeps;
  }))
    where
      times : (o : Option ℕ) → (o ≡ Some stored.mtime) ⊎ (o ≡ None) → IfSome o (λ m. m ≡ stored.mtime)
      times None t = tt
      times (Some m) (inl t) = cc t
      times (Some m) (inr t) = cc t

  puts-other : (q : DeviceQuery) (x : List ℕ) (stored : Stored) (es : List (Name × Stored)) (a : DeviceAnswer) → digest_named q ≡ Some x → bytes_eq h x ≡ false → find (replica h) es ≡ replica_of h s →
      ((b : Bool) → held_after h (Some x) a b ≡ b) → is_trashed a ≡ false →
      Does q (record { answer = a; state = with_held (put (replica x) stored es) s })
  puts-other q x stored es a named ne rest said keeps = inl (record {
    same = find-put-other (replica h) (replica x) stored es (other-replica h x ne) ∙ rest;
    told = λ n. absurd (bytes-other h x ne (cc (sym n ∙ named)));
    said = λ b. ap (λ o. held_after h o a b) named ∙ said b;
    keeps = no-trash a keeps h;
  })

  puts : (q : DeviceQuery) (x : List ℕ) (stored : Stored) (es : List (Name × Stored)) (a : DeviceAnswer) → digest_named q ≡ Some x → (bytes_eq h x ≡ false → find (replica h) es ≡ replica_of h s) →
      (time_told a ≡ Some stored.mtime) ⊎ (time_told a ≡ None) → IfSome (replica_of x s) (λ b. b.mtime ≤ stored.mtime) →
      ((b : Bool) → b ≡ is_some (replica_of x s) → held_after x (Some x) a b ≡ true) → (bytes_eq h x ≡ false → (b : Bool) → held_after h (Some x) a b ≡ b) → is_trashed a ≡ false →
      Does q (record { answer = a; state = with_held (put (replica x) stored es) s })
  puts q x stored es a named rest told later said other keeps = elim (cases_Bool (bytes_eq h x)) [
    | inl same ↦ puts-same q x stored es a (bytes-same h x same) told later (λ b is. ap (λ o. held_after x o a b) named ∙ said b is) keeps
    | inr ne ↦ puts-other q x stored es a named ne (rest ne) (other ne) keeps
  ]

  says-written : (m : ℕ) (x : List ℕ) (b : Bool) → held_after x (Some x) (A.Written m) b ≡ true
  says-written m x b = ap (λ v. if v then true else b) (bytes-self x)

  says-back : (m : ℕ) (x : List ℕ) (b : Bool) → held_after x (Some x) (A.Back m) b ≡ true
  says-back m x b = ap (λ v. if v then true else b) (bytes-self x)

  written-other : (m : ℕ) (x : List ℕ) → bytes_eq h x ≡ false → (b : Bool) → held_after h (Some x) (A.Written m) b ≡ b
  written-other m x ne b = ap (λ v. if v then true else b) ne

  back-other : (m : ℕ) (x : List ℕ) → bytes_eq h x ≡ false → (b : Bool) → held_after h (Some x) (A.Back m) b ≡ b
  back-other m x ne b = ap (λ v. if v then true else b) ne

  later-than : (x : List ℕ) (r : Stored) (m : ℕ) → replica_of x s ≡ Some r → r.mtime ≤ m → IfSome (replica_of x s) (λ b. b.mtime ≤ m)
  later-than x r m e le = subst (λ o. IfSome o (λ b. b.mtime ≤ m)) (sym e) le

  renewed-touched : (q : DeviceQuery) (x : List ℕ) (r : Stored) → digest_named q ≡ Some x → replica_of x s ≡ Some r → Does q (machine.renewed x reading r A.Touched s)
  renewed-touched q x r named e =
      puts q x (store.with_time (max r.mtime reading) r) s.held (A.Touched (max r.mtime reading)) named (λ ne. refl) (inl refl) (later-than x r _ e (omega arith))
      (λ b is. is ∙ ap is_some e) (λ ne b. refl) refl

  renewed-written : (q : DeviceQuery) (x : List ℕ) (r : Stored) → digest_named q ≡ Some x → replica_of x s ≡ Some r → Does q (machine.renewed x reading r A.Written s)
  renewed-written q x r named e =
      puts q x (store.with_time (max r.mtime reading) r) s.held (A.Written (max r.mtime reading)) named (λ ne. refl) (inl refl) (later-than x r _ e (omega arith))
      (λ b is. says-written (max r.mtime reading) x b) (written-other (max r.mtime reading) x) refl

  other-quiet : (q : DeviceQuery) (b : Bool) (held : List ℕ) → Does q (stays (if b then A.Collision else A.Corrupt held) s)
  other-quiet q true held = quiet q A.Collision s refl refl (λ b. refl) refl
  other-quiet q false held = quiet q (A.Corrupt held) s refl refl (λ b. refl) refl

  compared-does : (q : DeviceQuery) (bytes : List ℕ) (o : Option Stored) → digest_named q ≡ Some (md5 bytes) → replica_of (md5 bytes) s ≡ o → Does q (machine.compared bytes reading s o)
  compared-does q bytes None named e = quiet q A.Absent s refl refl (λ b. refl) refl
  compared-does q bytes (Some r) named e =
      by-if (Does q) (bytes_eq r.bytes bytes) _ _ (λ same. renewed-touched q (md5 bytes) r named e) (λ other. other-quiet q (bytes_eq (md5 r.bytes) (md5 bytes)) (md5 r.bytes))

  placed-does : (q : DeviceQuery) (bytes : List ℕ) (mtime : ℕ) → digest_named q ≡ Some (md5 bytes) → IfSome (replica_of (md5 bytes) s) (λ b. b.mtime ≤ mtime) → Does q (machine.placed rules bytes mtime s)
  placed-does q bytes mtime named later =
      by-if (Does q) (nat_lt rules.capacity (machine.used s.held - machine.taken_by (replica_of (md5 bytes) s) + length bytes)) _ _
      (λ full. quiet q (A.Full (machine.used s.held) rules.capacity) s refl refl (λ b. refl) refl)
      (λ room. puts q (md5 bytes) (store.stored mtime bytes) s.held (A.Written mtime) named (λ ne. refl) (inl refl) later (λ b is. says-written mtime (md5 bytes) b) (written-other mtime (md5 bytes)) refl)

  written-does : (q : DeviceQuery) (bytes : List ℕ) (o : Option Stored) → digest_named q ≡ Some (md5 bytes) → replica_of (md5 bytes) s ≡ o → Does q (machine.written rules bytes reading s o)
  written-does q bytes None named e = placed-does q bytes reading named (subst (λ o. IfSome o (λ b. b.mtime ≤ reading)) (sym e) tt)
  written-does q bytes (Some r) named e =
      by-if (Does q) (bytes_eq r.bytes bytes) _ _ (λ same. renewed-written q (md5 bytes) r named e)
      (λ other. by-if (Does q) (bytes_eq (md5 r.bytes) (md5 bytes)) _ _ (λ same. quiet q A.Collision s refl refl (λ b. refl) refl)
      (λ corrupt. placed-does q bytes (max r.mtime reading) named (later-than (md5 bytes) r _ e (omega arith))))

  fetched-does : (q : DeviceQuery) (x : List ℕ) (o : Option Stored) → Does q (machine.fetched x s o)
  fetched-does q x None = quiet q A.Absent s refl refl (λ b. refl) refl
  fetched-does q x (Some r) = by-if (Does q) (bytes_eq (md5 r.bytes) x) _ _ (λ same. quiet q (A.Block r.bytes) s refl refl (λ b. refl) refl) (λ other. quiet q (A.Corrupt (md5 r.bytes)) s refl refl (λ b. refl) refl)

  touched-does : (q : DeviceQuery) (x : List ℕ) (o : Option Stored) → digest_named q ≡ Some x → replica_of x s ≡ o → Does q (machine.touched x reading s o)
  touched-does q x None named e = quiet q A.Absent s refl refl (λ b. refl) refl
  touched-does q x (Some r) named e = renewed-touched q x r named e

  -- ---- trash
  abbrev trashed_reply : TrashItem → Stored → Reply
  trashed_reply item r = record {
    answer = A.Trashed item.digest (reading + nanos rules.trash_life) s.round;
    state = with_held (store.rename (replica item.digest) (copy item.digest (reading + nanos rules.trash_life)) r.mtime s.held (Some r)) s;
  }

  no-copy : (x y : List ℕ) (t : ℕ) → name_cmp (replica x) (copy y t) ≡ Equal → ⊥
  no-copy x y t e = replica-no-copy x (copy y t) t refl e

  trashed-done : (q : DeviceQuery) (item : TrashItem) (r : Stored) → digest_named q ≡ None → IsIn item s.trash → replica_of item.digest s ≡ Some r → item.mtime ≡ r.mtime → r.mtime + grace rules.ttl rules.skew < reading → Does q (trashed_reply item r)
  trashed-done q item r named listed e time old = elim (cases_Bool (bytes_eq h item.digest)) [
    | inl same ↦ (let is : h ≡ item.digest = bytes-same h item.digest same in inr (inr (record {
      stored = r;
      was = ap (λ v. replica_of v s) is ∙ e;
      gone = find-put-other (replica h) (copy item.digest (reading + nanos rules.trash_life)) (store.with_time r.mtime r) (without (replica item.digest) s.held) (no-copy h item.digest (reading + nanos rules.trash_life))
          ∙ ap (λ v. find (replica v) (without (replica item.digest) s.held)) is ∙ find-without-same (replica item.digest) s.held up;
      deadline = reading + nanos rules.trash_life;
      answered = ap (λ v. A.Trashed v (reading + nanos rules.trash_life) s.round) (sym is);
      item = item;
      listed = listed;
      digest = sym is;
      time = time;
      old = old;
    })))
    | inr ne ↦ inl (record {
      same = find-put-other (replica h) (copy item.digest (reading + nanos rules.trash_life)) (store.with_time r.mtime r) (without (replica item.digest) s.held) (no-copy h item.digest (reading + nanos rules.trash_life))
          ∙ find-without-other (replica h) (replica item.digest) s.held (other-replica h item.digest ne) up;
      told = λ n. refl;
      said = λ b. ap (λ v. if v then false else b) ne;
      keeps = λ deadline round is. bytes-other h item.digest ne (digest_in is);
    })
  ]
    where
      digest_in : {x y : List ℕ} {t u n m : ℕ} → A.Trashed x t n ≡ A.Trashed y u m → y ≡ x
      digest_in e = cc e

  trashed-does : (q : DeviceQuery) (item : TrashItem) (o : Option Stored) → digest_named q ≡ None → IsIn item s.trash → replica_of item.digest s ≡ o → Does q (machine.trashed rules item reading s o)
  trashed-does q item None named listed e = quiet q (A.Gone item.digest) s refl refl (λ b. refl) refl
  trashed-does q item (Some r) named listed e =
      by-if (Does q) (r.mtime == item.mtime) _ _
      (λ same. by-if (Does q) (nat_lt (r.mtime + grace rules.ttl rules.skew) reading) _ _
      (λ old. subst (λ o. Does q (record {
        answer = A.Trashed item.digest (reading + nanos rules.trash_life) s.round;
        state = with_held (store.rename (replica item.digest) (copy item.digest (reading + nanos rules.trash_life)) r.mtime s.held o) s;
      })) (sym e) (trashed-done q item r named listed e (sym (eqb-true r.mtime item.mtime same)) (ltb-true (r.mtime + grace rules.ttl rules.skew) reading old)))
      (λ young. quiet q (A.Young item.digest r.mtime) s refl refl (λ b. refl) refl))
      (λ other. quiet q (A.Skipped item.digest r.mtime) s refl refl (λ b. refl) refl)

  -- that the item leaves the list is nothing to a replica
  taken-does : (q : DeviceQuery) (rest : List TrashItem) (r : Reply) → Does q r → Does q (machine.taken rest r)
  taken-does q rest r (inl d) = inl (record { same = d.same; told = d.told; said = d.said; keeps = d.keeps })
  taken-does q rest r (inr (inl d)) = inr (inl (record { stored = d.stored; there = d.there; later = d.later; told = d.told; said = d.said; keeps = d.keeps }))
  taken-does q rest r (inr (inr d)) = inr (inr (record {
    stored = d.stored;
    was = d.was;
    gone = d.gone;
    deadline = d.deadline;
    answered = d.answered;
    item = d.item;
    listed = d.listed;
    digest = d.digest;
    time = d.time;
    old = d.old;
  }))

  trash-first-does : (q : DeviceQuery) (items : List TrashItem) → digest_named q ≡ None → s.trash ≡ items → Does q (machine.trash_first rules reading s items)
  unfolding machine.trash_item
  trash-first-does q [] named e = quiet q A.Idle s refl refl (λ b. refl) refl
  trash-first-does q (item ∷ rest) named e =
      taken-does q rest (machine.trash_item rules item reading s)
      (by-if (Does q) rules.read_only _ _ (λ only. quiet q A.ReadOnly s refl refl (λ b. refl) refl)
      (λ writes. trashed-does q item (replica_of item.digest s) named (subst (λ v. IsIn item v) (sym e) (inl refl)) refl))

  -- ---- untrash
  is-copy : (digest : List ℕ) (n : Name) → machine.is_copy_of digest n ≡ true → (n.digest ≡ digest) × (is_some n.deadline ≡ true)
  is-copy digest n e = let p = and_parts (bytes_eq n.digest digest) (is_some n.deadline) e in (bytes-same n.digest digest p.0, p.1)

  has-deadline : (o : Option ℕ) → is_some o ≡ true → (t : ℕ) × (o ≡ Some t)
  has-deadline None e = cc e
  has-deadline (Some t) e = (t, refl)

  back-found : (q : DeviceQuery) (x : List ℕ) (e : Name × Stored) → digest_named q ≡ Some x → replica_of x s ≡ None → IsIn e s.held → e.0.digest ≡ x → is_some e.0.deadline ≡ true →
      Does q (record { answer = A.Back (max e.1.mtime reading); state = with_held (store.rename e.0 (replica x) (max e.1.mtime reading) s.held (Some e.1)) s })
  back-found q x e named none member is dated =
      let t = has-deadline e.0.deadline dated in
      puts q x (store.with_time (max e.1.mtime reading) e.1) (without e.0 s.held) (A.Back (max e.1.mtime reading)) named
      (λ ne. find-without-other (replica h) e.0 s.held (replica-no-copy h e.0 t.0 t.1) up) (inr refl)
      (subst (λ o. IfSome o (λ b. b.mtime ≤ max e.1.mtime reading)) (sym none) tt)
      (λ b same. says-back (max e.1.mtime reading) x b) (back-other (max e.1.mtime reading) x) refl

  back-does : (q : DeviceQuery) (x : List ℕ) (o : Option (Name × Stored)) → digest_named q ≡ Some x → replica_of x s ≡ None → machine.last_copy x s.held ≡ o → Does q (machine.back x reading s o)
  back-does q x None named none e = quiet q A.NoTrash s refl refl (λ b. refl) refl
  back-does q x (Some e) named none last =
      let at = in-filter (λ (e : Name × Stored). machine.is_copy_of x e.0) e s.held (last-in e (filter (λ (e : Name × Stored). machine.is_copy_of x e.0) s.held) last) in
      let is = is-copy x e.0 at.1 in
      subst (λ o. Does q (record { answer = A.Back (max e.1.mtime reading); state = with_held (store.rename e.0 (replica x) (max e.1.mtime reading) s.held o) s }))
      (sym (find-member e s.held at.0 up)) (back-found q x e named none at.0 is.0 is.1)

  brought-back-does : (q : DeviceQuery) (x : List ℕ) (o : Option Stored) → digest_named q ≡ Some x → replica_of x s ≡ o → Does q (machine.brought_back x reading s o)
  brought-back-does q x None named e = back-does q x (machine.last_copy x s.held) named e refl
  brought-back-does q x (Some r) named e = quiet q (A.Present r.mtime) s refl refl (λ b. refl) refl

  -- ---- a copy that is removed
  due-dated : (o : Option ℕ) → machine.is_due_at reading o ≡ true → is_some o ≡ true
  due-dated None e = cc e
  due-dated (Some t) e = refl

  emptied-does : (q : DeviceQuery) (o : Option (Name × Stored)) → digest_named q ≡ None → list_find (machine.is_due reading) s.held ≡ o → Does q (machine.emptied s o)
  emptied-does q None named e = quiet q A.Idle s refl refl (λ b. refl) refl
  emptied-does q (Some e) named found =
      let at = find-in (machine.is_due reading) e s.held found in
      let t = has-deadline e.0.deadline (due-dated e.0.deadline at.1) in
      inl (record { same = find-without-other (replica h) e.0 s.held (replica-no-copy h e.0 t.0 t.1) up; told = λ n. refl; said = λ b. refl; keeps = no-trash (A.Emptied e.0.digest (unwrap_or e.0.deadline 0)) refl h })

  pull-first-does : (q : DeviceQuery) (items : List PullItem) → Does q (machine.pull_first s items)
  pull-first-does q [] = quiet q A.Idle s refl refl (λ b. refl) refl
  pull-first-does q (item ∷ rest) = quiet q (A.Pull item) _ refl refl (λ b. refl) refl

  pub step-does : (q : DeviceQuery) → Does q (machine.step rules reading q s)
  unfolding machine.compare_touch machine.write machine.fetch machine.touch machine.clear machine.accept machine.page machine.trash_next machine.pull_next machine.untrash machine.empty_next machine.restart
  step-does (Q.CompareTouch block token) = let q = Q.CompareTouch block token in
      by-if (Does q) rules.read_only _ _ (λ only. quiet q A.ReadOnly s refl refl (λ b. refl) refl) (λ writes. compared-does q block (replica_of (md5 block) s) refl refl)
  step-does (Q.Write block token) = let q = Q.Write block token in
      by-if (Does q) rules.read_only _ _ (λ only. quiet q A.ReadOnly s refl refl (λ b. refl) refl) (λ writes. written-does q block (replica_of (md5 block) s) refl refl)
  step-does (Q.Fetch x) = fetched-does (Q.Fetch x) x (replica_of x s)
  step-does (Q.Touch x token) = let q = Q.Touch x token in
      by-if (Does q) rules.read_only _ _ (λ only. quiet q A.ReadOnly s refl refl (λ b. refl) refl) (λ writes. touched-does q x (replica_of x s) refl refl)
  step-does (Q.Clear round) = let q = Q.Clear round in
      by-if (Does q) (nat_lt round s.round) _ _ (λ stale. quiet q (A.Stale s.round) s refl refl (λ b. refl) refl) (λ fresh. quiet q A.Cleared _ refl refl (λ b. refl) refl)
  step-does (Q.Accept round lists) = let q = Q.Accept round lists in
      by-if (Does q) (round == s.round) _ _ (λ same. quiet q (A.Accepted (length lists.trash) (length lists.pull)) _ refl refl (λ b. refl) refl) (λ stale. quiet q (A.Stale s.round) s refl refl (λ b. refl) refl)
  step-does (Q.Page round prefix) = let q = Q.Page round prefix in
      by-if (Does q) (round == s.round) _ _ (λ same. quiet q (A.Page (map machine.entry_of (filter (λ e. machine.is_paged prefix e.0) s.held))) s refl refl (λ b. refl) refl) (λ stale. quiet q (A.Stale s.round) s refl refl (λ b. refl) refl)
  step-does Q.TrashNext = trash-first-does Q.TrashNext s.trash refl refl
  step-does Q.PullNext = pull-first-does Q.PullNext s.pull
  step-does (Q.Untrash x) = let q = Q.Untrash x in
      by-if (Does q) rules.read_only _ _ (λ only. quiet q A.ReadOnly s refl refl (λ b. refl) refl) (λ writes. brought-back-does q x (replica_of x s) refl refl)
  step-does Q.EmptyNext =
      by-if (Does Q.EmptyNext) rules.read_only _ _ (λ only. quiet Q.EmptyNext A.ReadOnly s refl refl (λ b. refl) refl) (λ writes. emptied-does Q.EmptyNext (list_find (machine.is_due reading) s.held) refl refl)
  step-does Q.Restart = quiet Q.Restart A.Restarted _ refl refl (λ b. refl) refl
