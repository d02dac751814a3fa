-- The lines of the machine, case by case.
use Rattle.std.proofs.Common.{arith}
use Rattle.std.proofs.Common.{◌≡◌, ℕ, List, Bool, true, false, Option, None, Some, option_map, refl, sym, ◌∙◌, ap, max, unwrap_or, if◌then◌else◌}
use Rattle.std.specs.Str.{bytes_eq}
use Rattle.md5.specs.Md5.{md5}
use Rattle.keep_spec.specs.Times.{grace, nanos}
use Rattle.keep_event.specs.Device as machine
use Rattle.keep_event.specs.Device.{State, Reply, stays, replica, replica_of, renewed, with_held, other_answer}
use Rattle.keep_event.specs.Store as store
use Rattle.keep_event.specs.Store.{find, size_of}
use Rattle.keep_event.specs.declared.names.Name.{Name}
use Rattle.keep_event.specs.declared.names.Stored.{Stored}
use Rattle.keep_event.specs.declared.names.Metadata.{Metadata}
use Rattle.keep_event.specs.declared.device.DeviceRules.{DeviceRules}
use Rattle.keep_event.specs.declared.device.DeviceAnswer.{DeviceAnswer}
use Rattle.keep_event.specs.declared.device.DeviceAnswer.TheVariants.{ReadOnly, Absent, Touched, Written, Block, Corrupt, Collision, StoreFault, Gone, Skipped, Young, Trashed, Idle, Full, Stale, Cleared, Restarted, Emptied, Accepted, Present, NoTrash, Back, Page, Pull}
use Rattle.keep_event.specs.declared.lists.PullItem.{PullItem}
use Rattle.keep_event.specs.declared.lists.Entry.{Entry}
use Rattle.std.specs.Prelude.{map}
use Rattle.std.specs.List.{filter}
use Rattle.keep_event.specs.declared.lists.Lists.{Lists}
use Rattle.std.specs.List.{find as list_find}
use Rattle.keep_event.specs.declared.lists.TrashItem.{TrashItem}
use Rattle.std.specs.Prelude.{◌==◌, nat_lt, ◌+◌, ◌-◌, length, slice_get, drop, [], ◌∷◌}

-- nothing is remembered, so nothing is there
pub none-there : (o : Option Stored) → None ≡ option_map size_of o → o ≡ None
none-there None e = refl
none-there (Some r) e = cc e

-- something is remembered, so something is there, with that time
pub some-there : (o : Option Stored) (s : Metadata) → Some s ≡ option_map size_of o → (r : Stored) × (o ≡ Some r) × (s ≡ size_of r)
some-there None s e = cc e
some-there (Some r) s e = (r, refl, ap (λ (o : Option Metadata). unwrap_or o s) e)

-- what a store makes of a touch
abbrev pub touch_at : Name → ℕ → List (Name × Stored) → List (Name × Stored)
touch_at n m es = store.touch n m es (find n es)

-- a replica whose time is set
abbrev pub set : (ℕ → DeviceAnswer) → Name → ℕ → State → Reply
set answer n mtime s = record { answer = answer mtime; state = with_held (store.touch n mtime s.held (find n s.held)) s }

set-renewed : (answer : ℕ → DeviceAnswer) (digest : List ℕ) (reading : ℕ) (r : Stored) (s : State) (n : Name) (m : ℕ) → n ≡ replica digest → m ≡ max r.mtime reading → replica_of digest s ≡ Some r → renewed digest reading r answer s ≡ set answer n m s
set-renewed answer digest reading r s n m en em e =
    ap (λ (o : Option Stored). record { answer = answer (max r.mtime reading); state = with_held (store.touch (replica digest) (max r.mtime reading) s.held o) s }) (sym e)
    ∙ ap (λ v. set answer v (max r.mtime reading) s) (sym en) ∙ ap (λ v. set answer n v s) (sym em)

module _ (rules : DeviceRules) (digest : List ℕ) (reading : ℕ) (s : State) where
  pub touch-read-only : rules.read_only ≡ true → machine.touch rules digest reading s ≡ stays ReadOnly s
  unfolding machine.touch
  touch-read-only w = rw w refl

  pub touch-absent : rules.read_only ≡ false → replica_of digest s ≡ None → machine.touch rules digest reading s ≡ stays Absent s
  unfolding machine.touch
  touch-absent w e = rw (w, e) refl

  pub touch-there : rules.read_only ≡ false → (r : Stored) → replica_of digest s ≡ Some r → machine.touch rules digest reading s ≡ renewed digest reading r Touched s
  unfolding machine.touch
  touch-there w r e = rw w (ap (machine.touched digest reading s) e)

  pub touch-set : (known : Metadata) (n : Name) (m : ℕ) → rules.read_only ≡ false → n ≡ replica digest → m ≡ max known.mtime reading → Some known ≡ option_map size_of (find n s.held) → machine.touch rules digest reading s ≡ set Touched n m s
  touch-set known n m w en em e =
      let there = some-there (replica_of digest s) known (e ∙ ap (λ v. option_map size_of (find v s.held)) en) in
      touch-there w there.0 there.1 ∙ set-renewed Touched digest reading there.0 s n m en (em ∙ ap (λ (k : Metadata). max k.mtime reading) there.2) there.1

module _ (rules : DeviceRules) (bytes : List ℕ) (reading : ℕ) (s : State) where
  pub compare-read-only : rules.read_only ≡ true → machine.compare_touch rules bytes reading s ≡ stays ReadOnly s
  unfolding machine.compare_touch
  compare-read-only w = rw w refl

  pub compare-absent : rules.read_only ≡ false → replica_of (md5 bytes) s ≡ None → machine.compare_touch rules bytes reading s ≡ stays Absent s
  unfolding machine.compare_touch
  compare-absent w e = rw (w, e) refl

  pub compare-other : rules.read_only ≡ false → (r : Stored) → replica_of (md5 bytes) s ≡ Some r → bytes_eq r.bytes bytes ≡ false → machine.compare_touch rules bytes reading s ≡ stays (other_answer bytes r.bytes) s
  unfolding machine.compare_touch
  compare-other w r e n = rw (w, e, n) refl

  pub compare-same : (r : Stored) (n : Name) (m : ℕ) → rules.read_only ≡ false → n ≡ replica (md5 bytes) → m ≡ max r.mtime reading → Some r ≡ find n s.held → bytes_eq r.bytes bytes ≡ true → machine.compare_touch rules bytes reading s ≡ set Touched n m s
  unfolding machine.compare_touch
  compare-same r n m w en em e y =
      let there : replica_of (md5 bytes) s ≡ Some r = sym (e ∙ ap (λ v. find v s.held) en) in
      rw w (ap (machine.compared bytes reading s) there ∙ rw y refl) ∙ set-renewed Touched (md5 bytes) reading r s n m en em there

module _ (digest : List ℕ) (s : State) where
  pub fetch-absent : replica_of digest s ≡ None → machine.fetch digest s ≡ stays Absent s
  unfolding machine.fetch
  fetch-absent e = rw e refl

  pub fetch-corrupt : (r : Stored) → replica_of digest s ≡ Some r → bytes_eq (md5 r.bytes) digest ≡ false → machine.fetch digest s ≡ stays (Corrupt (md5 r.bytes)) s
  unfolding machine.fetch
  fetch-corrupt r e n = rw (e, n) refl

  pub fetch-block : (r : Stored) → replica_of digest s ≡ Some r → bytes_eq (md5 r.bytes) digest ≡ true → machine.fetch digest s ≡ stays (Block r.bytes) s
  unfolding machine.fetch
  fetch-block r e y = rw (e, y) refl

not-fault : (b : Bool) (x : List ℕ) → (if b then Collision else Corrupt x) ≡ StoreFault → ⊥
not-fault true x e = cc e
not-fault false x e = cc e

pub other-not-fault : (bytes held : List ℕ) → other_answer bytes held ≡ StoreFault → ⊥
other-not-fault bytes held = not-fault (bytes_eq (md5 held) (md5 bytes)) (md5 held)

module _ (rules : DeviceRules) (item : TrashItem) (reading : ℕ) (s : State) where
  pub item-read-only : rules.read_only ≡ true → machine.trash_item rules item reading s ≡ stays ReadOnly s
  unfolding machine.trash_item
  item-read-only w = rw w refl

  pub item-gone : rules.read_only ≡ false → replica_of item.digest s ≡ None → machine.trash_item rules item reading s ≡ stays (Gone item.digest) s
  unfolding machine.trash_item
  item-gone w e = rw (w, e) refl

  -- where something is remembered
  module _ (known : Metadata) (n : Name) (w : rules.read_only ≡ false) (en : n ≡ replica item.digest) (e : Some known ≡ option_map size_of (find n s.held)) where
    there : (r : Stored) × (replica_of item.digest s ≡ Some r) × (known ≡ size_of r)
    there = some-there (replica_of item.digest s) known (e ∙ ap (λ v. option_map size_of (find v s.held)) en)

    same-time : there.0.mtime ≡ known.mtime
    same-time = ap (λ (k : Metadata). k.mtime) (sym there.2)

    to-there : machine.trash_item rules item reading s ≡ machine.trashed rules item reading s (Some there.0)
    unfolding machine.trash_item
    to-there = ap (λ (b : Bool). if b then stays ReadOnly s else machine.trashed rules item reading s (replica_of item.digest s)) w ∙ ap (machine.trashed rules item reading s) there.1

    pub item-skipped : (known.mtime == item.mtime) ≡ false → machine.trash_item rules item reading s ≡ stays (Skipped item.digest known.mtime) s
    item-skipped h = to-there ∙ rw (same-time, h) refl

    pub item-young : (known.mtime == item.mtime) ≡ true → nat_lt (known.mtime + grace rules.ttl rules.skew) reading ≡ false → machine.trash_item rules item reading s ≡ stays (Young item.digest known.mtime) s
    item-young h k = to-there ∙ rw (same-time, h, k) refl

    pub item-trashed : (known.mtime == item.mtime) ≡ true → nat_lt (known.mtime + grace rules.ttl rules.skew) reading ≡ true → (deadline round : ℕ) → deadline ≡ reading + nanos rules.trash_life → round ≡ s.round
        → machine.trash_item rules item reading s ≡ record { answer = Trashed item.digest deadline round; state = with_held (store.rename n (machine.copy item.digest deadline) known.mtime s.held (find n s.held)) s }
    item-trashed h k deadline round ed er = to-there ∙ rw (same-time, h, k) (rw (ed, er, en) refl)

pub trash-idle : (rules : DeviceRules) (reading : ℕ) (s : State) → slice_get s.trash 0 ≡ None → machine.trash_next rules reading s ≡ stays Idle s
unfolding machine.trash_next
trash-idle rules reading s e = idle s.trash e
  where
    idle : (items : List TrashItem) → slice_get items 0 ≡ None → machine.trash_first rules reading s items ≡ stays Idle s
    idle [] e = refl
    idle (i ∷ is) e = cc e

pub trash-taken : (rules : DeviceRules) (reading : ℕ) (s : State) (item : TrashItem) → Some item ≡ slice_get s.trash 0 → machine.trash_next rules reading s ≡ machine.taken (drop 1 s.trash) (machine.trash_item rules item reading s)
unfolding machine.trash_next
trash-taken rules reading s item e = first s.trash e
  where
    first : (items : List TrashItem) → Some item ≡ slice_get items 0 → machine.trash_first rules reading s items ≡ machine.taken (drop 1 items) (machine.trash_item rules item reading s)
    first [] e = cc e
    first (i ∷ is) e = ap (λ (o : Option TrashItem). machine.taken is (machine.trash_item rules (unwrap_or o i) reading s)) (sym e)

module _ (rules : DeviceRules) (bytes : List ℕ) (mtime : ℕ) (s : State) (n : Name) (en : n ≡ replica (md5 bytes)) (u t : ℕ) (eu : machine.used s.held ≡ u) (et : machine.taken_by (find n s.held) ≡ t) where
  et' : machine.taken_by (replica_of (md5 bytes) s) ≡ t
  et' = ap (λ v. machine.taken_by (find v s.held)) (sym en) ∙ et

  placed-by : (b : Bool) → nat_lt rules.capacity (u - t + length bytes) ≡ b → machine.placed rules bytes mtime s ≡ (if b then stays (Full u rules.capacity) s else record { answer = Written mtime; state = with_held (store.put n (store.stored mtime bytes) s.held) s })
  placed-by b h = rw (eu, et', h, en) refl

  pub placed-full : nat_lt rules.capacity (u - t + length bytes) ≡ true → machine.placed rules bytes mtime s ≡ stays (Full u rules.capacity) s
  placed-full h = placed-by true h

  pub placed-put : nat_lt rules.capacity (u - t + length bytes) ≡ false → machine.placed rules bytes mtime s ≡ record { answer = Written mtime; state = with_held (store.put n (store.stored mtime bytes) s.held) s }
  placed-put h = placed-by false h

module _ (rules : DeviceRules) (bytes : List ℕ) (reading : ℕ) (s : State) where
  pub write-read-only : rules.read_only ≡ true → machine.write rules bytes reading s ≡ stays ReadOnly s
  unfolding machine.write
  write-read-only w = rw w refl

  to-written : rules.read_only ≡ false → (o : Option Stored) → replica_of (md5 bytes) s ≡ o → machine.write rules bytes reading s ≡ machine.written rules bytes reading s o
  unfolding machine.write
  to-written w o e = ap (λ (b : Bool). if b then stays ReadOnly s else machine.written rules bytes reading s (replica_of (md5 bytes) s)) w ∙ ap (machine.written rules bytes reading s) e

  pub write-absent : rules.read_only ≡ false → replica_of (md5 bytes) s ≡ None → machine.write rules bytes reading s ≡ machine.placed rules bytes reading s
  write-absent w e = to-written w None e

  pub write-collision : rules.read_only ≡ false → (r : Stored) → replica_of (md5 bytes) s ≡ Some r → bytes_eq r.bytes bytes ≡ false → bytes_eq (md5 r.bytes) (md5 bytes) ≡ true → machine.write rules bytes reading s ≡ stays Collision s
  write-collision w r e n y = to-written w (Some r) e ∙ rw (n, y) refl

  pub write-corrupt : rules.read_only ≡ false → (r : Stored) → replica_of (md5 bytes) s ≡ Some r → bytes_eq r.bytes bytes ≡ false → bytes_eq (md5 r.bytes) (md5 bytes) ≡ false → machine.write rules bytes reading s ≡ machine.placed rules bytes (max r.mtime reading) s
  write-corrupt w r e n y = to-written w (Some r) e ∙ rw (n, y) refl

  pub write-same : (r : Stored) (n : Name) (m : ℕ) → rules.read_only ≡ false → n ≡ replica (md5 bytes) → m ≡ max r.mtime reading → Some r ≡ find n s.held → bytes_eq r.bytes bytes ≡ true → machine.write rules bytes reading s ≡ set Written n m s
  write-same r n m w en em e y =
      let there : replica_of (md5 bytes) s ≡ Some r = sym (e ∙ ap (λ v. find v s.held) en) in
      to-written w (Some r) there ∙ rw y refl ∙ set-renewed Written (md5 bytes) reading r s n m en em there

module _ (round : ℕ) (s : State) where
  pub clear-stale : nat_lt round s.round ≡ true → machine.clear round s ≡ stays (Stale s.round) s
  unfolding machine.clear
  clear-stale h = rw h refl

  pub clear-done : nat_lt round s.round ≡ false → machine.clear round s ≡ record { answer = Cleared; state = record { held = s.held; round = round; trash = []; pull = [] } }
  unfolding machine.clear
  clear-done h = rw h refl

pub restart-done : (s : State) → machine.restart s ≡ record { answer = Restarted; state = record { held = s.held; round = s.round; trash = []; pull = [] } }
unfolding machine.restart
restart-done s = refl

module _ (rules : DeviceRules) (reading : ℕ) (s : State) where
  pub empty-read-only : rules.read_only ≡ true → machine.empty_next rules reading s ≡ stays ReadOnly s
  unfolding machine.empty_next
  empty-read-only w = rw w refl

  to-emptied : rules.read_only ≡ false → machine.empty_next rules reading s ≡ machine.emptied s (list_find (machine.is_due reading) s.held)
  unfolding machine.empty_next
  to-emptied w = ap (λ (b : Bool). if b then stays ReadOnly s else machine.emptied s (list_find (machine.is_due reading) s.held)) w

  none-due : (o : Option (Name × Stored)) → None ≡ option_map (λ (e : Name × Stored). e.0) o → machine.emptied s o ≡ stays Idle s
  none-due None e = refl
  none-due (Some x) e = cc e

  some-due : (o : Option (Name × Stored)) (n : Name) → Some n ≡ option_map (λ (e : Name × Stored). e.0) o → machine.emptied s o ≡ record { answer = Emptied n.digest (unwrap_or n.deadline 0); state = with_held (store.without n s.held) s }
  some-due None n e = cc e
  some-due (Some x) n e = ap (λ (o : Option Name). let m = unwrap_or o n in record { answer = Emptied m.digest (unwrap_or m.deadline 0); state = with_held (store.without m s.held) s }) (sym e)

  pub empty-idle : rules.read_only ≡ false → None ≡ option_map (λ (e : Name × Stored). e.0) (list_find (machine.is_due reading) s.held) → machine.empty_next rules reading s ≡ stays Idle s
  empty-idle w e = to-emptied w ∙ none-due _ e

  pub empty-done : rules.read_only ≡ false → (n : Name) → Some n ≡ option_map (λ (e : Name × Stored). e.0) (list_find (machine.is_due reading) s.held) → machine.empty_next rules reading s ≡ record { answer = Emptied n.digest (unwrap_or n.deadline 0); state = with_held (store.without n s.held) s }
  empty-done w n e = to-emptied w ∙ some-due _ n e

module _ (round : ℕ) (lists : Lists) (s : State) where
  pub accept-stale : (round == s.round) ≡ false → machine.accept round lists s ≡ stays (Stale s.round) s
  unfolding machine.accept
  accept-stale h = rw h refl

  pub accept-done : (round == s.round) ≡ true → machine.accept round lists s ≡ record { answer = Accepted (length lists.trash) (length lists.pull); state = record { held = s.held; round = s.round; trash = lists.trash; pull = lists.pull } }
  unfolding machine.accept
  accept-done h = rw h refl

module _ (rules : DeviceRules) (digest : List ℕ) (reading : ℕ) (s : State) where
  pub untrash-read-only : rules.read_only ≡ true → machine.untrash rules digest reading s ≡ stays ReadOnly s
  unfolding machine.untrash
  untrash-read-only w = rw w refl

  to-back : rules.read_only ≡ false → (o : Option Stored) → replica_of digest s ≡ o → machine.untrash rules digest reading s ≡ machine.brought_back digest reading s o
  unfolding machine.untrash
  to-back w o e = ap (λ (b : Bool). if b then stays ReadOnly s else machine.brought_back digest reading s (replica_of digest s)) w ∙ ap (machine.brought_back digest reading s) e

  pub untrash-present : rules.read_only ≡ false → (known : Metadata) → Some known ≡ option_map size_of (replica_of digest s) → machine.untrash rules digest reading s ≡ stays (Present known.mtime) s
  untrash-present w known e = let r = some-there (replica_of digest s) known e in to-back w (Some r.0) r.1 ∙ ap (λ (k : Metadata). stays (Present k.mtime) s) (sym r.2)

  no-copy : (o : Option (Name × Stored)) → None ≡ option_map store.sized o → machine.back digest reading s o ≡ stays NoTrash s
  no-copy None e = refl
  no-copy (Some x) e = cc e

  a-copy : (o : Option (Name × Stored)) (c : Name × Metadata) → Some c ≡ option_map store.sized o → machine.back digest reading s o ≡ record { answer = Back (max c.1.mtime reading); state = with_held (store.rename c.0 (replica digest) (max c.1.mtime reading) s.held (find c.0 s.held)) s }
  a-copy None c e = cc e
  a-copy (Some x) c e = ap (λ (o : Option (Name × Metadata)). let c = unwrap_or o c in record { answer = Back (max c.1.mtime reading); state = with_held (store.rename c.0 (replica digest) (max c.1.mtime reading) s.held (find c.0 s.held)) s }) (sym e)

  pub untrash-none : rules.read_only ≡ false → replica_of digest s ≡ None → None ≡ option_map store.sized (machine.last_copy digest s.held) → machine.untrash rules digest reading s ≡ stays NoTrash s
  untrash-none w n e = to-back w None n ∙ no-copy _ e

  pub untrash-back : rules.read_only ≡ false → replica_of digest s ≡ None → (c : Name × Metadata) → Some c ≡ option_map store.sized (machine.last_copy digest s.held) → machine.untrash rules digest reading s ≡ record { answer = Back (max c.1.mtime reading); state = with_held (store.rename c.0 (replica digest) (max c.1.mtime reading) s.held (find c.0 s.held)) s }
  untrash-back w n c e = to-back w None n ∙ a-copy _ c e

module _ (prefix : List ℕ) (round : ℕ) (s : State) where
  pub page-stale : (round == s.round) ≡ false → machine.page prefix round s ≡ stays (Stale s.round) s
  unfolding machine.page
  page-stale h = rw h refl

  pub page-done : (round == s.round) ≡ true → (entries : List Entry) → entries ≡ map machine.entry_of (filter (λ e. machine.is_paged prefix e.0) s.held) → machine.page prefix round s ≡ stays (Page entries) s
  unfolding machine.page
  page-done h entries e = rw h refl ∙ ap (λ v. stays (Page v) s) (sym e)

pub pull-idle : (s : State) → s.pull ≡ [] → machine.pull_next s ≡ stays Idle s
unfolding machine.pull_next
pull-idle s e = ap (machine.pull_first s) e

pub pull-done : (s : State) (item : PullItem) (rest : List PullItem) → s.pull ≡ item ∷ rest → machine.pull_next s ≡ record { answer = Pull item; state = record { held = s.held; round = s.round; trash = s.trash; pull = rest } }
unfolding machine.pull_next
pull-done s item rest e = ap (machine.pull_first s) e

pub no-items : {A : Type 0} (xs : List A) → length xs ≡ 0 → xs ≡ []
no-items [] e = refl
no-items (x ∷ xs) e = absurd (omega arith)

pub none-first : (xs ys : List PullItem) → xs ≡ ys → ys ≡ drop 1 xs → xs ≡ []
none-first [] ys e f = refl
none-first (x ∷ xs) ys e f = absurd (let h : length (x ∷ xs) ≡ length xs = ap length (e ∙ f) in omega (arith, h))

pub none-at-first : {A : Type 0} (xs : List A) → slice_get xs 0 ≡ None → xs ≡ []
none-at-first [] e = refl
none-at-first (x ∷ xs) e = cc e

pub some-at-first : {A : Type 0} (xs : List A) (x : A) → Some x ≡ slice_get xs 0 → xs ≡ [] → ⊥
some-at-first [] x e f = cc e
some-at-first (y ∷ xs) x e f = cc f
