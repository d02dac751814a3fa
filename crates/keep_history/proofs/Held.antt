-- What a device holds: a line of the machine brings no bytes but those of its query's block (`step-all`), and each replica found is held (`all-found`).
use Rattle.std.proofs.Common.{ℕ, Bool, true, false, List, [], ◌∷◌, ◌++◌, Option, None, Some, option_map, IfSome, if◌then◌else◌}
use Rattle.std.specs.Prelude.{max, ⊤, nat_lt, ◌==◌, ◌+◌}
use Rattle.std.specs.Str.{bytes_eq}
use Rattle.std.specs.List.{AllByRecursion}
use Rattle.std.specs.Ordering.{match_ordering}
use Rattle.std.specs.declared.cmp.Ordering.{Ordering}
use Rattle.std.specs.declared.cmp.Ordering.TheVariants.{Less, Equal, Greater}
use Rattle.md5.specs.Md5.{md5}
use Rattle.keep_spec.specs.Times.{grace, nanos}
use Rattle.keep_event.specs.Store as store
use Rattle.keep_event.specs.Device as machine
use Rattle.keep_event.specs.Device.{State, Reply}
use Rattle.keep_event.specs.declared.names.Name.{Name}
use Rattle.keep_event.specs.declared.names.Stored.{Stored}
use Rattle.keep_event.specs.declared.lists.TrashItem.{TrashItem}
use Rattle.keep_event.specs.declared.lists.PullItem.{PullItem}
use Rattle.keep_event.specs.declared.device.DeviceRules.{DeviceRules}
use Rattle.keep_event.specs.declared.device.DeviceAnswer.{DeviceAnswer}
use Rattle.keep_event.specs.declared.device.DeviceAnswer.TheVariants as A
use Rattle.keep_event.specs.declared.device.DeviceQuery.{DeviceQuery}
use Rattle.keep_event.specs.declared.device.DeviceQuery.TheVariants as Q

module _ (P : List ℕ → Type 0) where
  -- each bytes that are held have P
  abbrev pub HoldAll : List (Name × Stored) → Type 0
  HoldAll es = AllByRecursion (λ e. P e.1.bytes) es

  -- the block that a query brings has P
  abbrev pub BringsAll : DeviceQuery → Type 0
  BringsAll (Q.CompareTouch block token) = P block
  BringsAll (Q.Write block token) = P block
  BringsAll _ = ⊤

  all-append : (xs ys : List (Name × Stored)) → HoldAll xs → HoldAll ys → HoldAll (xs ++ ys)
  all-append [] ys h k = k
  all-append (x ∷ xs) ys h k = (h.0, all-append xs ys h.1 k)

  record AllCut (c : store.Cut Stored) : Type 0 where
    front : HoldAll c.front
    at : IfSome c.at (λ e. P e.1.bytes)
    back : HoldAll c.back

  all-cut-by : (o : Ordering) (e : Name × Stored) (es : List (Name × Stored)) (c : store.Cut Stored) → P e.1.bytes → HoldAll es → AllCut c →
      AllCut (match_ordering o (record { front = []; at = None; back = e ∷ es }) (record { front = []; at = Some e; back = es }) (store.onto (e ∷ []) c))
  all-cut-by Less e es c p h k = record { front = tt; at = tt; back = (p, h) }
  all-cut-by Equal e es c p h k = record { front = tt; at = p; back = h }
  all-cut-by Greater e es c p h k = record { front = (p, k.front); at = k.at; back = k.back }

  all-cut : (n : Name) (es : List (Name × Stored)) → HoldAll es → AllCut (store.cut n es)
  all-cut n [] h = record { front = tt; at = tt; back = tt }
  all-cut n (e ∷ es) h = all-cut-by (store.name_cmp n e.0) e es (store.cut n es) h.0 h.1 (all-cut n es h.1)

  at-found : (o : Option (Name × Stored)) → IfSome o (λ e. P e.1.bytes) → IfSome (option_map (λ e. e.1) o) (λ s. P s.bytes)
  at-found None h = tt
  at-found (Some e) h = h

  pub all-found : (n : Name) (es : List (Name × Stored)) → HoldAll es → IfSome (store.find n es) (λ s. P s.bytes)
  all-found n es h = at-found (store.cut n es).at (all-cut n es h).at

  all-put : (n : Name) (s : Stored) (es : List (Name × Stored)) → P s.bytes → HoldAll es → HoldAll (store.put n s es)
  all-put n s es p h = let c = all-cut n es h in all-append (store.cut n es).front _ c.front (p, c.back)

  all-without : (n : Name) (es : List (Name × Stored)) → HoldAll es → HoldAll (store.without n es)
  all-without n es h = let c = all-cut n es h in all-append (store.cut n es).front _ c.front c.back

  all-moved : (from to : Name) (mtime : ℕ) (es : List (Name × Stored)) (o : Option Stored) → IfSome o (λ s. P s.bytes) → HoldAll es → HoldAll (store.rename from to mtime es o)
  all-moved from to mtime es None p h = h
  all-moved from to mtime es (Some s) p h = all-put to (store.with_time mtime s) (store.without from es) p (all-without from es h)

  -- ---- the lines

  abbrev LeavesAll : Reply → Type 0
  LeavesAll r = HoldAll r.state.held

  leaves-if : (b : Bool) (x y : Reply) → LeavesAll x → LeavesAll y → LeavesAll (if b then x else y)
  leaves-if true x y h k = h
  leaves-if false x y h k = k

  module _ (rules : DeviceRules) (reading : ℕ) (s : State) (held : HoldAll s.held) where
    renewed-all : (hash : List ℕ) (r : Stored) (answer : ℕ → DeviceAnswer) → P r.bytes → LeavesAll (machine.renewed hash reading r answer s)
    renewed-all hash r answer p = all-put (machine.replica hash) (store.with_time (max r.mtime reading) r) s.held p held

    compared-all : (bytes : List ℕ) (o : Option Stored) → IfSome o (λ r. P r.bytes) → LeavesAll (machine.compared bytes reading s o)
    compared-all bytes None p = held
    compared-all bytes (Some r) p = leaves-if (bytes_eq r.bytes bytes) _ _ (renewed-all (md5 bytes) r A.Touched p) held

    placed-all : (bytes : List ℕ) (mtime : ℕ) → P bytes → LeavesAll (machine.placed rules bytes mtime s)
    placed-all bytes mtime p = leaves-if _ _ _ held (all-put (machine.replica (md5 bytes)) (store.stored mtime bytes) s.held p held)

    written-all : (bytes : List ℕ) (o : Option Stored) → P bytes → IfSome o (λ r. P r.bytes) → LeavesAll (machine.written rules bytes reading s o)
    written-all bytes None b p = placed-all bytes reading b
    written-all bytes (Some r) b p =
        leaves-if (bytes_eq r.bytes bytes) _ _ (renewed-all (md5 bytes) r A.Written p)
        (leaves-if (bytes_eq (md5 r.bytes) (md5 bytes)) _ _ held (placed-all bytes (max r.mtime reading) b))

    fetched-all : (hash : List ℕ) (o : Option Stored) → LeavesAll (machine.fetched hash s o)
    fetched-all hash None = held
    fetched-all hash (Some r) = leaves-if (bytes_eq (md5 r.bytes) hash) _ _ held held

    touched-all : (hash : List ℕ) (o : Option Stored) → IfSome o (λ r. P r.bytes) → LeavesAll (machine.touched hash reading s o)
    touched-all hash None p = held
    touched-all hash (Some r) p = renewed-all hash r A.Touched p

    -- what a trashed replica leaves
    abbrev trashed_reply : TrashItem → Stored → Reply
    trashed_reply item r = record {
      answer = A.Trashed item.digest (reading + nanos rules.trash_life) s.round;
      state = machine.with_held (store.rename (machine.replica item.digest) (machine.copy item.digest (reading + nanos rules.trash_life)) r.mtime s.held (machine.replica_of item.digest s)) s;
    }

    trashed-all : (item : TrashItem) (o : Option Stored) → LeavesAll (machine.trashed rules item reading s o)
    trashed-all item None = held
    trashed-all item (Some r) =
        leaves-if (r.mtime == item.mtime)
        (if nat_lt (r.mtime + grace rules.ttl rules.skew) reading then trashed_reply item r else machine.stays (A.Young item.digest r.mtime) s)
        (machine.stays (A.Skipped item.digest r.mtime) s)
        (leaves-if (nat_lt (r.mtime + grace rules.ttl rules.skew) reading) (trashed_reply item r) (machine.stays (A.Young item.digest r.mtime) s)
        (all-moved (machine.replica item.digest) (machine.copy item.digest (reading + nanos rules.trash_life)) r.mtime s.held (machine.replica_of item.digest s) (all-found (machine.replica item.digest) s.held held) held)
        held)
        held

    trash-first-all : (items : List TrashItem) → LeavesAll (machine.trash_first rules reading s items)
    unfolding machine.trash_item
    trash-first-all [] = held
    trash-first-all (item ∷ rest) =
        leaves-if rules.read_only _ _ held (trashed-all item (machine.replica_of item.digest s))

    pull-first-all : (items : List PullItem) → LeavesAll (machine.pull_first s items)
    pull-first-all [] = held
    pull-first-all (item ∷ rest) = held

    back-all : (hash : List ℕ) (o : Option (Name × Stored)) → LeavesAll (machine.back hash reading s o)
    back-all hash None = held
    back-all hash (Some e) = all-moved e.0 (machine.replica hash) (max e.1.mtime reading) s.held (store.find e.0 s.held) (all-found e.0 s.held held) held

    brought-back-all : (hash : List ℕ) (o : Option Stored) → LeavesAll (machine.brought_back hash reading s o)
    brought-back-all hash None = back-all hash (machine.last_copy hash s.held)
    brought-back-all hash (Some r) = held

    emptied-all : (o : Option (Name × Stored)) → LeavesAll (machine.emptied s o)
    emptied-all None = held
    emptied-all (Some e) = all-without e.0 s.held held

    pub step-all : (q : DeviceQuery) → BringsAll q → LeavesAll (machine.step rules reading q s)
    unfolding machine.compare_touch machine.write machine.fetch machine.touch machine.clear machine.accept machine.page machine.trash_next machine.pull_next machine.untrash machine.empty_next machine.restart
    step-all (Q.CompareTouch block token) b = leaves-if rules.read_only _ _ held (compared-all block _ (all-found (machine.replica (md5 block)) s.held held))
    step-all (Q.Write block token) b = leaves-if rules.read_only _ _ held (written-all block _ b (all-found (machine.replica (md5 block)) s.held held))
    step-all (Q.Fetch hash) b = fetched-all hash _
    step-all (Q.Touch hash token) b = leaves-if rules.read_only _ _ held (touched-all hash _ (all-found (machine.replica hash) s.held held))
    step-all (Q.Clear round) b = leaves-if _ _ _ held held
    step-all (Q.Accept round lists) b = leaves-if _ _ _ held held
    step-all (Q.Page round prefix) b = leaves-if _ _ _ held held
    step-all Q.TrashNext b = trash-first-all s.trash
    step-all Q.PullNext b = pull-first-all s.pull
    step-all (Q.Untrash hash) b = leaves-if rules.read_only _ _ held (brought-back-all hash _)
    step-all Q.EmptyNext b = leaves-if rules.read_only _ _ held (emptied-all _)
    step-all Q.Restart b = held
