-- What a device holds stands in order, and each bytes have the digest of their name: `step-sound`.
use Rattle.std.proofs.Common.{◌≡◌, ◌+◌, ℕ, List, [], ◌∷◌, refl, sym, ◌∙◌, ap, subst, Option, None, Some, option_map, is_some, max, inl, inr, filter, Less, Equal, Greater, Ordering}
use Rattle.std.specs.Prelude.{◌⊎◌, nat_lt, ◌==◌, ◌-◌, length}
use Rattle.std.specs.List.{find as list_find}
use Rattle.std.specs.Ordering.{match_ordering}
use Rattle.std.specs.Str.{bytes_eq}
use Rattle.std.proofs.lemmas.Bool.{and_parts}
use Rattle.md5.specs.Md5.{md5}
use Rattle.keep_spec.specs.Times.{grace, nanos}
use Rattle.keep_event.specs.Device as machine
use Rattle.keep_event.specs.Device.{State, Reply, stays, replica, copy, replica_of, with_held}
use Rattle.keep_event.specs.Store as store
use Rattle.keep_event.specs.Store.{Cut, cut, onto, find, put, without, IsAscending, name_cmp}
use Rattle.keep_event.specs.declared.names.Name.{Name}
use Rattle.keep_event.specs.declared.names.Stored.{Stored}
use Rattle.keep_event.specs.declared.lists.TrashItem.{TrashItem}
use Rattle.keep_event.specs.declared.lists.PullItem.{PullItem}
use Rattle.keep_event.specs.declared.device.DeviceRules.{DeviceRules}
use Rattle.keep_event.specs.declared.device.DeviceAnswer.{DeviceAnswer}
use Rattle.keep_event.specs.declared.device.DeviceAnswer.TheVariants as A
use Rattle.keep_event.specs.declared.device.DeviceQuery.{DeviceQuery}
use Rattle.keep_event.specs.declared.device.DeviceQuery.TheVariants as Q
use Rattle.keep_spec.specs.Members.{IsIn}
use Rattle.keep_store.proofs.Order.{ascending-put, ascending-without, nothing-ascends}
use Rattle.keep_safety.proofs.Names.{bytes-same, same-digest}
use Rattle.keep_order.proofs.Lists.{last-in, in-filter, in-either}
use Rattle.keep_safety.proofs.Lines.{by-if}

-- ---- members of a list after a put and a removal
record WithinCut (e : Name × Stored) (es : List (Name × Stored)) (c : Cut Stored) : Type 0 where
  front : IsIn e c.front → IsIn e es
  back : IsIn e c.back → IsIn e es

within-by : (o : Ordering) (e x : Name × Stored) (es : List (Name × Stored)) (c : Cut Stored) → WithinCut e es c →
    WithinCut e (x ∷ es) (match_ordering o (record { front = []; at = None; back = x ∷ es }) (record { front = []; at = Some x; back = es }) (onto (x ∷ []) c))
within-by Less e x es c w = record { front = λ i. absurd i; back = λ i. i }
within-by Equal e x es c w = record { front = λ i. absurd i; back = λ i. inr i }
within-by Greater e x es c w = record { front = λ i. front i; back = λ i. inr (w.back i) }
  where
    front : (e ≡ x) ⊎ IsIn e c.front → (e ≡ x) ⊎ IsIn e es
    front (inl same) = inl same
    front (inr i) = inr (w.front i)

within-cut : (n : Name) (e : Name × Stored) (es : List (Name × Stored)) → WithinCut e es (cut n es)
within-cut n e [] = record { front = λ i. i; back = λ i. i }
within-cut n e (x ∷ es) = within-by (name_cmp n x.0) e x es (cut n es) (within-cut n e es)

in-put-by : (n : Name) (x : Stored) (e : Name × Stored) (es : List (Name × Stored)) (c : Cut Stored) → WithinCut e es c → IsIn e c.front ⊎ IsIn e ((n, x) ∷ c.back) → (e ≡ (n, x)) ⊎ IsIn e es
in-put-by n x e es c w (inl i) = inr (w.front i)
in-put-by n x e es c w (inr (inl same)) = inl same
in-put-by n x e es c w (inr (inr i)) = inr (w.back i)

pub in-put : (n : Name) (x : Stored) (e : Name × Stored) (es : List (Name × Stored)) → IsIn e (put n x es) → (e ≡ (n, x)) ⊎ IsIn e es
in-put n x e es i = in-put-by n x e es (cut n es) (within-cut n e es) (in-either e (cut n es).front ((n, x) ∷ (cut n es).back) i)

in-without-by : (e : Name × Stored) (es : List (Name × Stored)) (c : Cut Stored) → WithinCut e es c → IsIn e c.front ⊎ IsIn e c.back → IsIn e es
in-without-by e es c w (inl i) = w.front i
in-without-by e es c w (inr i) = w.back i

pub in-without : (n : Name) (e : Name × Stored) (es : List (Name × Stored)) → IsIn e (without n es) → IsIn e es
in-without n e es i = in-without-by e es (cut n es) (within-cut n e es) (in-either e (cut n es).front (cut n es).back i)

-- what a name finds is there under that name
pub record Found (n : Name) (x : Stored) (es : List (Name × Stored)) : Type 0 where
  pub entry : Name × Stored
  pub member : IsIn entry es
  pub is : entry.1 ≡ x
  pub digest : entry.0.digest ≡ n.digest

found-later : (n : Name) (x : Stored) (e : Name × Stored) (es : List (Name × Stored)) → Found n x es → Found n x (e ∷ es)
found-later n x e es f = record { entry = f.entry; member = inr f.member; is = f.is; digest = f.digest }

found-by : (n : Name) (x : Stored) (e : Name × Stored) (es : List (Name × Stored)) (o : Ordering) → name_cmp n e.0 ≡ o → (find n es ≡ Some x → Found n x es) →
    option_map (λ (e : Name × Stored). e.1) (match_ordering o (record { front = []; at = None; back = e ∷ es }) (record { front = []; at = Some e; back = es }) (onto (e ∷ []) (cut n es))).at ≡ Some x → Found n x (e ∷ es)
found-by n x e es Less h rest is = cc is
found-by n x e es Equal h rest is = record { entry = e; member = inl refl; is = cc is; digest = sym (same-digest n e.0 h) }
found-by n x e es Greater h rest is = found-later n x e es (rest is)

pub found-of : (n : Name) (x : Stored) (es : List (Name × Stored)) → find n es ≡ Some x → Found n x es
found-of n x [] is = cc is
found-of n x (e ∷ es) is = found-by n x e es (name_cmp n e.0) refl (found-of n x es) is

-- ---- the lines
pub record IsSound (es : List (Name × Stored)) : Type 0 where
  pub ascends : IsAscending es
  pub digests : (e : Name × Stored) → IsIn e es → md5 e.1.bytes ≡ e.0.digest

sound-put : (n : Name) (x : Stored) (es : List (Name × Stored)) → md5 x.bytes ≡ n.digest → IsSound es → IsSound (put n x es)
sound-put n x es h s = record { ascends = ascending-put n x es s.ascends; digests = λ e i. by e (in-put n x e es i) }
  where
    by : (e : Name × Stored) → (e ≡ (n, x)) ⊎ IsIn e es → md5 e.1.bytes ≡ e.0.digest
    by e (inl same) = subst (λ (e : Name × Stored). md5 e.1.bytes ≡ e.0.digest) (sym same) h
    by e (inr i) = s.digests e i

sound-without : (n : Name) (es : List (Name × Stored)) → IsSound es → IsSound (without n es)
sound-without n es s = record { ascends = ascending-without n es s.ascends; digests = λ e i. s.digests e (in-without n e es i) }

pub found-sound : (n : Name) (x : Stored) (es : List (Name × Stored)) → IsSound es → find n es ≡ Some x → md5 x.bytes ≡ n.digest
found-sound n x es s is = let f = found-of n x es is in ap (λ (v : Stored). md5 v.bytes) (sym f.is) ∙ s.digests f.entry f.member ∙ f.digest

sound-rename : (from to : Name) (m : ℕ) (es : List (Name × Stored)) (o : Option Stored) → find from es ≡ o → from.digest ≡ to.digest → IsSound es → IsSound (store.rename from to m es o)
sound-rename from to m es None is same s = s
sound-rename from to m es (Some x) is same s = sound-put to (store.with_time m x) (without from es) (found-sound from x es s is ∙ same) (sound-without from es s)

module _ (rules : DeviceRules) (reading : ℕ) (s : State) (sound : IsSound s.held) where
  abbrev Leaves : Reply → Type 0
  Leaves r = IsSound r.state.held

  renewed-sound : (x : List ℕ) (r : Stored) (answer : ℕ → DeviceAnswer) → replica_of x s ≡ Some r → Leaves (machine.renewed x reading r answer s)
  renewed-sound x r answer e = sound-put (replica x) (store.with_time (max r.mtime reading) r) s.held (found-sound (replica x) r s.held sound e) sound

  compared-sound : (bytes : List ℕ) (o : Option Stored) → replica_of (md5 bytes) s ≡ o → Leaves (machine.compared bytes reading s o)
  compared-sound bytes None e = sound
  compared-sound bytes (Some r) e = by-if Leaves (bytes_eq r.bytes bytes) _ _ (λ same. renewed-sound (md5 bytes) r A.Touched e) (λ other. sound)

  placed-sound : (bytes : List ℕ) (mtime : ℕ) → Leaves (machine.placed rules bytes mtime s)
  placed-sound bytes mtime = by-if Leaves (nat_lt rules.capacity (machine.used s.held - machine.taken_by (replica_of (md5 bytes) s) + length bytes)) _ _ (λ full. sound)
      (λ room. sound-put (replica (md5 bytes)) (store.stored mtime bytes) s.held refl sound)

  written-sound : (bytes : List ℕ) (o : Option Stored) → replica_of (md5 bytes) s ≡ o → Leaves (machine.written rules bytes reading s o)
  written-sound bytes None e = placed-sound bytes reading
  written-sound bytes (Some r) e =
      by-if Leaves (bytes_eq r.bytes bytes) _ _ (λ same. renewed-sound (md5 bytes) r A.Written e)
      (λ other. by-if Leaves (bytes_eq (md5 r.bytes) (md5 bytes)) _ _ (λ same. sound) (λ corrupt. placed-sound bytes (max r.mtime reading)))

  fetched-sound : (x : List ℕ) (o : Option Stored) → Leaves (machine.fetched x s o)
  fetched-sound x None = sound
  fetched-sound x (Some r) = by-if Leaves (bytes_eq (md5 r.bytes) x) _ _ (λ same. sound) (λ other. sound)

  touched-sound : (x : List ℕ) (o : Option Stored) → replica_of x s ≡ o → Leaves (machine.touched x reading s o)
  touched-sound x None e = sound
  touched-sound x (Some r) e = renewed-sound x r A.Touched e

  trashed-sound : (item : TrashItem) (o : Option Stored) → Leaves (machine.trashed rules item reading s o)
  trashed-sound item None = sound
  trashed-sound item (Some r) =
      by-if Leaves (r.mtime == item.mtime) _ _
      (λ same. by-if Leaves (nat_lt (r.mtime + grace rules.ttl rules.skew) reading) _ _
      (λ old. sound-rename (replica item.digest) (copy item.digest (reading + nanos rules.trash_life)) r.mtime s.held (replica_of item.digest s) refl refl sound)
      (λ young. sound))
      (λ other. sound)

  trash-first-sound : (items : List TrashItem) → Leaves (machine.trash_first rules reading s items)
  unfolding machine.trash_item
  trash-first-sound [] = sound
  trash-first-sound (item ∷ rest) = by-if Leaves rules.read_only (stays A.ReadOnly s) (machine.trashed rules item reading s (replica_of item.digest s)) (λ only. sound) (λ writes. trashed-sound item (replica_of item.digest s))

  back-sound : (x : List ℕ) (o : Option (Name × Stored)) → machine.last_copy x s.held ≡ o → Leaves (machine.back x reading s o)
  back-sound x None e = sound
  back-sound x (Some e) last =
      let at = in-filter (λ (e : Name × Stored). machine.is_copy_of x e.0) e s.held (last-in e (filter (λ (e : Name × Stored). machine.is_copy_of x e.0) s.held) last) in
      sound-rename e.0 (replica x) (max e.1.mtime reading) s.held (find e.0 s.held) refl (bytes-same e.0.digest x (and_parts (bytes_eq e.0.digest x) (is_some e.0.deadline) at.1).0) sound

  brought-back-sound : (x : List ℕ) (o : Option Stored) → Leaves (machine.brought_back x reading s o)
  brought-back-sound x None = back-sound x (machine.last_copy x s.held) refl
  brought-back-sound x (Some r) = sound

  emptied-sound : (o : Option (Name × Stored)) → Leaves (machine.emptied s o)
  emptied-sound None = sound
  emptied-sound (Some e) = sound-without e.0 s.held sound

  pull-first-sound : (items : List PullItem) → Leaves (machine.pull_first s items)
  pull-first-sound [] = sound
  pull-first-sound (item ∷ rest) = sound

  pub step-sound : (q : DeviceQuery) → Leaves (machine.step rules reading q s)
  unfolding machine.compare_touch machine.write machine.fetch machine.touch machine.clear machine.accept machine.page machine.trash_next machine.pull_next machine.untrash machine.empty_next machine.restart
  step-sound (Q.CompareTouch block token) = by-if Leaves rules.read_only _ _ (λ only. sound) (λ writes. compared-sound block (replica_of (md5 block) s) refl)
  step-sound (Q.Write block token) = by-if Leaves rules.read_only _ _ (λ only. sound) (λ writes. written-sound block (replica_of (md5 block) s) refl)
  step-sound (Q.Fetch x) = fetched-sound x (replica_of x s)
  step-sound (Q.Touch x token) = by-if Leaves rules.read_only _ _ (λ only. sound) (λ writes. touched-sound x (replica_of x s) refl)
  step-sound (Q.Clear round) = by-if Leaves (nat_lt round s.round) _ _ (λ stale. sound) (λ fresh. sound)
  step-sound (Q.Accept round lists) = by-if Leaves (round == s.round) _ _ (λ same. sound) (λ stale. sound)
  step-sound (Q.Page round prefix) = by-if Leaves (round == s.round) _ _ (λ same. sound) (λ stale. sound)
  step-sound Q.TrashNext = trash-first-sound s.trash
  step-sound Q.PullNext = pull-first-sound s.pull
  step-sound (Q.Untrash x) = by-if Leaves rules.read_only _ _ (λ only. sound) (λ writes. brought-back-sound x (replica_of x s))
  step-sound Q.EmptyNext = by-if Leaves rules.read_only _ _ (λ only. sound) (λ writes. emptied-sound (list_find (machine.is_due reading) s.held))
  step-sound Q.Restart = sound

abbrev no_entries : List (Name × Stored)
no_entries = []

pub nothing-sound : IsSound []
nothing-sound = let none : no_entries ≡ [] = refl in record { ascends = nothing-ascends {X = Stored} [] none; digests = λ e i. absurd i }
