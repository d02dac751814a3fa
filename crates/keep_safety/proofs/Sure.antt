-- No line of the machine is a fault of its store: `step-sure`.
use Rattle.std.proofs.Common.{◌≡◌, ◌+◌, ℕ, List, [], ◌∷◌, Bool, true, false, refl, Option, None, Some, max, if◌then◌else◌}
use Rattle.std.specs.Prelude.{nat_lt, ◌==◌, ◌-◌, length}
use Rattle.std.specs.List.{find as list_find}
use Rattle.std.specs.Str.{bytes_eq}
use Rattle.md5.specs.Md5.{md5}
use Rattle.keep_spec.specs.Times.{grace}
use Rattle.keep_event.specs.Device as machine
use Rattle.keep_event.specs.Device.{State, Reply, stays, replica_of}
use Rattle.keep_event.specs.declared.names.Name.{Name}
use Rattle.keep_event.specs.declared.names.Stored.{Stored}
use Rattle.keep_event.specs.declared.lists.TrashItem.{TrashItem}
use Rattle.keep_event.specs.declared.lists.PullItem.{PullItem}
use Rattle.keep_event.specs.declared.device.DeviceRules.{DeviceRules}
use Rattle.keep_event.specs.declared.device.DeviceAnswer.TheVariants as A
use Rattle.keep_event.specs.declared.device.DeviceQuery.{DeviceQuery}
use Rattle.keep_event.specs.declared.device.DeviceQuery.TheVariants as Q
use Rattle.keep_safety.specs.Past.{is_fault}
use Rattle.keep_safety.proofs.Lines.{by-if}

module _ (rules : DeviceRules) (reading : ℕ) (s : State) where
  abbrev Sure : Reply → Type 0
  Sure r = is_fault r.answer ≡ false

  sure-if : (b : Bool) (x y : Reply) → Sure x → Sure y → Sure (if b then x else y)
  sure-if true x y h k = h
  sure-if false x y h k = k

  other-sure : (b : Bool) (x : List ℕ) → is_fault (if b then A.Collision else A.Corrupt x) ≡ false
  other-sure true x = refl
  other-sure false x = refl

  compared-sure : (bytes : List ℕ) (o : Option Stored) → Sure (machine.compared bytes reading s o)
  compared-sure bytes None = refl
  compared-sure bytes (Some r) = sure-if (bytes_eq r.bytes bytes) (machine.renewed (md5 bytes) reading r A.Touched s) (stays (machine.other_answer bytes r.bytes) s) refl (other-sure (bytes_eq (md5 r.bytes) (md5 bytes)) (md5 r.bytes))

  placed-sure : (bytes : List ℕ) (mtime : ℕ) → Sure (machine.placed rules bytes mtime s)
  placed-sure bytes mtime = by-if Sure (nat_lt rules.capacity (machine.used s.held - machine.taken_by (replica_of (md5 bytes) s) + length bytes)) _ _ (λ e. refl) (λ e. refl)

  written-sure : (bytes : List ℕ) (o : Option Stored) → Sure (machine.written rules bytes reading s o)
  written-sure bytes None = placed-sure bytes reading
  written-sure bytes (Some r) = by-if Sure (bytes_eq r.bytes bytes) _ _ (λ e. refl) (λ e. by-if Sure (bytes_eq (md5 r.bytes) (md5 bytes)) _ _ (λ e. refl) (λ e. placed-sure bytes (max r.mtime reading)))

  fetched-sure : (x : List ℕ) (o : Option Stored) → Sure (machine.fetched x s o)
  fetched-sure x None = refl
  fetched-sure x (Some r) = by-if Sure (bytes_eq (md5 r.bytes) x) _ _ (λ e. refl) (λ e. refl)

  touched-sure : (x : List ℕ) (o : Option Stored) → Sure (machine.touched x reading s o)
  touched-sure x None = refl
  touched-sure x (Some r) = refl

  trashed-sure : (item : TrashItem) (o : Option Stored) → Sure (machine.trashed rules item reading s o)
  trashed-sure item None = refl
  trashed-sure item (Some r) = by-if Sure (r.mtime == item.mtime) _ _ (λ e. by-if Sure (nat_lt (r.mtime + grace rules.ttl rules.skew) reading) _ _ (λ e. refl) (λ e. refl)) (λ e. refl)

  trash-first-sure : (items : List TrashItem) → Sure (machine.trash_first rules reading s items)
  unfolding machine.trash_item
  trash-first-sure [] = refl
  trash-first-sure (item ∷ rest) = sure-if rules.read_only (stays A.ReadOnly s) (machine.trashed rules item reading s (replica_of item.digest s)) refl (trashed-sure item (replica_of item.digest s))

  back-sure : (x : List ℕ) (o : Option (Name × Stored)) → Sure (machine.back x reading s o)
  back-sure x None = refl
  back-sure x (Some e) = refl

  brought-back-sure : (x : List ℕ) (o : Option Stored) → Sure (machine.brought_back x reading s o)
  brought-back-sure x None = back-sure x (machine.last_copy x s.held)
  brought-back-sure x (Some r) = refl

  emptied-sure : (o : Option (Name × Stored)) → Sure (machine.emptied s o)
  emptied-sure None = refl
  emptied-sure (Some e) = refl

  pull-first-sure : (items : List PullItem) → Sure (machine.pull_first s items)
  pull-first-sure [] = refl
  pull-first-sure (item ∷ rest) = refl

  pub step-sure : (q : DeviceQuery) → Sure (machine.step rules reading q s)
  unfolding machine.compare_touch machine.write machine.fetch machine.touch machine.clear machine.accept machine.page machine.trash_next machine.pull_next machine.untrash machine.empty_next machine.restart
  step-sure (Q.CompareTouch block token) = by-if Sure rules.read_only _ _ (λ e. refl) (λ e. compared-sure block (replica_of (md5 block) s))
  step-sure (Q.Write block token) = by-if Sure rules.read_only _ _ (λ e. refl) (λ e. written-sure block (replica_of (md5 block) s))
  step-sure (Q.Fetch x) = fetched-sure x (replica_of x s)
  step-sure (Q.Touch x token) = by-if Sure rules.read_only _ _ (λ e. refl) (λ e. touched-sure x (replica_of x s))
  step-sure (Q.Clear round) = by-if Sure (nat_lt round s.round) _ _ (λ e. refl) (λ e. refl)
  step-sure (Q.Accept round lists) = by-if Sure (round == s.round) _ _ (λ e. refl) (λ e. refl)
  step-sure (Q.Page round prefix) = by-if Sure (round == s.round) _ _ (λ e. refl) (λ e. refl)
  step-sure Q.TrashNext = trash-first-sure s.trash
  step-sure Q.PullNext = pull-first-sure s.pull
  step-sure (Q.Untrash x) = by-if Sure rules.read_only _ _ (λ e. refl) (λ e. brought-back-sure x (replica_of x s))
  step-sure Q.EmptyNext = by-if Sure rules.read_only _ _ (λ e. refl) (λ e. emptied-sure (list_find (machine.is_due reading) s.held))
  step-sure Q.Restart = refl
