-- The first item of a trash list does the same whether it is taken from the list before or after: `taken-first`.
use Rattle.std.proofs.Common.{◌≡◌, ℕ, List, ◌∷◌, Bool, true, false, Option, None, Some, if◌then◌else◌, refl, sym, ◌∙◌, ap}
use Rattle.std.specs.Prelude.{◌+◌, ◌==◌, nat_lt}
use Rattle.keep_spec.specs.Times.{grace}
use Rattle.keep_event.specs.Device as machine
use Rattle.keep_event.specs.Device.{State, Reply, with_trash, taken, replica_of}
use Rattle.keep_event.specs.declared.device.DeviceRules.{DeviceRules}
use Rattle.keep_event.specs.declared.lists.TrashItem.{TrashItem}
use Rattle.keep_event.specs.declared.names.Stored.{Stored}

if-taken : (rest : List TrashItem) (b : Bool) (x y x' y' : Reply) → x ≡ taken rest x' → y ≡ taken rest y' → (if b then x else y) ≡ taken rest (if b then x' else y')
if-taken rest true x y x' y' h k = h
if-taken rest false x y x' y' h k = k

module _ (rules : DeviceRules) (item : TrashItem) (reading : ℕ) (s : State) (rest : List TrashItem) where
  trashed-taken : (o : Option Stored) → machine.trashed rules item reading (with_trash rest s) o ≡ taken rest (machine.trashed rules item reading s o)
  trashed-taken None = refl
  trashed-taken (Some r) = if-taken rest (r.mtime == item.mtime) _ _ _ _ (if-taken rest (nat_lt (r.mtime + grace rules.ttl rules.skew) reading) _ _ _ _ refl refl) refl

  item-taken : machine.trash_item rules item reading (with_trash rest s) ≡ taken rest (machine.trash_item rules item reading s)
  unfolding machine.trash_item
  item-taken = if-taken rest rules.read_only _ _ _ _ refl (trashed-taken (replica_of item.digest s))

  pub taken-first : s.trash ≡ item ∷ rest → machine.trash_item rules item reading (with_trash rest s) ≡ machine.trash_next rules reading s
  unfolding machine.trash_next
  taken-first e = item-taken ∙ ap (machine.trash_first rules reading s) (sym e)
