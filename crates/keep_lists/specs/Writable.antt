-- The lists that are read again as they were written.
use Rattle.std.specs.Prelude.{◌≡◌, ◌<◌, ◌^◌, ℕ, length, map, IsTrue}
use Rattle.std.specs.List.{AllByRecursion}
use Rattle.hex.specs.Hex.{IsBytes}
use Rattle.keep_spec.specs.Config.{Configuration, all_distinct, all_mounted}
use Rattle.keep_event.specs.declared.lists.TrashItem.{TrashItem}
use Rattle.keep_event.specs.declared.lists.PullItem.{PullItem}
use Rattle.keep_event.specs.declared.lists.Lists.{Lists}

-- a digest of 16 bytes, and a size of 19 digits at most
pub record IsWritableTrash (t : TrashItem) : Type 0 where
  pub long : length t.digest ≡ 16
  pub bytes : IsBytes t.digest
  pub size : t.size < 10 ^ 19

-- the same, and sources that are configured devices
pub record IsWritablePull (c : Configuration) (p : PullItem) : Type 0 where
  pub long : length p.digest ≡ 16
  pub bytes : IsBytes p.digest
  pub size : p.size < 10 ^ 19
  pub sources : AllByRecursion (λ s. s < length c.devices) p.sources

-- lists of a configured device, where each device has a mount and no two mounts have one UUID
pub record AreWritable (c : Configuration) (d : ℕ) (lists : Lists) : Type 0 where
  pub mounted : IsTrue (all_mounted (length c.devices) c.mounts)
  pub distinct : IsTrue (all_distinct (map (λ m. m.uuid) c.mounts))
  pub device : d < length c.devices
  pub trash : AllByRecursion IsWritableTrash lists.trash
  pub pull : AllByRecursion (IsWritablePull c) lists.pull
