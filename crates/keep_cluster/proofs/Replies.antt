-- What an ask leaves of a cluster: `sound-device`, `sound-kept`, `sound-table` of what holds of every cluster; `world-device`, `world-kept`, `device-fault` and `device-faults` of what it tells.
use Rattle.std.proofs.Common.{◌≡◌, ◌<◌, ◌≤◌, ◌+◌, ℕ, List, length, map, Option, Some, option_map, IfSome, Result, Ok, Err, sym, ◌∙◌, ap, subst, arith}
use Rattle.std.proofs.lemmas.List.{length-map}
use Rattle.keep_spec.specs.Config.{Configuration}
use Rattle.keep_spec.specs.declared.memory.NoMemory.{NoMemory}
use Rattle.keep_event.specs.Counters.{CountersUpTo}
use Rattle.keep_event.specs.Port.{IsWorldAfter, HasStoreFault, NoneFalls, MayAsk, most_events}
use Rattle.keep_event.specs.Requests.{table_line}
use Rattle.keep_event.specs.World.{rules_of}
use Rattle.keep_event.specs.declared.device.DeviceQuery.{DeviceQuery}
use Rattle.keep_event.specs.declared.device.DeviceAnswer.{DeviceAnswer}
use Rattle.keep_event.specs.declared.table.TableQuery.{TableQuery}
use Rattle.keep_event.specs.declared.table.TableAnswer.{TableAnswer}
use Rattle.keep_event.specs.declared.event.Query.{Query}
use Rattle.keep_event.specs.declared.event.Query.TheVariants as Q
use Rattle.keep_event.specs.declared.event.Answer.TheVariants as An
use Rattle.keep_event.specs.declared.port.Reply.{Reply}
use Rattle.keep_event.specs.declared.port.PortError.TheVariants as E
use Rattle.keep_table.specs.Contents.{Contents, IsLine as IsTableLine}
use Rattle.keep_volume.specs.Calls.{VolumeView}
use Rattle.keep_cluster.specs.Cluster.{View, HasDevices, IsSound, world_of, faults_at}
use Rattle.keep_cluster.specs.Asked.{IsAskedOf}
use Rattle.keep_cluster.proofs.Devices.{rules-set, none-falls}
use Rattle.keep_cluster.proofs.Worlds.{after-device, kept-device, fault-rises}
use Rattle.keep_cluster.proofs.Counts.{counters-more, counters-after}

abbrev pub with_devices : List VolumeView → ℕ → View → View
with_devices ds made v = record { config = v.config; devices = ds; table = v.table; reading = v.reading; made = made; spent = v.spent }

abbrev pub with_table : Contents → ℕ → View → View
with_table t made v = record { config = v.config; devices = v.devices; table = t; reading = v.reading; made = made; spent = v.spent }

pub device-below : (c : Configuration) (ds : List VolumeView) (device : ℕ) (q : Query) (query : DeviceQuery) → HasDevices c ds → q ≡ Q.Device device query → MayAsk (length c.devices) q → device < length ds
device-below c ds device q query has is may =
    let below : device < length c.devices = subst (MayAsk (length c.devices)) is may in
    let same : length ds ≡ length c.devices = sym (length-map ds (λ (d : VolumeView). d.rules)) ∙ ap length has ∙ length-map c.devices (λ d. rules_of c (Some d)) in
    omega (arith, below, same)

module _ (v : View) (sound : IsSound v) (device : ℕ) (query : DeviceQuery) (new : List VolumeView) (result : Result DeviceAnswer NoMemory) (a : IsAskedOf device v.reading query v.devices new result) where
  devices-after : HasDevices v.config new
  devices-after = subst (HasDevices v.config) (sym a.changed) (rules-set v.config v.devices device a.before a.after (a.found a.before) a.line.rules sound.devices)

  pub sound-device : (made : ℕ) → v.made ≤ made → made ≤ most_events → IsSound (with_devices new made v)
  sound-device made more most = record { devices = devices-after; table = sound.table; reading = sound.reading; made = most; counters = counters-more v.made made v.table.state more sound.counters }

  pub device-faults : NoneFalls (faults_at v.devices) (faults_at new)
  device-faults = λ j. subst (λ ds. faults_at v.devices j ≤ faults_at ds j) (sym a.changed) (none-falls v.devices device a.before a.after a.found a.line.never_falls j)

pub sound-table : (v : View) → IsSound v → (query : TableQuery) (t : Contents) (answer : TableAnswer) → IsTableLine (table_line v.config v.reading query v.table.state) v.table t (Ok answer) → (made : ℕ) → made ≡ v.made + 1 → made ≤ most_events → IsSound (with_table t made v)
sound-table v sound query t answer l made next most = record {
  devices = sound.devices;
  table = l.rules ∙ sound.table;
  reading = sound.reading;
  made = most;
  counters = subst (λ n. CountersUpTo n t.state) (sym next) (counters-after v.config v.reading v.made query v.table t answer l sound.counters);
}

module _ (old v : View) (is : old ≡ v) (sound : IsSound v) (q : Query) (device : ℕ) (query : DeviceQuery) (asks : q ≡ Q.Device device query) (may : MayAsk (length v.config.devices) q) (new : List VolumeView) where
  below : device < length v.devices
  below = device-below v.config v.devices device q query sound.devices asks may

  pub world-device : (answer : DeviceAnswer) (r : Reply) (made : ℕ) → r ≡ record { tick = v.made; reading = v.reading; answer = An.Device answer } → IsAskedOf device v.reading query v.devices new (Ok answer)
      → IfSome (world_of old) (λ w. IsWorldAfter w (world_of (with_devices new made v)) q (Ok r))
  world-device answer r made e a = rw (is, asks, e) (after-device v.config v.table.state v.devices new device v.reading query sound.devices below v.made answer a)

  pub world-kept : (x : NoMemory) (made : ℕ) → IsAskedOf device v.reading query v.devices new (Err x) → IfSome (world_of old) (λ w. IsWorldAfter w (world_of (with_devices new made v)) q (Err E.NoMemory))
  world-kept x made a = rw is (kept-device v.config v.table.state v.devices new device v.reading query sound.devices below x a)

  pub device-fault : (answer : DeviceAnswer) (r : Reply) → r ≡ record { tick = v.made; reading = v.reading; answer = An.Device answer } → IsAskedOf device v.reading query v.devices new (Ok answer)
      → HasStoreFault (faults_at old.devices) (faults_at new) q (Ok r)
  device-fault answer r e a = rw (is, asks, e) (fault-rises v.config v.table.state v.devices new device v.reading query sound.devices below v.made answer a)
