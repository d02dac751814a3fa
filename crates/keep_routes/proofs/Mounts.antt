-- The device of a mount is one of the configuration.
use Rattle.std.proofs.Common.{◌≡◌, ◌<◌, ℕ, List, [], ◌∷◌, length, true, Option, None, Some, refl, sym, subst, ap, ◌∙◌}
use Rattle.std.specs.Prelude.{◌&&◌, nat_lt, bytes_eq, codes, map, find, option_map, IfSome, Bool, false, ⊤, if◌then◌else◌}
use Rattle.std.specs.List.{list_all}
use Rattle.std.proofs.lemmas.Bool.{and_parts, ltb-true}
use Rattle.keep_spec.specs.Uuid.{uuid_kind}
use Rattle.keep_spec.specs.Config.{Configuration, IsGood, is_mount, all_mounted, are_mounts, all_distinct, is_within}
use Rattle.keep_spec.specs.declared.config.Mount.{Mount}
use Rattle.keep_event.specs.Lists.{device_of_mount}

found-within : (n s : ℕ) (p : Mount → Bool) (ms : List Mount) → list_all (is_mount n s) ms ≡ true → IfSome (option_map (λ m. m.device) (find p ms)) (λ d. d < n)
found-within n s p [] e = tt
found-within n s p (m ∷ ms) e =
    let first = and_parts (is_mount n s m) (list_all (is_mount n s) ms) e in
    let parts = and_parts (bytes_eq (uuid_kind m.uuid) (codes "nyw5e") && nat_lt m.device n) (nat_lt m.server s) first.0 in
    let device = and_parts (bytes_eq (uuid_kind m.uuid) (codes "nyw5e")) (nat_lt m.device n) parts.0 in
    here (p m) (ltb-true m.device n device.1) (found-within n s p ms first.1)
  where
    here : (b : Bool) → m.device < n → IfSome (option_map (λ m. m.device) (find p ms)) (λ d. d < n) → IfSome (option_map (λ m. m.device) (if b then Some m else find p ms)) (λ d. d < n)
    here true lt rest = lt
    here false lt rest = rest

pub mount_within : (c : Configuration) (uuid : List ℕ) → IsGood c → IfSome (device_of_mount c uuid) (λ d. d < length c.devices)
mount_within c uuid good =
    let ms = c.mounts in
    let n = length c.devices in
    let s = length c.servers in
    let a = and_parts (is_within 1 256 (length ms) && list_all (is_mount n s) ms && all_distinct (map (λ m. m.uuid) ms)) (all_mounted n ms) good.mounts in
    let b = and_parts (is_within 1 256 (length ms) && list_all (is_mount n s) ms) (all_distinct (map (λ m. m.uuid) ms)) a.0 in
    let e = and_parts (is_within 1 256 (length ms)) (list_all (is_mount n s) ms) b.0 in
    found-within n s (λ m. bytes_eq m.uuid uuid) ms e.1
