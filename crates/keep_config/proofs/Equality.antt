-- `==` decides equality.
use Rattle.std.proofs.Common.{◌≡◌, ◌==◌, ◌&&◌, ℕ, List, Bool, bytes_eq, refl, ap}
use Rattle.std.specs.Bool.{Decides}
use Rattle.std.specs.Cmp.{booleans_Decides}
use Rattle.std.specs.Cmp.Lexicographic.{pointwise}
use Rattle.std.proofs.Math.Bool.{beq}
use Rattle.std.proofs.lemmas.Bool.Decides.{Decides-eqb, Decides-and, Decides-like}
use Rattle.std.proofs.lemmas.Slice.Eq.{slice_eq-Decides, bytes_eq-Decides}
use Rattle.keep_spec.specs.Config.{Configuration}
use Rattle.keep_config.specs.Shown.{shown, inside}
use Rattle.keep_spec.specs.declared.config.Device.{Device}
use Rattle.keep_spec.specs.declared.config.Server.{Server}
use Rattle.keep_spec.specs.declared.config.Mount.{Mount}

abbrev device_with : ℕ → Bool → Device
device_with capacity read_only = record { capacity = capacity; read_only = read_only }

same_device : (a b : Device) → a.capacity ≡ b.capacity → a.read_only ≡ b.read_only → device_with a.capacity a.read_only ≡ device_with b.capacity b.read_only
same_device a b e f = cc

abbrev pub device_eq : Device → Device → Bool
device_eq a b = (a.capacity == b.capacity) && beq a.read_only b.read_only

device_eq-Decides : (a b : Device) → Decides (device_eq a b) (a ≡ b)
device_eq-Decides a b =
    Decides-like _ (λ e. same_device a b e.0 e.1) (λ e. (ap (λ x. x.capacity) e, ap (λ x. x.read_only) e))
    (Decides-and _ _ (Decides-eqb a.capacity b.capacity) (booleans_Decides a.read_only b.read_only))

abbrev server_with : List ℕ → List (List ℕ) → Server
server_with uuid addresses = record { uuid = uuid; addresses = addresses }

same_server : (a b : Server) → a.uuid ≡ b.uuid → a.addresses ≡ b.addresses → server_with a.uuid a.addresses ≡ server_with b.uuid b.addresses
same_server a b e f = cc

abbrev pub server_eq : Server → Server → Bool
server_eq a b = bytes_eq a.uuid b.uuid && pointwise bytes_eq a.addresses b.addresses

server_eq-Decides : (a b : Server) → Decides (server_eq a b) (a ≡ b)
server_eq-Decides a b =
    Decides-like _ (λ e. same_server a b e.0 e.1) (λ e. (ap (λ x. x.uuid) e, ap (λ x. x.addresses) e))
    (Decides-and _ _ (bytes_eq-Decides a.uuid b.uuid) (slice_eq-Decides bytes_eq-Decides a.addresses b.addresses _ refl))

abbrev mount_with : List ℕ → ℕ → ℕ → Mount
mount_with uuid server device = record { uuid = uuid; server = server; device = device }

same_mount : (a b : Mount) → a.uuid ≡ b.uuid → a.server ≡ b.server → a.device ≡ b.device → mount_with a.uuid a.server a.device ≡ mount_with b.uuid b.server b.device
same_mount a b e f g = cc

abbrev pub mount_eq : Mount → Mount → Bool
mount_eq a b = bytes_eq a.uuid b.uuid && ((a.server == b.server) && (a.device == b.device))

mount_eq-Decides : (a b : Mount) → Decides (mount_eq a b) (a ≡ b)
mount_eq-Decides a b =
    Decides-like _ (λ e. same_mount a b e.0 e.1.0 e.1.1) (λ e. (ap (λ x. x.uuid) e, (ap (λ x. x.server) e, ap (λ x. x.device) e)))
    (Decides-and _ _ (bytes_eq-Decides a.uuid b.uuid) (Decides-and _ _ (Decides-eqb a.server b.server) (Decides-eqb a.device b.device)))

abbrev pub config_eq : Configuration → Configuration → Bool
config_eq a b =
    bytes_eq a.cluster b.cluster && ((a.ttl == b.ttl) && ((a.skew == b.skew) && (bytes_eq a.secret b.secret
    && (bytes_eq a.system_token b.system_token && (pointwise bytes_eq a.tokens b.tokens && (pointwise device_eq a.devices b.devices
    && (pointwise server_eq a.servers b.servers && (pointwise mount_eq a.mounts b.mounts && ((a.versions == b.versions)
    && ((a.trash_life == b.trash_life) && ((a.index_digits == b.index_digits) && (a.scan_limit == b.scan_limit))))))))))))

same_config : (a b : Configuration) →
    (a.cluster ≡ b.cluster) × ((a.ttl ≡ b.ttl) × ((a.skew ≡ b.skew) × ((a.secret ≡ b.secret) × ((a.system_token ≡ b.system_token)
    × ((a.tokens ≡ b.tokens) × ((a.devices ≡ b.devices) × ((a.servers ≡ b.servers) × ((a.mounts ≡ b.mounts) × ((a.versions ≡ b.versions)
    × ((a.trash_life ≡ b.trash_life) × ((a.index_digits ≡ b.index_digits) × (a.scan_limit ≡ b.scan_limit))))))))))))
    → shown (inside a) ≡ shown (inside b)
same_config a b e = cc

pub config_eq-Decides : (a b : Configuration) → Decides (config_eq a b) (a ≡ b)
config_eq-Decides a b =
    Decides-like _ (same_config a b)
    (λ e. (
      ap (λ x. x.cluster) e,
      (
        ap (λ x. x.ttl) e,
        (
          ap (λ x. x.skew) e,
          (
            ap (λ x. x.secret) e,
            (
              ap (λ x. x.system_token) e,
              (
                ap (λ x. x.tokens) e,
                (
                  ap (λ x. x.devices) e,
                  (
                    ap (λ x. x.servers) e,
                    (
                      ap (λ x. x.mounts) e,
                      (ap (λ x. x.versions) e, (ap (λ x. x.trash_life) e, (ap (λ x. x.index_digits) e, ap (λ x. x.scan_limit) e))),
                    ),
                  ),
                ),
              ),
            ),
          ),
        ),
      ),
    ))
    (Decides-and _ _ (bytes_eq-Decides a.cluster b.cluster)
    (Decides-and _ _ (Decides-eqb a.ttl b.ttl)
    (Decides-and _ _ (Decides-eqb a.skew b.skew)
    (Decides-and _ _ (bytes_eq-Decides a.secret b.secret)
    (Decides-and _ _ (bytes_eq-Decides a.system_token b.system_token)
    (Decides-and _ _ (slice_eq-Decides bytes_eq-Decides a.tokens b.tokens _ refl)
    (Decides-and _ _ (slice_eq-Decides device_eq-Decides a.devices b.devices _ refl)
    (Decides-and _ _ (slice_eq-Decides server_eq-Decides a.servers b.servers _ refl)
    (Decides-and _ _ (slice_eq-Decides mount_eq-Decides a.mounts b.mounts _ refl)
    (Decides-and _ _ (Decides-eqb a.versions b.versions)
    (Decides-and _ _ (Decides-eqb a.trash_life b.trash_life)
    (Decides-and _ _ (Decides-eqb a.index_digits b.index_digits)
    (Decides-eqb a.scan_limit b.scan_limit)))))))))))))
