-- The configuration: what each field must be, and how a text is parsed. This is the project's own format.
use Rattle.std.specs.Prelude.{ℕ, zero, suc, ◌^◌, ◌==◌, ◌&&◌, nat_le, nat_lt, List, [], ◌∷◌, length, map, filter, slice_index_or, Bool, true, not, IsTrue, Option, Some, is_some, bytes_eq, ok_or, option_and_then, option_map, Result, Ok, Err, if◌then◌else◌, codes}
use Rattle.std.specs.List.{list_all, list_any, position_from}
use Rattle.serde_json.specs.Data.{Data}
use Rattle.serde_json.specs.Find.{get, as_str, as_object}
use Rattle.keep_spec.specs.Json.{value_of, text_at, number_at, truth_or, list_at, option_filter, has_only, each_has_only}
use Rattle.keep_spec.specs.Results.{◌>>=◌}
use Rattle.keep_spec.specs.Uuid.{is_uuid, is_uuid_part, uuid_kind}
use Rattle.keep_spec.specs.declared.config.Device.{Device}
use Rattle.keep_spec.specs.declared.config.Server.{Server}
use Rattle.keep_spec.specs.declared.config.Mount.{Mount}
use Rattle.keep_spec.specs.declared.token.TokenId.{TokenId}
use Rattle.keep_spec.specs.declared.config.Field.{Field}
use Rattle.keep_spec.specs.declared.config.Field.TheVariants.{Line, Cluster, Ttl, Skew, Secret, SystemToken, Tokens, Devices, Servers, Mounts, Versions, TrashLife, IndexDigits, ScanLimit, Unknown}

-- a field's name
abbrev pub field_name : Field → List ℕ
field_name Line = codes "Line"
field_name Cluster = codes "cluster"
field_name Ttl = codes "ttl"
field_name Skew = codes "skew"
field_name Secret = codes "secret"
field_name SystemToken = codes "system_token"
field_name Tokens = codes "tokens"
field_name Devices = codes "devices"
field_name Servers = codes "servers"
field_name Mounts = codes "mounts"
field_name Versions = codes "versions"
field_name TrashLife = codes "trash_life"
field_name IndexDigits = codes "index_digits"
field_name ScanLimit = codes "scan_limit"
field_name Unknown = codes "Unknown"

-- ttl, skew and trash_life are seconds, capacities bytes
pub record Configuration : Type 0 where
  pub cluster : List ℕ
  pub ttl : ℕ
  pub skew : ℕ
  pub secret : List ℕ
  pub system_token : List ℕ
  pub tokens : List (List ℕ)
  pub devices : List Device
  pub servers : List Server
  pub mounts : List Mount
  pub versions : ℕ
  pub trash_life : ℕ
  pub index_digits : ℕ
  pub scan_limit : ℕ

-- ---- what each field must be

abbrev pub is_within : ℕ → ℕ → ℕ → Bool
is_within low high n = nat_le low n && nat_le n high

-- 5 characters of `a-z0-9`
abbrev pub is_cluster : List ℕ → Bool
is_cluster text = (length text == 5) && is_uuid_part text

abbrev pub is_ttl : ℕ → Bool
is_ttl n = is_within 1 100000000 n

abbrev pub is_skew : ℕ → Bool
is_skew n = is_within 0 3600 n

abbrev pub is_secret : List ℕ → Bool
is_secret bytes = is_within 1 4096 (length bytes)

-- 1 to 250 characters from `!` to `~`
abbrev pub is_token : List ℕ → Bool
is_token text = is_within 1 250 (length text) && list_all (is_within 33 126) text

abbrev pub all_distinct : List (List ℕ) → Bool
all_distinct [] = true
all_distinct (x ∷ xs) = not (list_any (bytes_eq x) xs) && all_distinct xs

-- all distinct, and distinct from the system token
abbrev pub are_tokens : List ℕ → List (List ℕ) → Bool
are_tokens system_token tokens =
    is_within 1 1000 (length tokens) && list_all is_token tokens
    && all_distinct tokens && not (list_any (bytes_eq system_token) tokens)

abbrev pub is_device : Device → Bool
is_device x = nat_le x.capacity (2 ^ 40)

abbrev pub are_devices : List Device → Bool
are_devices devices = is_within 1 64 (length devices) && list_all is_device devices

abbrev pub is_server : Server → Bool
is_server s = bytes_eq (uuid_kind s.uuid) (codes "bi6l4") && nat_le (length s.addresses) 8

abbrev pub are_servers : List Server → Bool
are_servers servers =
    is_within 1 64 (length servers) && list_all is_server servers && all_distinct (map (λ s. s.uuid) servers)

-- a mount, given the numbers of devices and servers
abbrev pub is_mount : ℕ → ℕ → Mount → Bool
is_mount devices servers m =
    bytes_eq (uuid_kind m.uuid) (codes "nyw5e") && nat_lt m.device devices && nat_lt m.server servers

-- each of n devices has a mount
abbrev pub all_mounted : ℕ → List Mount → Bool
all_mounted zero mounts = true
all_mounted (suc n) mounts = list_any (λ m. m.device == n) mounts && all_mounted n mounts

abbrev pub are_mounts : ℕ → ℕ → List Mount → Bool
are_mounts devices servers mounts =
    is_within 1 256 (length mounts) && list_all (is_mount devices servers) mounts
    && all_distinct (map (λ m. m.uuid) mounts) && all_mounted devices mounts

abbrev pub is_versions : ℕ → Bool
is_versions n = is_within 1 1000 n

abbrev pub is_trash_life : ℕ → Bool
is_trash_life n = is_within 0 100000000 n

-- 1 and 2 are refused until rounds ask for pages by prefix
abbrev pub is_index_digits : ℕ → Bool
is_index_digits n = is_within 0 0 n

abbrev pub is_scan_limit : ℕ → Bool
is_scan_limit n = is_within 1 100000 n

pub record IsGood (c : Configuration) : Type 0 where
  pub cluster : IsTrue (is_cluster c.cluster)
  pub ttl : IsTrue (is_ttl c.ttl)
  pub skew : IsTrue (is_skew c.skew)
  pub secret : IsTrue (is_secret c.secret)
  pub system_token : IsTrue (is_token c.system_token)
  pub tokens : IsTrue (are_tokens c.system_token c.tokens)
  pub devices : IsTrue (are_devices c.devices)
  pub servers : IsTrue (are_servers c.servers)
  pub mounts : IsTrue (are_mounts (length c.devices) (length c.servers) c.mounts)
  pub versions : IsTrue (is_versions c.versions)
  pub trash_life : IsTrue (is_trash_life c.trash_life)
  pub index_digits : IsTrue (is_index_digits c.index_digits)
  pub scan_limit : IsTrue (is_scan_limit c.scan_limit)

-- ---- how a text is parsed

-- the number under a name, or the default where the name is absent
abbrev pub number_or : ℕ → List ℕ → Data → Option ℕ
number_or default name d = if is_some (get name d) then number_at name d else Some default

abbrev pub device_of : Data → Option Device
device_of d =
    option_and_then (λ capacity. option_map (λ read_only. record { capacity = capacity; read_only = read_only })
    (truth_or (1 == 0) (codes "read_only") d)) (number_at (codes "capacity") d)

abbrev pub uuid_at : Data → Option (List ℕ)
uuid_at d = option_filter is_uuid (text_at (codes "uuid") d)

abbrev pub addresses_of : Data → Option (List (List ℕ))
addresses_of d =
    if is_some (get (codes "addresses") d) then list_at as_str (codes "addresses") d else Some []

abbrev pub server_of : Data → Option Server
server_of d =
    option_and_then (λ uuid. option_map (λ addresses. record { uuid = uuid; addresses = addresses })
    (addresses_of d)) (uuid_at d)

-- an index: a number of 32 bits
abbrev pub index_at : List ℕ → Data → Option ℕ
index_at name d = option_filter (λ n. nat_lt n (2 ^ 32)) (number_at name d)

abbrev pub mount_of : Data → Option Mount
mount_of d =
    option_and_then (λ uuid. option_and_then (λ server. option_map (λ device. record { uuid = uuid; server = server; device = device })
    (index_at (codes "device") d)) (index_at (codes "server") d)) (uuid_at d)

abbrev pub device_names : List (List ℕ)
device_names = codes "capacity" ∷ codes "read_only" ∷ []

abbrev pub server_names : List (List ℕ)
server_names = codes "uuid" ∷ codes "addresses" ∷ []

abbrev pub mount_names : List (List ℕ)
mount_names = codes "uuid" ∷ codes "server" ∷ codes "device" ∷ []

abbrev pub field_names : List (List ℕ)
field_names =
    codes "cluster" ∷ codes "ttl" ∷ codes "skew" ∷ codes "secret" ∷ codes "system_token" ∷ codes "tokens"
    ∷ codes "devices" ∷ codes "servers" ∷ codes "mounts"
    ∷ codes "versions" ∷ codes "trash_life" ∷ codes "index_digits" ∷ codes "scan_limit" ∷ []

-- every name, at any depth, is one of these
abbrev pub all_known : Data → Bool
all_known d =
    has_only field_names d && each_has_only device_names (codes "devices") d
    && each_has_only server_names (codes "servers") d && each_has_only mount_names (codes "mounts") d

-- the value of a field that passes its test, or else the field
unfoldable pub field : {X : Type 0} → Field → (X → Bool) → Option X → Result X Field
field name test found = ok_or (option_filter test found) name

abbrev pub is_object : Data → Bool
is_object d = is_some (as_object d)

-- the fields in order: the first that isn't as required is the error
abbrev pub config_of_object : Data → Result Configuration Field
config_of_object d = do
  cluster ← field Cluster is_cluster (text_at (codes "cluster") d)
  ttl ← field Ttl is_ttl (number_at (codes "ttl") d)
  skew ← field Skew is_skew (number_at (codes "skew") d)
  secret ← field Secret is_secret (text_at (codes "secret") d)
  system_token ← field SystemToken is_token (text_at (codes "system_token") d)
  tokens ← field Tokens (are_tokens system_token) (list_at as_str (codes "tokens") d)
  devices ← field Devices are_devices (list_at device_of (codes "devices") d)
  servers ← field Servers are_servers (list_at server_of (codes "servers") d)
  mounts ← field Mounts (are_mounts (length devices) (length servers)) (list_at mount_of (codes "mounts") d)
  versions ← field Versions is_versions (number_at (codes "versions") d)
  trash_life ← field TrashLife is_trash_life (number_at (codes "trash_life") d)
  index_digits ← field IndexDigits is_index_digits (number_or 0 (codes "index_digits") d)
  scan_limit ← field ScanLimit is_scan_limit (number_or 1000 (codes "scan_limit") d)
  if all_known d then Ok (record {
    cluster = cluster;
    ttl = ttl;
    skew = skew;
    secret = secret;
    system_token = system_token;
    tokens = tokens;
    devices = devices;
    servers = servers;
    mounts = mounts;
    versions = versions;
    trash_life = trash_life;
    index_digits = index_digits;
    scan_limit = scan_limit;
  }) else Err Unknown

-- the configuration that a text writes, or what is wrong with it
unfoldable pub config_of : List ℕ → Result Configuration Field
config_of text = do
  d ← field Line is_object (value_of text)
  config_of_object d

-- ---- what follows from a configuration

-- a token's number: 0 is the system token, 1 and up are the others in order
abbrev pub token_of : Configuration → List ℕ → Option TokenId
token_of c text =
    option_map (λ n. record { number = n }) (position_from (bytes_eq text) 0 (c.system_token ∷ c.tokens))

abbrev pub token_text : Configuration → TokenId → List ℕ
token_text c token = slice_index_or (c.system_token ∷ c.tokens) token.number []

-- each member of a list once, at its first occurrence
abbrev pub firsts : List ℕ → List ℕ
firsts [] = []
firsts (x ∷ xs) = x ∷ filter (λ y. not (x == y)) (firsts xs)

-- the devices of a server's mounts, each once, in the order of the mounts
abbrev pub devices_of : Configuration → ℕ → List ℕ
devices_of c server = firsts (map (λ m. m.device) (filter (λ m. m.server == server) c.mounts))
