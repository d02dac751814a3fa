-- The order in which services and devices are asked for a block: Arvados' rendezvous hashing. That ties go by place, and that a device goes by the heaviest service that mounts it, is this project's own rule.
use Rattle.std.specs.Prelude.{◌≡◌, ℕ, ◌==◌, List, [], ◌∷◌, ◌++◌, length, map, filter, find, drop, count_by, slice_index_or, IsPermutation, IsSorted}
use Rattle.std.specs.declared.cmp.Ordering.{Ordering}
use Rattle.std.specs.Ordering.{nat_cmp, is_lt, ordering_then, match_ordering}
use Rattle.std.specs.Cmp.Lexicographic.{slice_cmp}
use Rattle.std.specs.List.{filter_map, slice_get}
use Rattle.std.specs.Option.{option_map_or}
use Rattle.md5.specs.Md5.{md5}
use Rattle.hex.specs.Hex.{encode_lower}
use Rattle.keep_spec.specs.Config.{Configuration}
use Rattle.keep_spec.specs.Members.{numbers_from}

-- a service's weight for a block: the MD5, in digits, of the block's digits and the last 15 characters of the service's UUID
abbrev pub weight : List ℕ → List ℕ → List ℕ
weight digest uuid = encode_lower (md5 (encode_lower digest ++ drop 12 uuid))

-- of two numbers the heavier comes first, and of two that are as heavy the lower
abbrev pub placement_cmp : (ℕ → List ℕ) → ℕ → ℕ → Ordering
placement_cmp weight_of x y = ordering_then (slice_cmp nat_cmp (weight_of y) (weight_of x)) (nat_cmp x y)

-- how many of a list come before a number
abbrev pub count_before : (ℕ → List ℕ) → List ℕ → ℕ → ℕ
count_before weight_of numbers x = count_by (λ y. is_lt (placement_cmp weight_of y x)) numbers

-- the numbers of a list, each once, in that order: at place k stands the one before which k others come
abbrev pub by_weight : (ℕ → List ℕ) → List ℕ → List ℕ
by_weight weight_of numbers = filter_map (λ k. find (λ x. count_before weight_of numbers x == k) numbers) (numbers_from 0 (length numbers))

-- a list has the first n numbers, each once, in that order; by_weight is the only one that does
pub record IsByWeight (weight_of : ℕ → List ℕ) (n : ℕ) (order : List ℕ) : Type 0 where
  pub all : IsPermutation (numbers_from 0 n) order
  pub sorted : IsSorted (placement_cmp weight_of) order

-- ---- services, by their places in a list

abbrev pub service_weight : List ℕ → List (List ℕ) → ℕ → List ℕ
service_weight digest services n = slice_index_or (map (weight digest) services) n []

abbrev pub service_order : List ℕ → List (List ℕ) → List ℕ
service_order digest services = by_weight (service_weight digest services) (numbers_from 0 (length services))

-- ---- devices

abbrev pub greater_of : List ℕ → List ℕ → List ℕ
greater_of x y = match_ordering (slice_cmp nat_cmp x y) y x x

abbrev pub greatest_of : List (List ℕ) → List ℕ
greatest_of [] = []
greatest_of (x ∷ xs) = greater_of x (greatest_of xs)

abbrev pub server_weight : Configuration → List ℕ → ℕ → List ℕ
server_weight c digest server = option_map_or (λ s. weight digest s.uuid) (slice_get c.servers server) []

-- the greatest weight of the services that mount a device
abbrev pub device_weight : Configuration → List ℕ → ℕ → List ℕ
device_weight c digest d = greatest_of (map (λ m. server_weight c digest m.server) (filter (λ m. m.device == d) c.mounts))

-- all devices by descending weight, at a tie the lower number first
abbrev pub device_order : Configuration → List ℕ → List ℕ
device_order c digest = by_weight (device_weight c digest) (numbers_from 0 (length c.devices))
