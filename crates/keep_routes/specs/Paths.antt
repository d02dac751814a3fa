-- What paths name. A path begins with a slash, and is split at each further one. Paths and their words are this project's own.
use Rattle.std.specs.Prelude.{ℕ, ⊤, ◌<◌, ◌+◌, ◌==◌, ◌&&◌, ◌||◌, not, nat_le, Bool, List, [], ◌∷◌, length, take, drop, slice_index, Option, None, Some, option_and_then, option_map, if◌then◌else◌, codes, position}
use Rattle.std.specs.List.{list_all}
use Rattle.std.specs.Str.{bytes_eq}
use Rattle.keep_spec.specs.Digest.{digest_of, is_lower_digit}
use Rattle.keep_spec.specs.Locator.{is_number, number}
use Rattle.keep_spec.specs.Config.{Configuration}
use Rattle.keep_event.specs.Lists.{device_of_mount}
use Rattle.keep_routes.specs.declared.place.Place.{Place}
use Rattle.keep_routes.specs.declared.place.Place.TheVariants as P

abbrev pub is_word : List ℕ → List ℕ → Bool
is_word part word = bytes_eq part word

-- the part before the first slash, and what follows the slash
abbrev pub parted : List ℕ → Option (List ℕ × List ℕ)
parted text = option_map (λ i. (take i text, drop (i + 1) text)) (position (λ b. b == 47) text)

-- a round or a version: 1 to 19 decimal digits
abbrev pub number_of_part : List ℕ → Option ℕ
number_of_part part = if is_number part then Some (number part) else None

-- a device of the configuration, by its number without leading zeros
abbrev pub device_of_part : Configuration → List ℕ → Option ℕ
device_of_part c part =
    if (length part == 1) || not (slice_index part 0 == 48)
    then option_and_then (λ n. if nat_le (n + 1) (length c.devices) then Some n else None) (number_of_part part)
    else None

-- at most 32 lower-case hexadecimal digits, none included
abbrev pub is_prefix : List ℕ → Bool
is_prefix part = nat_le (length part) 32 && list_all is_lower_digit part

-- a single part that names no block
abbrev pub is_reserved : List ℕ → Bool
is_reserved part =
    (length part == 0) || is_word part (codes "untrash") || is_word part (codes "mounts")
    || is_word part (codes "trash") || is_word part (codes "pull") || is_word part (codes "empty")

abbrev pub place_of_one : List ℕ → Option Place
place_of_one a =
    if is_word a (codes "collections") then Some P.Collections
    else if is_word a (codes "sweep") then Some P.Sweep
    else if is_word a (codes "balance") then Some P.Balance
    else if is_reserved a then None
    else Some (P.Block a)

abbrev pub place_of_two : Configuration → List ℕ → List ℕ → Option Place
place_of_two c a b =
    if is_word a (codes "untrash") then option_map P.Untrash (digest_of b)
    else if is_word a (codes "collections") then Some (P.Collection b)
    else if is_word a (codes "trash") then option_map P.TrashWorker (device_of_part c b)
    else if is_word a (codes "pull") then option_map P.PullWorker (device_of_part c b)
    else if is_word a (codes "empty") then option_map P.EmptyWorker (device_of_part c b)
    else None

abbrev pub place_of_three : List ℕ → List ℕ → List ℕ → Option Place
place_of_three a uuid x =
    if is_word a (codes "collections")
    then
    if is_word x (codes "trash") then Some (P.Trash uuid)
    else if is_word x (codes "restore") then Some (P.Restore uuid)
    else option_map (P.Version uuid) (number_of_part x)
    else None

abbrev pub place_of_four : Configuration → List ℕ → List ℕ → List ℕ → List ℕ → Option Place
place_of_four c a mount x round =
    if is_word a (codes "mounts")
    then
    option_and_then (λ device. option_and_then (λ n.
    if is_word x (codes "clear") then Some (P.Clear device n)
    else if is_word x (codes "lists") then Some (P.Lists device n)
    else None) (number_of_part round)) (device_of_mount c mount)
    else None

abbrev pub place_of_five : Configuration → List ℕ → List ℕ → List ℕ → List ℕ → List ℕ → Option Place
place_of_five c a mount x round prefix =
    if is_word a (codes "mounts") && is_word x (codes "blocks") && is_prefix prefix
    then
    option_and_then (λ device. option_map (λ n. P.Page device n prefix) (number_of_part round)) (device_of_mount c mount)
    else None

-- the last part, or a part and what follows it
abbrev pub by_parts : {X : Type 0} → Option (List ℕ × List ℕ) → X → (List ℕ → List ℕ → X) → X
by_parts None last more = last
by_parts (Some p) last more = more p.0 p.1

abbrev pub place_from_four : Configuration → List ℕ → List ℕ → List ℕ → List ℕ → Option Place
place_from_four c a b x text =
    by_parts (parted text) (place_of_four c a b x text) (λ round rest.
    by_parts (parted rest) (place_of_five c a b x round rest) (λ prefix more. None))

abbrev pub place_from_three : Configuration → List ℕ → List ℕ → List ℕ → Option Place
place_from_three c a b text = by_parts (parted text) (place_of_three a b text) (λ x rest. place_from_four c a b x rest)

abbrev pub place_from_two : Configuration → List ℕ → List ℕ → Option Place
place_from_two c a text = by_parts (parted text) (place_of_two c a text) (λ b rest. place_from_three c a b rest)

-- what stands after the first slash of a path
abbrev pub place_of_parts : Configuration → List ℕ → Option Place
place_of_parts c text = by_parts (parted text) (place_of_one text) (λ a rest. place_from_two c a rest)

-- what a path names, if anything
unfoldable pub place_of : Configuration → List ℕ → Option Place
place_of c [] = None
place_of c (b ∷ text) = if b == 47 then place_of_parts c text else None

-- ---- for private clauses

-- the device that a place names is one of the configuration
abbrev pub IsPlaceWithin : Configuration → Place → Type 0
IsPlaceWithin c (P.Page device round prefix) = device < length c.devices
IsPlaceWithin c (P.Clear device round) = device < length c.devices
IsPlaceWithin c (P.Lists device round) = device < length c.devices
IsPlaceWithin c (P.TrashWorker device) = device < length c.devices
IsPlaceWithin c (P.PullWorker device) = device < length c.devices
IsPlaceWithin c (P.EmptyWorker device) = device < length c.devices
IsPlaceWithin c other = ⊤
