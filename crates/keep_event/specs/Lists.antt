-- The text of the lists that a device is given: one JSON object. Its names and its locators are those of Arvados' trash and pull lists; that one list is of one device, which is named by any of its mounts, is this project's own rule.
use Rattle.std.specs.Prelude.{◌<◌, ◌^◌, ℕ, ◌+◌, ◌==◌, ◌&&◌, List, [], ◌∷◌, length, map, find, Bool, false, Option, None, Some, option_and_then, option_map, Result, Ok, Err, if◌then◌else◌, codes, bytes_eq}
use Rattle.std.specs.List.{AllByRecursion, list_any}
use Rattle.std.specs.Option.{option_map_or}
use Rattle.serde_json.specs.Data.{Data, object, array, string, number, unsigned, Items, no_items, item, no_members, member}
use Rattle.serde_json.specs.Find.{get, as_array, as_str}
use Rattle.serde_json.specs.View.{items_of}
use Rattle.serde_json.specs.Written.{compact_text}
use Rattle.keep_spec.specs.Config.{Configuration}
use Rattle.keep_spec.specs.Json.{value_of, text_at, number_at, list_at, has_members, items_length}
use Rattle.keep_spec.specs.Results.{◌>>=◌}
use Rattle.keep_event.specs.Index.{locator_text, bare_locator}
use Rattle.keep_event.specs.declared.lists.TrashItem.{TrashItem}
use Rattle.keep_event.specs.declared.lists.PullItem.{PullItem}
use Rattle.keep_event.specs.declared.lists.Lists.{Lists}

-- ---- mounts

-- the first mount of a device
abbrev pub first_mount : Configuration → ℕ → List ℕ
first_mount c d = option_map_or (λ m. m.uuid) (find (λ m. m.device == d) c.mounts) []

-- the device of a mount
abbrev pub device_of_mount : Configuration → List ℕ → Option ℕ
device_of_mount c uuid = option_map (λ m. m.device) (find (λ m. bytes_eq m.uuid uuid) c.mounts)

abbrev pub is_mount_of : Configuration → ℕ → List ℕ → Bool
is_mount_of c d uuid = list_any (λ m. (m.device == d) && bytes_eq m.uuid uuid) c.mounts

-- ---- what is written: an object's names are in ascending order, and a device is named by its first mount

abbrev pub trash_item_data : List ℕ → TrashItem → Data
trash_item_data mount t =
    object (member (codes "block_mtime") (number (unsigned t.mtime))
    (member (codes "locator") (string (locator_text t.digest t.size))
    (member (codes "mount_uuid") (string mount) no_members)))

abbrev pub source_data : Configuration → ℕ → Data
source_data c source = string (first_mount c source)

abbrev pub pull_item_data : Configuration → List ℕ → PullItem → Data
pull_item_data c mount p =
    object (member (codes "locator") (string (locator_text p.digest p.size))
    (member (codes "mount_uuid") (string mount)
    (member (codes "servers") (array (items_of (map (source_data c) p.sources))) no_members)))

abbrev pub lists_data : Configuration → ℕ → Lists → Data
lists_data c d lists =
    object (member (codes "pull") (array (items_of (map (pull_item_data c (first_mount c d)) lists.pull)))
    (member (codes "trash") (array (items_of (map (trash_item_data (first_mount c d)) lists.trash))) no_members))

unfoldable pub lists_text : Configuration → ℕ → Lists → List ℕ
lists_text c d lists = compact_text (lists_data c d lists)

-- ---- what is read: names in any order, and any mount of a device

-- the mount named is one of this device
abbrev pub is_for : Configuration → ℕ → Data → Bool
is_for c d x = option_map_or (is_mount_of c d) (text_at (codes "mount_uuid") x) false

abbrev pub locator_at : Data → Option (List ℕ × ℕ)
locator_at x = option_and_then bare_locator (text_at (codes "locator") x)

abbrev pub trash_item_of : Configuration → ℕ → Data → Option TrashItem
trash_item_of c d x =
    option_and_then (λ mtime. option_and_then (λ block.
    if has_members 3 x && is_for c d x then Some (record { digest = block.0; size = block.1; mtime = mtime }) else None)
    (locator_at x)) (number_at (codes "block_mtime") x)

abbrev pub source_of : Configuration → Data → Option ℕ
source_of c x = option_and_then (device_of_mount c) (as_str x)

abbrev pub pull_item_of : Configuration → ℕ → Data → Option PullItem
pull_item_of c d x =
    option_and_then (λ sources. option_and_then (λ block.
    if has_members 3 x && is_for c d x then Some (record { digest = block.0; size = block.1; sources = sources }) else None)
    (locator_at x)) (list_at (source_of c) (codes "servers") x)

-- what the items of an array say, or the number of the first that isn't in the form, where the first of all has this number
abbrev pub each_from : {X : Type 0} → ℕ → (Data → Option X) → Items → Result (List X) ℕ
each_from n read_one no_items = Ok []
each_from n read_one (item d ds) = option_map_or (λ x. each_from (n + 1) read_one ds >>= λ xs. Ok (x ∷ xs)) (read_one d) (Err n)

abbrev pub array_at : List ℕ → Data → Option Items
array_at name x = option_and_then as_array (get name x)

-- trash items come first in the numbers
abbrev pub lists_of_items : Configuration → ℕ → Items → Items → Result Lists ℕ
lists_of_items c d trash pull = do
  t ← each_from 1 (trash_item_of c d) trash
  p ← each_from (items_length trash + 1) (pull_item_of c d) pull
  Ok (record { trash = t; pull = p })

abbrev pub lists_of_object : Configuration → ℕ → Data → Option Items → Option Items → Result Lists ℕ
lists_of_object c d x (Some trash) (Some pull) = if has_members 2 x then lists_of_items c d trash pull else Err 0
lists_of_object c d x (Some trash) None = Err 0
lists_of_object c d x None pull = Err 0

-- the lists of a text for a device, or the number of the first bad item, from 1; 0 where the text isn't an object of these two arrays alone
unfoldable pub lists_of : Configuration → ℕ → List ℕ → Result Lists ℕ
lists_of c d text =
    option_map_or (λ x. lists_of_object c d x (array_at (codes "trash") x) (array_at (codes "pull") x)) (value_of text) (Err 0)
