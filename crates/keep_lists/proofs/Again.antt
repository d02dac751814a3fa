-- Lists that were written are read again as these lists.
use Rattle.std.proofs.Common.{◌≡◌, ◌<◌, ◌≤◌, ◌+◌, ℕ, List, [], ◌∷◌, length, map, true, Option, None, Some, Ok, Err, refl, ◌∙◌, ap, arith, if◌then◌else◌}
use Rattle.std.specs.Prelude.{option_map, option_and_then, codes}
use Rattle.std.specs.List.{AllByRecursion}
use Rattle.std.specs.Option.{option_map_or}
use Rattle.std.specs.Str.{IsUtf8}
use Rattle.std.proofs.lemmas.Str.{is_utf8-from_IsUtf8}
use Rattle.serde_json.specs.Data.{Data, depth, items_depth}
use Rattle.serde_json.specs.Read.{read, max_depth}
use Rattle.serde_json.specs.View.{items_of}
use Rattle.keep_spec.specs.Config.{Configuration}
use Rattle.keep_spec.specs.Json.{each, items_length}
use Rattle.keep_spec.specs.Results.{◌>>=◌}
use Rattle.keep_event.specs.Index.{locator_text, bare_locator}
use Rattle.keep_event.specs.Lists.{first_mount, is_mount_of, source_data, source_of, trash_item_data, trash_item_of, pull_item_data, pull_item_of, each_from, lists_data, lists_of_object, lists_of_items, lists_of, array_at}
use Rattle.keep_event.specs.declared.lists.TrashItem.{TrashItem}
use Rattle.keep_event.specs.declared.lists.PullItem.{PullItem}
use Rattle.keep_event.specs.declared.lists.Lists.{Lists}
use Rattle.keep_lists.specs.Writable.{IsWritableTrash, IsWritablePull, AreWritable}
use Rattle.keep_lists.proofs.Mounts.{device-again, mount-again}
use Rattle.keep_lists.proofs.Written.{locator-read}

-- ---- arrays, item by item
module _ {X : Type 0} (P : X → Type 0) (f : Data → Option X) (g : X → Data) (again : (x : X) → P x → f (g x) ≡ Some x) where
  each-again : (xs : List X) → AllByRecursion P xs → each f (items_of (map g xs)) ≡ Some xs
  each-again [] all = refl
  each-again (x ∷ xs) all =
      ap (λ o. option_and_then (λ y. option_map (λ ys. y ∷ ys) (each f (items_of (map g xs)))) o) (again x all.0)
      ∙ ap (λ o. option_map (λ ys. x ∷ ys) o) (each-again xs all.1)

  each_from-again : (n : ℕ) (xs : List X) → AllByRecursion P xs → each_from n f (items_of (map g xs)) ≡ Ok xs
  each_from-again n [] all = refl
  each_from-again n (x ∷ xs) all =
      ap (λ o. option_map_or (λ y. each_from (n + 1) f (items_of (map g xs)) >>= λ ys. Ok (y ∷ ys)) o (Err n)) (again x all.0)
      ∙ ap (λ r. r >>= λ ys. Ok (x ∷ ys)) (each_from-again (n + 1) xs all.1)

-- ---- items
trash-again : (c : Configuration) (d : ℕ) (mount : List ℕ) → is_mount_of c d mount ≡ true → (t : TrashItem) → IsWritableTrash t → trash_item_of c d (trash_item_data mount t) ≡ Some t
trash-again c d mount is t w =
    ap (λ o. option_and_then (λ block. if is_mount_of c d mount then Some (record { digest = block.0; size = block.1; mtime = t.mtime }) else None) o) (locator-read t.digest t.size w.long w.bytes w.size)
    ∙ ap (λ b. if b then Some t else None) is

pull-again : (c : Configuration) (d : ℕ) (mount : List ℕ) → is_mount_of c d mount ≡ true → (p : PullItem) → IsWritablePull c p → each (source_of c) (items_of (map (source_data c) p.sources)) ≡ Some p.sources
    → pull_item_of c d (pull_item_data c mount p) ≡ Some p
pull-again c d mount is p w sources =
    ap (λ o. option_and_then (λ found. option_and_then (λ block. if is_mount_of c d mount then Some (record { digest = block.0; size = block.1; sources = found }) else None)
    (bare_locator (locator_text p.digest p.size))) o) sources
    ∙ ap (λ o. option_and_then (λ block. if is_mount_of c d mount then Some (record { digest = block.0; size = block.1; sources = p.sources }) else None) o) (locator-read p.digest p.size w.long w.bytes w.size)
    ∙ ap (λ b. if b then Some p else None) is

-- ---- lists
pub lists-again : (c : Configuration) (d : ℕ) (lists : Lists) → AreWritable c d lists
    → lists_of_items c d (items_of (map (trash_item_data (first_mount c d)) lists.trash)) (items_of (map (pull_item_data c (first_mount c d)) lists.pull)) ≡ Ok lists
lists-again c d lists w =
    let mount = first_mount c d in
    let is = mount-again c w.mounted d w.device in
    let trash = items_of (map (trash_item_data mount) lists.trash) in
    let pull = items_of (map (pull_item_data c mount) lists.pull) in
    let sources = λ (p : PullItem) (v : IsWritablePull c p). each-again (λ s. s < length c.devices) (source_of c) (source_data c) (λ s lt. device-again c w.mounted s lt w.distinct) p.sources v.sources in
    ap (λ r. r >>= λ t. each_from (items_length trash + 1) (pull_item_of c d) pull >>= λ p. Ok (record { trash = t; pull = p }))
    (each_from-again IsWritableTrash (trash_item_of c d) (trash_item_data mount) (trash-again c d mount is) 1 lists.trash w.trash)
    ∙ ap (λ r. r >>= λ p. Ok (record { trash = lists.trash; pull = p }))
    (each_from-again (IsWritablePull c) (pull_item_of c d) (pull_item_data c mount) (λ p v. pull-again c d mount is p v (sources p v)) (items_length trash + 1) lists.pull w.pull)

-- ---- texts
shallow-items : {X : Type 0} (f : X → Data) (n : ℕ) → ((x : X) → depth (f x) ≤ n) → (xs : List X) → items_depth (items_of (map f xs)) ≤ n
shallow-items f n h [] = omega arith
shallow-items f n h (x ∷ xs) = omega (arith, h x, shallow-items f n h xs)

pub lists-shallow : (c : Configuration) (d : ℕ) (lists : Lists) → depth (lists_data c d lists) ≤ max_depth
lists-shallow c d lists =
    let sources = λ (p : PullItem). shallow-items (source_data c) 0 (λ s. omega arith) p.sources in
    omega (arith, shallow-items (trash_item_data (first_mount c d)) 1 (λ t. omega arith) lists.trash, shallow-items (pull_item_data c (first_mount c d)) 2 (λ p. omega (arith, sources p)) lists.pull)

-- a text that has the value of the lists
pub text-again : (c : Configuration) (d : ℕ) (lists : Lists) (text : List ℕ) → AreWritable c d lists → IsUtf8 text → read text ≡ Some (lists_data c d lists) → lists_of c d text ≡ Ok lists
unfolding lists_of
text-again c d lists text w utf8 e =
    ap (λ b. option_map_or (λ x. lists_of_object c d x (array_at (codes "trash") x) (array_at (codes "pull") x)) (if b then read text else None) (Err 0)) (is_utf8-from_IsUtf8 text utf8)
    ∙ ap (λ o. option_map_or (λ x. lists_of_object c d x (array_at (codes "trash") x) (array_at (codes "pull") x)) o (Err 0)) e
    ∙ lists-again c d lists w
