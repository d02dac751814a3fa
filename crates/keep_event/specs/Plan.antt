-- The plan of a round: of what devices and table gave, which replicas are trashed, which are pulled, and which blocks are lost. This is the project's own rule, after Arvados' keep-balance.
-- What was gathered is listed with the latest first, as a history is.
use Rattle.std.specs.Prelude.{ℕ, max, ◌==◌, ◌&&◌, ◌||◌, nat_lt, not, List, [], ◌∷◌, ◌++◌, length, map, filter, filter_map, flat_map, take, Bool, true, false, Option, None, Some, is_some, unwrap_or, if◌then◌else◌, slice_get}
use Rattle.std.specs.List.{list_any, last_or}
use Rattle.std.specs.Option.{option_or, option_map_or}
use Rattle.std.specs.Str.{bytes_eq}
use Rattle.keep_spec.specs.Times.{threshold}
use Rattle.keep_spec.specs.Config.{Configuration}
use Rattle.keep_spec.specs.Members.{names, numbers_from}
use Rattle.keep_spec.specs.Order.{device_order}
use Rattle.keep_event.specs.Requests.{ascending}
use Rattle.keep_event.specs.declared.lists.Entry.{Entry}
use Rattle.keep_event.specs.declared.lists.TrashItem.{TrashItem}
use Rattle.keep_event.specs.declared.lists.PullItem.{PullItem}
use Rattle.keep_event.specs.declared.lists.Lists.{Lists}
use Rattle.keep_event.specs.declared.table.ScanRow.{ScanRow}

-- ---- what a round gathers

-- a page that a device gave
pub record Page : Type 0 where
  pub device : ℕ
  pub entries : List Entry

-- a scan of the table: the rows above a revision, and whether any is left
pub record Scan : Type 0 where
  pub after : ℕ
  pub rows : List ScanRow
  pub last : Bool

-- the round's number, the reading at which it began, and what it was given, each list with the latest first
pub record Gathered : Type 0 where
  pub round : ℕ
  pub started : ℕ
  pub pages : List Page
  pub scans : List Scan

abbrev pub nothing_gathered : ℕ → ℕ → Gathered
nothing_gathered round started = record { round = round; started = started; pages = []; scans = [] }

abbrev pub with_page : Page → Gathered → Gathered
with_page p g = record { round = g.round; started = g.started; pages = p ∷ g.pages; scans = g.scans }

abbrev pub with_scan : Scan → Gathered → Gathered
with_scan s g = record { round = g.round; started = g.started; pages = g.pages; scans = s ∷ g.scans }

-- the last revision that a scan gave, or that after which it was asked where it gave none
abbrev pub last_revision : ℕ → List ScanRow → ℕ
last_revision after rows = unwrap_or (last_or None (map (λ r. r.revision) rows)) after

-- the revision after which the next scan is asked
abbrev pub reached : List Scan → ℕ
reached [] = 0
reached (s ∷ earlier) = last_revision s.after s.rows

-- the scans came to the end: the latest was the last
abbrev pub has_ended : List Scan → Bool
has_ended [] = false
has_ended (s ∷ earlier) = s.last

abbrev pub gathered_rows : List Scan → List ScanRow
gathered_rows scans = flat_map (λ s. s.rows) scans

-- ---- what was gathered of one digest

-- the entry of a digest on a page: where it stands twice, the later one
abbrev pub entry_on : List ℕ → List Entry → Option Entry
entry_on h entries = last_or None (filter (λ e. bytes_eq h e.digest) entries)

-- the entry of a digest in what a device gave: the latest page that has one
abbrev pub entry_of : ℕ → List ℕ → List Page → Option Entry
entry_of d h [] = None
entry_of d h (p ∷ earlier) = if p.device == d then option_or (entry_on h p.entries) (entry_of d h earlier) else entry_of d h earlier

-- the greatest number of copies that rows want of a digest
abbrev pub wanted_in : List ℕ → List ScanRow → ℕ
wanted_in h [] = 0
wanted_in h (r ∷ rs) = max (if names h r.digests then r.want else 0) (wanted_in h rs)

abbrev pub is_member : ℕ → List ℕ → Bool
is_member d ds = list_any (λ x. x == d) ds

-- ---- one digest's plan: what each device gave of it, which devices take changes, the devices in their order, and how many copies are wanted
pub record Holding : Type 0 where
  pub digest : List ℕ
  pub entry : ℕ → Option Entry
  pub writable : ℕ → Bool
  pub order : List ℕ
  pub want : ℕ

abbrev pub is_holder : Holding → ℕ → Bool
is_holder h d = is_some (h.entry d)

abbrev pub holders : Holding → List ℕ
holders h = filter (is_holder h) h.order

-- who is kept: the first holders
abbrev pub kept : Holding → List ℕ
kept h = take h.want (holders h)

-- which are targets: the first devices of those that are writable or hold the block
abbrev pub targets : Holding → List ℕ
targets h = take h.want (filter (λ d. h.writable d || is_holder h d) h.order)

-- the holders that aren't kept
abbrev pub others : Holding → List ℕ
others h = filter (λ d. not (is_member d (kept h))) (holders h)

-- which items: a holder that isn't kept gets a trash item where it is writable and the replica is old enough
abbrev pub trash_item_with : Holding → ℕ → ℕ → Option Entry → Option TrashItem
trash_item_with h threshold d None = None
trash_item_with h threshold d (Some e) =
    if is_member d (others h) && h.writable d && nat_lt e.mtime threshold
    then Some (record { digest = h.digest; size = e.size; mtime = e.mtime }) else None

abbrev pub trash_item : Holding → ℕ → ℕ → Option TrashItem
trash_item h threshold d = trash_item_with h threshold d (h.entry d)

-- the size that the first holder gave
abbrev pub size_given : Holding → ℕ → ℕ
size_given h first = option_map_or (λ e. e.size) (h.entry first) 0

-- a target that doesn't hold the block gets a pull item that names all holders, where there is one
abbrev pub pull_item_with : Holding → ℕ → List ℕ → Option PullItem
pull_item_with h d [] = None
pull_item_with h d (first ∷ others) =
    if is_member d (targets h) && not (is_holder h d)
    then Some (record { digest = h.digest; size = size_given h first; sources = first ∷ others }) else None

abbrev pub pull_item : Holding → ℕ → Option PullItem
pull_item h d = pull_item_with h d (holders h)

-- wanted, and held nowhere
abbrev pub is_lost : Holding → Bool
is_lost h = nat_lt 0 h.want && (length (holders h) == 0)

-- ---- the plan of all

abbrev pub is_writable : Configuration → ℕ → Bool
is_writable c d = not (option_map_or (λ x. x.read_only) (slice_get c.devices d) true)

abbrev pub holding : Configuration → Gathered → List ℕ → Holding
holding c g h = record {
  digest = h;
  entry = λ d. entry_of d h g.pages;
  writable = is_writable c;
  order = device_order c h;
  want = wanted_in h (gathered_rows g.scans);
}

abbrev pub digests_on : List Page → List (List ℕ)
digests_on pages = flat_map (λ p. map (λ e. e.digest) p.entries) pages

-- all digests that were gathered, ascending, each once
abbrev pub digests_gathered : Gathered → List (List ℕ)
digests_gathered g = ascending (digests_on g.pages ++ flat_map (λ r. r.digests) (gathered_rows g.scans))

abbrev pub trash_list : Configuration → Gathered → ℕ → ℕ → List TrashItem
trash_list c g threshold d = filter_map (λ h. trash_item (holding c g h) threshold d) (digests_gathered g)

abbrev pub pull_list : Configuration → Gathered → ℕ → List PullItem
pull_list c g d = filter_map (λ h. pull_item (holding c g h) d) (digests_gathered g)

-- the lists of a device, items ascending by digest
abbrev pub planned : Configuration → Gathered → ℕ → ℕ → Lists
planned c g threshold d = record { trash = trash_list c g threshold d; pull = pull_list c g d }

-- the lists of all devices, by the threshold of the reading at which the round began
abbrev pub planned_lists : Configuration → Gathered → List Lists
planned_lists c g = map (planned c g (threshold c.ttl c.skew g.started)) (numbers_from 0 (length c.devices))

-- the digests that are wanted and that no device holds, ascending
abbrev pub lost : Configuration → Gathered → List (List ℕ)
lost c g = filter (λ h. is_lost (holding c g h)) (digests_gathered g)
