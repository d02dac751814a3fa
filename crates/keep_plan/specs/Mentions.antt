-- The places at which digests stand in what was gathered, and what those of one digest say of it.
use Rattle.std.specs.Prelude.{ℕ, max, ◌==◌, List, [], ◌∷◌, ◌++◌, map, filter, filter_map, flat_map, reverse, slice_set, Option, None, Some, if◌then◌else◌}
use Rattle.std.specs.List.{last_or}
use Rattle.std.specs.Str.{bytes_eq}
use Rattle.keep_spec.specs.Config.{Configuration}
use Rattle.keep_spec.specs.Order.{device_order}
use Rattle.keep_event.specs.declared.lists.Entry.{Entry}
use Rattle.keep_event.specs.declared.table.ScanRow.{ScanRow}
use Rattle.keep_event.specs.Plan.{Page, Gathered, Holding, gathered_rows, is_writable}
use Rattle.keep_plan.specs.declared.mentions.Place.{Place}
use Rattle.keep_plan.specs.declared.mentions.Place.TheVariants.{Held, Wanted}
use Rattle.keep_plan.specs.declared.mentions.Mention.{Mention}

abbrev pub held_at : ℕ → Entry → Mention
held_at device e = record { digest = e.digest; place = Held device e.size e.mtime }

abbrev pub wanted_at : ℕ → List ℕ → Mention
wanted_at want h = record { digest = h; place = Wanted want }

abbrev pub on_page : Page → List Mention
on_page p = map (held_at p.device) p.entries

abbrev pub in_row : ScanRow → List Mention
in_row r = map (wanted_at r.want) r.digests

-- all, in the order in which pages and rows were given
abbrev pub mentions_of : Gathered → List Mention
mentions_of g = flat_map on_page (reverse g.pages) ++ flat_map in_row (gathered_rows (reverse g.scans))

-- those of a digest
abbrev pub of_digest : List ℕ → List Mention → List Mention
of_digest h ms = filter (λ m. bytes_eq h m.digest) ms

abbrev pub entry_at : ℕ → List ℕ → Place → Option Entry
entry_at d h (Held device size mtime) = if device == d then Some (record { digest = h; size = size; mtime = mtime }) else None
entry_at d h (Wanted want) = None

-- the last entry that a device gave
abbrev pub last_entry : ℕ → List Mention → Option Entry
last_entry d ms = last_or None (filter_map (λ m. entry_at d m.digest m.place) ms)

-- the entries of all devices, with that of a place at its device
abbrev pub put : List ℕ → Place → List (Option Entry) → List (Option Entry)
put h (Held device size mtime) entries = slice_set entries device (Some (record { digest = h; size = size; mtime = mtime }))
put h (Wanted want) entries = entries

abbrev pub want_at : Place → ℕ
want_at (Held device size mtime) = 0
want_at (Wanted want) = want

-- the greatest number of copies that is wanted
abbrev pub greatest_want : List Mention → ℕ
greatest_want [] = 0
greatest_want (m ∷ ms) = max (want_at m.place) (greatest_want ms)

-- what a digest's mentions say of it
abbrev pub holding_by : Configuration → List ℕ → List Mention → Holding
holding_by c h ms = record {
  digest = h;
  entry = λ d. last_entry d ms;
  writable = is_writable c;
  order = device_order c h;
  want = greatest_want ms;
}
