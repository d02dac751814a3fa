use Rattle.std.proofs.Common.{◌≡◌, ◌++◌, map}
use Rattle.std.specs.List.{filter}
use Rattle.std.specs.Slice.Iter.{iter_rest}
use Rattle.keep_event.specs.Device.{is_paged}
use Rattle.keep_volume.specs.Index.{sized_entry}
use Rattle.keep_volume.proofs.index.page_more.Given as goal

abbrev pub invariant-loop-item : goal.invariant-loop-item
invariant-loop-item l = l.entries.items ++ map sized_entry (filter (λ e. is_paged l.prefix e.0) (iter_rest l.item-iterator)) ≡ l.fn.entries.items ++ map sized_entry (filter (λ e. is_paged l.prefix e.0) l.names.entries)
