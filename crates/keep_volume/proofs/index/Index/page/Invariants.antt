use Rattle.std.proofs.Common.{◌≡◌, ◌++◌, drop, map, None}
use Rattle.std.specs.List.{filter}
use Rattle.keep_event.specs.Device.{is_paged}
use Rattle.keep_volume.specs.Buckets.{entries_above}
use Rattle.keep_volume.specs.Index.{sized_entry}
use Rattle.keep_volume.proofs.index.Index.page.Given as goal

abbrev pub invariant-loop-bucket : goal.invariant-loop-bucket
invariant-loop-bucket l = l.entries.items ++ map sized_entry (filter (λ e. is_paged l.prefix e.0) (entries_above None (drop l.bucket-index l.bucket-items))) ≡ map sized_entry (filter (λ e. is_paged l.prefix e.0) l.self.entries)
