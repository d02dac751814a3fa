use Rattle.std.proofs.Common.{◌≡◌, None}
use Rattle.std.specs.Prelude.{is_some}
use Rattle.std.specs.List.{last_or, filter}
use Rattle.std.specs.Slice.Iter.{iter_rest}
use Rattle.keep_event.specs.Device.{is_copy_of}
use Rattle.keep_volume.proofs.index.Index.last_copy.Given as goal

abbrev pub invariant-loop-entry : goal.invariant-loop-entry
invariant-loop-entry l = last_or l.last (filter (λ e. is_some e.0.deadline) (iter_rest l.entry-iterator)) ≡ last_or None (filter (λ e. is_copy_of l.digest e.0) l.self.entries)
