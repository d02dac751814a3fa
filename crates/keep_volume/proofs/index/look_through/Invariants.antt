use Rattle.std.proofs.Common.{◌≡◌, drop}
use Rattle.keep_event.specs.Store.{above}
use Rattle.keep_volume.specs.Buckets.{entries_above}
use Rattle.keep_volume.specs.Looks.{look}
use Rattle.keep_volume.proofs.index.look_through.Given as goal

abbrev pub invariant-loop-bucket : goal.invariant-loop-bucket
invariant-loop-bucket l = look l.reading l.came (entries_above l.after (drop l.bucket-index l.bucket-items)) ≡ look l.reading l.fn.passed (above l.fn.passed.up_to l.names.entries)
