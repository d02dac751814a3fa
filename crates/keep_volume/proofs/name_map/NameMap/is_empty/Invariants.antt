use Rattle.std.proofs.Common.{◌≡◌, drop}
use Rattle.keep_volume.specs.Buckets.{entries_of}
use Rattle.keep_volume.proofs.name_map.NameMap.is_empty.Given as goal

abbrev pub invariant-loop-bucket : goal.invariant-loop-bucket
invariant-loop-bucket l = entries_of (drop l.bucket-index l.bucket-items) ≡ l.self.entries
