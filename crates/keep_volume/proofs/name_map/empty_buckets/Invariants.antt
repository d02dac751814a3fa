use Rattle.std.proofs.Common.{◌≡◌, [], length}
use Rattle.keep_volume.specs.Buckets.{ArePlaced, entries_of}
use Rattle.keep_volume.proofs.name_map.empty_buckets.Given as goal

abbrev pub invariant-loop : goal.invariant-loop
invariant-loop l = record {
  number : length l.buckets.items ≡ l.counter;
  placed : ArePlaced 0 l.buckets.items;
  none : entries_of l.buckets.items ≡ [];
}
