use Rattle.std.proofs.Common.{◌≡◌, take}
use Rattle.std.specs.Prelude.{fold}
use Rattle.std.specs.BTreeMap.{IsOrdered}
use Rattle.std.specs.List.{flat_map}
use Rattle.keep_normal.specs.Files.{piece_of}
use Rattle.keep_normal.specs.Grouped.{byte_order, put}
use Rattle.keep_normal.proofs.listing.put_stream.Given as goal

abbrev pub invariant-loop-segment : goal.invariant-loop-segment
invariant-loop-segment l = record {
  ordered : IsOrdered byte_order l.groups;
  entries : l.groups.entries ≡ fold put l.initial.groups.entries (flat_map (piece_of l.stream) (take l.segment-index l.segment-items));
}
