use Rattle.std.proofs.Common.{◌≡◌, take, []}
use Rattle.std.specs.Prelude.{fold}
use Rattle.std.specs.BTreeMap.{IsOrdered}
use Rattle.std.specs.List.{flat_map}
use Rattle.keep_normal.specs.Files.{stream_pieces}
use Rattle.keep_normal.specs.Grouped.{byte_order, put}
use Rattle.keep_normal.proofs.listing.pieces_of.Given as goal

abbrev pub invariant-loop-stream : goal.invariant-loop-stream
invariant-loop-stream l = record {
  ordered : IsOrdered byte_order l.groups;
  entries : l.groups.entries ≡ fold put [] (flat_map stream_pieces (take l.stream-index l.stream-items));
}
