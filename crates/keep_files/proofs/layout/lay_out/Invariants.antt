use Rattle.std.proofs.Common.{◌≡◌, ◌^◌, true, ltb, length, map}
use Rattle.std.specs.List.{list_all, flat_map}
use Rattle.keep_files.specs.Layout.{line_of, pieces_of, distinct, end_to_end}
use Rattle.keep_files.specs.Places.{group_at}
use Rattle.keep_files.specs.Pieces.{IsKnown}
use Rattle.keep_files.proofs.layout.lay_out.Given as goal

abbrev pub invariant-loop-name : goal.invariant-loop-name
invariant-loop-name l = record {
  known : IsKnown l.blocks;
  streams : l.streams.items ≡ map (λ g. line_of l.size (group_at l.files g)) l.yielded;
  blocks : l.blocks.blocks.items ≡ distinct (flat_map (λ g. pieces_of l.size (group_at l.files g)) l.yielded);
  small : list_all (λ g. ltb (length (end_to_end (group_at l.files g).1)) (10 ^ 19)) l.yielded ≡ true;
}
