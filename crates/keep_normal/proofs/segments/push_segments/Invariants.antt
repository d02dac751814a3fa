use Rattle.std.proofs.Common.{◌≡◌, ◌++◌, take, map, true}
use Rattle.std.specs.List.{list_all}
use Rattle.keep_normal.specs.Normal.{segment_of, is_small_segment}
use Rattle.keep_normal.proofs.segments.push_segments.Given as goal

abbrev pub invariant-loop-span : goal.invariant-loop-span
invariant-loop-span l = record {
  items : l.segments.items ≡ l.initial.segments.items ++ map (segment_of l.name) (take l.span-index l.spans);
  small : list_all is_small_segment (map (segment_of l.name) (take l.span-index l.spans)) ≡ true;
}
