use Rattle.std.proofs.Common.{◌≡◌, take, true}
use Rattle.std.specs.List.{list_all, flat_map}
use Rattle.keep_normal.specs.Normal.{file_segments, is_small_segment}
use Rattle.keep_normal.proofs.segments.segments_of.Given as goal

abbrev pub invariant-loop-file : goal.invariant-loop-file
invariant-loop-file l = record {
  items : l.segments.items ≡ flat_map (file_segments l.blocks.locators.items) (take l.file-index l.files);
  small : list_all is_small_segment (flat_map (file_segments l.blocks.locators.items) (take l.file-index l.files)) ≡ true;
}
