use Rattle.std.proofs.Common.{◌≡◌, ◌++◌, ◌<◌, ◌^◌, length, take, drop, map}
use Rattle.keep_files.specs.Layout.{end_to_end, segments_from}
use Rattle.keep_files.specs.Places.{file_at}
use Rattle.keep_files.proofs.segments.segments_of.Given as goal

abbrev pub invariant-loop-place : goal.invariant-loop-place
invariant-loop-place l = record {
  segments : l.segments.items ++ segments_from l.position (map (file_at l.files) (drop l.place-index l.places)) ≡ segments_from 0 (map (file_at l.files) l.places);
  total : l.position ≡ length (end_to_end (map (file_at l.files) (take l.place-index l.places)));
  bound : l.position < 10 ^ 19;
}
