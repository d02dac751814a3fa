use Rattle.std.proofs.Common.{◌≡◌, take, map}
use Rattle.keep_files.specs.Layout.{end_to_end}
use Rattle.keep_files.specs.Places.{file_at}
use Rattle.keep_files.specs.Pieces.{given_to, IsCut}
use Rattle.keep_files.proofs.cutter.cut_files.Given as goal

abbrev pub invariant-loop-place : goal.invariant-loop-place
invariant-loop-place l = record {
  size : l.cutter.size ≡ l.size;
  cut : IsCut l.cutter;
  given : given_to l.cutter ≡ end_to_end (map (file_at l.files) (take l.place-index l.places));
}
