use Rattle.std.proofs.Common.{◌≡◌, map, true}
use Rattle.std.specs.List.{list_all}
use Rattle.keep_normal.specs.Normal.{line_of, is_small_stream}
use Rattle.keep_normal.proofs.normal.lines_of.Given as goal

abbrev pub invariant-loop-name : goal.invariant-loop-name
invariant-loop-name l = record {
  items : l.streams.items ≡ map line_of l.yielded;
  small : list_all is_small_stream (map line_of l.yielded) ≡ true;
}
