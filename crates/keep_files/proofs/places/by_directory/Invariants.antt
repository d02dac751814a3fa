use Rattle.std.proofs.Common.{◌≡◌, map, []}
use Rattle.std.specs.Prelude.{fold}
use Rattle.std.specs.BTreeMap.{IsOrdered}
use Rattle.keep_normal.specs.Grouped.{byte_order, put}
use Rattle.keep_files.specs.Layout.{directory_of}
use Rattle.keep_files.proofs.places.by_directory.Given as goal

abbrev pub invariant-loop-path : goal.invariant-loop-path
invariant-loop-path l = record {
  ordered : IsOrdered byte_order l.directories;
  entries : l.directories.entries ≡ fold put [] (map (λ e. (directory_of e.0, e.1)) l.yielded);
}
