use Rattle.std.proofs.Common.{◌≡◌, take, map, []}
use Rattle.std.specs.Prelude.{fold}
use Rattle.std.specs.BTreeMap.{IsOrdered}
use Rattle.keep_normal.specs.Files.{stripped_file}
use Rattle.keep_normal.specs.Grouped.{byte_order, put}
use Rattle.keep_normal.specs.Normal.{by_directory}
use Rattle.keep_normal.proofs.normal.by_directory.Given as goal

abbrev pub invariant-loop-file : goal.invariant-loop-file
invariant-loop-file l = record {
  ordered : IsOrdered byte_order l.groups;
  entries : l.groups.entries ≡ fold put [] (by_directory (map stripped_file (take l.file-index l.files)));
}
