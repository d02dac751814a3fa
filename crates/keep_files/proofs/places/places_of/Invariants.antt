use Rattle.std.proofs.Common.{◌≡◌, true, ltb, length, take, drop, map, []}
use Rattle.std.specs.List.{list_all}
use Rattle.keep_files.specs.Layout.{by_path}
use Rattle.keep_files.specs.Packed.{first_fault}
use Rattle.keep_files.specs.Places.{entry_at}
use Rattle.keep_files.specs.declared.file.FileIn.{FileIn}
use Rattle.keep_files.proofs.places.places_of.Given as goal

abbrev pub invariant-loop-index : goal.invariant-loop-index
invariant-loop-index l = record {
  fault : first_fault [] l.files ≡ first_fault (map (λ (f : FileIn). f.path) (take l.index l.files)) (drop l.index l.files);
  entries : map (entry_at l.files) l.places.entries ≡ by_path (take l.index l.files);
  within : list_all (λ e. ltb e.1 (length l.files)) l.places.entries ≡ true;
}
