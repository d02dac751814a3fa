use Rattle.std.proofs.Common.{◌≡◌, map}
use Rattle.keep_normal.specs.Files.{file_of}
use Rattle.keep_normal.proofs.listing.files_from.Given as goal

abbrev pub invariant-loop-path : goal.invariant-loop-path
invariant-loop-path l = l.files.items ≡ map file_of l.yielded
