use Rattle.std.proofs.Common.{◌≡◌, take, map}
use Rattle.keep_normal.specs.Files.{stripped_part}
use Rattle.keep_normal.proofs.normal.stripped_file.Given as goal

abbrev pub invariant-loop-part : goal.invariant-loop-part
invariant-loop-part l = l.parts.items ≡ map stripped_part (take l.part-index l.part-items)
