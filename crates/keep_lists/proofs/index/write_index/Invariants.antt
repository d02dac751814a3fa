use Rattle.std.proofs.Common.{◌≡◌, take}
use Rattle.std.specs.Prelude.{flat_map}
use Rattle.keep_event.specs.Index.{index_line}
use Rattle.keep_lists.proofs.index.write_index.Given as goal

abbrev pub invariant-loop-entry : goal.invariant-loop-entry
invariant-loop-entry l = l.out.items ≡ flat_map index_line (take l.entry-index l.entries)
