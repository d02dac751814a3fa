use Rattle.std.proofs.Common.{◌≡◌, ◌≤◌, ◌-◌, length}
use Rattle.keep_spec.specs.Lines.{cut}
use Rattle.keep_event.specs.Index.{index_of}
use Rattle.keep_lists.proofs.Bad.{result_from, last_entry, with_entries}
use Rattle.keep_lists.proofs.index.read_index.Given as goal

-- the entries so far, and then what the rest says behind the last of them
abbrev pub invariant-loop-end : goal.invariant-loop-end
invariant-loop-end l = record {
  within : length l.rest ≤ length l.text;
  said : with_entries l.entries.items (result_from (length l.text - length l.rest) (last_entry l.entries.items) (cut l.rest)) ≡ index_of l.text;
}

abbrev pub decreases-loop-end : goal.decreases-loop-end
decreases-loop-end l = length l.rest
