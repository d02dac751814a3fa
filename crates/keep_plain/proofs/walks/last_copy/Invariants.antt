use Rattle.std.proofs.Common.{◌≡◌, drop, map, option_map}
use Rattle.std.specs.List.{last_or, filter}
use Rattle.keep_event.specs.Device.{is_copy_of, last_copy}
use Rattle.keep_plain.specs.Lines.{timed}
use Rattle.keep_plain.proofs.walks.last_copy.Given as goal

abbrev pub invariant-loop-entry : goal.invariant-loop-entry
invariant-loop-entry l = last_or l.last (map timed (filter (λ e. is_copy_of l.digest e.0) (drop l.entry-index l.held))) ≡ option_map timed (last_copy l.digest l.held)
