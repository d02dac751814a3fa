use Rattle.std.proofs.Common.{◌≡◌, drop}
use Rattle.std.specs.List.{find}
use Rattle.keep_event.specs.Device.{is_due}
use Rattle.keep_plain.proofs.walks.first_due.Given as goal

abbrev pub invariant-loop-entry : goal.invariant-loop-entry
invariant-loop-entry l = find (is_due l.reading) (drop l.entry-index l.held) ≡ find (is_due l.reading) l.held
