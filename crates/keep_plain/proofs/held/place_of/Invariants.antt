use Rattle.std.proofs.Common.{◌≡◌, take, drop}
use Rattle.keep_event.specs.Store.{cut, onto}
use Rattle.keep_plain.proofs.held.place_of.Given as goal

abbrev pub invariant-loop-entry : goal.invariant-loop-entry
invariant-loop-entry l = (l.place ≡ l.entry-index) × (cut l.name l.held ≡ onto (take l.entry-index l.held) (cut l.name (drop l.entry-index l.held)))
