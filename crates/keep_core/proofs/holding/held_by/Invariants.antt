use Rattle.std.proofs.Common.{◌≡◌, ℕ, List, take, reverse}
use Rattle.std.specs.BTreeSet.{contains}
use Rattle.std.specs.Ordering.{nat_cmp}
use Rattle.std.specs.Cmp.Lexicographic.{slice_cmp}
use Rattle.keep_safety.specs.Holds.{holds}
use Rattle.keep_core.proofs.holding.held_by.Given as goal

abbrev pub invariant-loop-event : goal.invariant-loop-event
invariant-loop-event l = (h : List ℕ) → contains (slice_cmp nat_cmp) l.held h ≡ holds l.device h (reverse (take l.event-index l.events))
