use Rattle.std.proofs.Common.{◌≡◌, filter, not}
use Rattle.std.specs.BTreeSet.{contains}
use Rattle.std.specs.Ordering.{nat_cmp}
use Rattle.std.specs.Cmp.Lexicographic.{slice_cmp}
use Rattle.keep_core.proofs.judging.without.Given as goal

abbrev pub invariant-loop-digest : goal.invariant-loop-digest
invariant-loop-digest l = l.left.items ≡ filter (λ h. not (contains (slice_cmp nat_cmp) l.held h)) l.yielded
