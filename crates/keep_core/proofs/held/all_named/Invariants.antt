use Rattle.std.proofs.Common.{◌≡◌, map}
use Rattle.std.specs.List.{flat_map}
use Rattle.std.specs.Map.Iter.{deref_pair}
use Rattle.keep_core.specs.Seen.{named_left, last_sweep}
use Rattle.keep_core.proofs.held.all_named.Given as goal

abbrev pub invariant-loop-tracked : goal.invariant-loop-tracked
invariant-loop-tracked l = l.digests.items ≡ flat_map (λ e. named_left l.config (λ t. last_sweep t l.held.sweeps.entries) e.1) (map deref_pair l.yielded)
