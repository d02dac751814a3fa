use Rattle.std.proofs.Common.{◌≡◌, ◌++◌, take}
use Rattle.std.specs.List.{flat_map}
use Rattle.keep_core.specs.Seen.{outlives_by, passed, last_sweep, named_where}
use Rattle.keep_core.proofs.held.push_named.Given as goal

abbrev pub invariant-loop-version : goal.invariant-loop-version
invariant-loop-version l = l.digests.items ≡ l.initial.digests.items ++ flat_map (λ v. named_where (outlives_by l.config (passed l.tracked.events (λ t. last_sweep t l.sweeps.entries)) l.tracked.delete_at v.superseded) v.named) (take l.version-index l.version-items)
