use Rattle.std.proofs.Common.{◌≡◌, filter}
use Rattle.keep_core.specs.Seen.{outlives_by, passed, last_sweep}
use Rattle.keep_core.proofs.held.left.Given as goal

abbrev pub invariant-loop-version : goal.invariant-loop-version
invariant-loop-version l = l.left.items ≡ filter (λ v. outlives_by l.config (passed l.events (λ t. last_sweep t l.sweeps.entries)) l.delete_at v.superseded) l.yielded
