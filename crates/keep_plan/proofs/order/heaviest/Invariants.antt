use Rattle.std.proofs.Common.{◌≡◌, ◌≤◌, ◌==◌, [], map, drop, length, filter, is_some, slice_index_or}
use Rattle.std.specs.Prelude.{unwrap_or}
use Rattle.std.specs.List.{list_any}
use Rattle.keep_spec.specs.Order.{greatest_of}
use Rattle.keep_plan.proofs.order.heaviest.Given as goal

abbrev pub invariant-loop-index : goal.invariant-loop-index
invariant-loop-index l = record {
  within : l.index ≤ length l.mounts;
  weight : unwrap_or l.greatest [] ≡ greatest_of (map (λ m. slice_index_or l.servers m.server []) (filter (λ m. m.device == l.device) (drop l.index l.mounts)));
  mounted : is_some l.greatest ≡ list_any (λ m. m.device == l.device) (drop l.index l.mounts);
}

abbrev pub decreases-loop-index : goal.decreases-loop-index
decreases-loop-index l = l.index
