use Rattle.std.proofs.Common.{◌≡◌, ◌+◌, ◌++◌, drop, Ok}
use Rattle.serde_json.specs.View.{items_view}
use Rattle.keep_spec.specs.Results.{◌>>=◌}
use Rattle.keep_event.specs.Lists.{pull_item_of, each_from}
use Rattle.keep_lists.proofs.parsing.pull_items.Given as goal

-- the items so far, and then those of the values that are left
abbrev pub invariant-loop-place : goal.invariant-loop-place
invariant-loop-place l = (each_from (l.trash + l.place + 1) (pull_item_of l.config l.device) (items_view (drop l.place l.values)) >>= λ rest. Ok (l.items.items ++ rest)) ≡ each_from (l.trash + 1) (pull_item_of l.config l.device) (items_view l.values)
