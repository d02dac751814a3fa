use Rattle.std.proofs.Common.{◌≡◌, ◌++◌, drop, option_map}
use Rattle.serde_json.specs.View.{items_view}
use Rattle.keep_spec.specs.Json.{each}
use Rattle.keep_config.proofs.json.each.Given as goal

-- the members so far, and then those of the items that are left
abbrev pub invariant-loop-item : goal.invariant-loop-item
invariant-loop-item g l = option_map (λ rest. l.members.items ++ rest) (each g.M.Member.parsed (items_view (drop l.item-index l.items))) ≡ each g.M.Member.parsed (items_view l.items)
