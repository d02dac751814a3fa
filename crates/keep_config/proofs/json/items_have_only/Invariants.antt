use Rattle.std.proofs.Common.{◌≡◌, map, drop}
use Rattle.serde_json.specs.View.{items_view}
use Rattle.keep_spec.specs.Json.{items_have_only}
use Rattle.keep_config.proofs.json.items_have_only.Given as goal

-- the items that are left decide
abbrev pub invariant-loop-item : goal.invariant-loop-item
invariant-loop-item l = items_have_only (map (λ n. n.now) l.names) (items_view (drop l.item-index l.items)) ≡ items_have_only (map (λ n. n.now) l.names) (items_view l.items)
