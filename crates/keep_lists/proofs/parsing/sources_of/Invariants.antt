use Rattle.std.proofs.Common.{◌≡◌, ◌++◌, drop, option_map}
use Rattle.serde_json.specs.View.{items_view}
use Rattle.keep_spec.specs.Json.{each}
use Rattle.keep_event.specs.Lists.{source_of}
use Rattle.keep_lists.proofs.parsing.sources_of.Given as goal

-- the sources so far, and then those of the values that are left
abbrev pub invariant-loop-value : goal.invariant-loop-value
invariant-loop-value l = option_map (λ rest. l.sources.items ++ rest) (each (source_of l.config) (items_view (drop l.value-index l.values))) ≡ each (source_of l.config) (items_view l.values)
