use Rattle.std.proofs.Common.{◌≡◌, ◌++◌, drop, option_map}
use Rattle.serde_json.specs.View.{items_view}
use Rattle.keep_history.specs.Names.{seen_names}
use Rattle.keep_history.specs.Script.{joined_parts}
use Rattle.keep_script.proofs.collections.joined_parts.Given as goal

-- the text so far, and then the parts that are left
abbrev pub invariant-loop-part : goal.invariant-loop-part
invariant-loop-part g l = option_map (λ rest. l.text.items ++ rest) (joined_parts (seen_names l.names.entries) (items_view (drop l.part-index l.parts))) ≡ joined_parts (seen_names l.names.entries) (items_view l.parts)
