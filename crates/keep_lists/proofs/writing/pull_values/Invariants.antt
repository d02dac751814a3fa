use Rattle.std.proofs.Common.{◌≡◌, map, take}
use Rattle.serde_json.specs.View.{view}
use Rattle.keep_event.specs.Lists.{pull_item_data}
use Rattle.keep_lists.proofs.writing.pull_values.Given as goal

abbrev pub invariant-loop-item : goal.invariant-loop-item
invariant-loop-item l = map view l.values.items ≡ map (pull_item_data l.config l.mount) (take l.item-index l.items)
