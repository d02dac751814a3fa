use Rattle.std.proofs.Common.{◌≡◌, map, take}
use Rattle.serde_json.specs.View.{view}
use Rattle.keep_event.specs.Lists.{trash_item_data}
use Rattle.keep_lists.proofs.writing.trash_values.Given as goal

abbrev pub invariant-loop-item : goal.invariant-loop-item
invariant-loop-item l = map view l.values.items ≡ map (trash_item_data l.mount) (take l.item-index l.items)
