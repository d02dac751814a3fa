use Rattle.std.proofs.Common.{◌≡◌, map, take}
use Rattle.serde_json.specs.View.{view}
use Rattle.keep_event.specs.Lists.{source_data}
use Rattle.keep_lists.proofs.writing.source_values.Given as goal

abbrev pub invariant-loop-source : goal.invariant-loop-source
invariant-loop-source l = map view l.values.items ≡ map (source_data l.config) (take l.source-index l.sources)
