-- What a line sees of a name is what is seen of its task.
use Rattle.std.proofs.Common.{◌≡◌, ℕ, List, Option, option_map}
use Rattle.std.specs.Ordering.{nat_cmp}
use Rattle.std.specs.Cmp.Lexicographic.{slice_cmp}
use Rattle.std.specs.BTreeMap.{is_at}
use Rattle.std.proofs.lemmas.Map.Made.{lookup-map_values}
use Rattle.keep_history.specs.declared.task.TaskState.{TaskState}
use Rattle.keep_history.specs.Names.{Named, at_name, seen, seen_names}

pub seen_at_name : {T : Type 0} (name : List ℕ) (names : Named (TaskState T)) → at_name name (seen_names names) ≡ option_map seen (at_name name names)
seen_at_name name names = lookup-map_values seen (is_at (slice_cmp nat_cmp name)) names
