-- The names that a script has opened, each with what became of its task, ascending by name.
use Rattle.std.specs.Prelude.{ℕ, List, Option, map}
use Rattle.std.specs.Ordering.{nat_cmp}
use Rattle.std.specs.Cmp.Lexicographic.{slice_cmp}
use Rattle.std.specs.BTreeMap.{insert_entry, is_at}
use Rattle.std.specs.Map.{lookup}
use Rattle.keep_history.specs.declared.task.TaskState.{TaskState}
use Rattle.keep_history.specs.declared.task.TaskState.TheVariants as S

-- names, each with a value, ascending
abbrev pub Named : Type 0 → Type 0
Named X = List (List ℕ × X)

abbrev pub at_name : {X : Type 0} → List ℕ → Named X → Option X
at_name name names = lookup (is_at (slice_cmp nat_cmp name)) names

abbrev pub with_name : {X : Type 0} → List ℕ → X → Named X → Named X
with_name name x names = insert_entry (slice_cmp nat_cmp) names name x

-- what a later line can see of a task
pub data Seen : Type 0 where
  is_open : Seen
  located : List ℕ → Seen
  row : List ℕ → Seen
  ended : Seen

abbrev pub seen : {T : Type 0} → TaskState T → Seen
seen (S.Open task) = is_open
seen (S.Located locator) = located locator
seen (S.Row text) = row text
seen S.Ended = ended

abbrev pub seen_names : {T : Type 0} → Named (TaskState T) → Named Seen
seen_names names = map (λ e. (e.0, seen e.1)) names
