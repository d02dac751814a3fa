use Rattle.std.proofs.Common.{◌≡◌, ◌++◌, take}
use Rattle.std.specs.List.{flat_map}
use Rattle.keep_plan.specs.Mentions.{in_row}
use Rattle.keep_plan.proofs.mentions.push_rows.Given as goal

abbrev pub invariant-loop-row : goal.invariant-loop-row
invariant-loop-row l = l.mentions.items ≡ l.initial.mentions.items ++ flat_map in_row (take l.row-index l.rows)
