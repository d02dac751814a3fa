use Rattle.std.proofs.Common.{◌≡◌, ◌++◌, map, take}
use Rattle.keep_plan.specs.Mentions.{wanted_at}
use Rattle.keep_plan.proofs.mentions.push_row.Given as goal

abbrev pub invariant-loop-digest : goal.invariant-loop-digest
invariant-loop-digest l = l.mentions.items ≡ l.initial.mentions.items ++ map (wanted_at l.want) (take l.digest-index l.digest-items)
