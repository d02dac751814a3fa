use Rattle.std.proofs.Common.{◌≡◌, ◌++◌, map, take}
use Rattle.keep_plan.specs.Mentions.{held_at}
use Rattle.keep_plan.proofs.mentions.push_page.Given as goal

abbrev pub invariant-loop-entry : goal.invariant-loop-entry
invariant-loop-entry l = l.mentions.items ≡ l.initial.mentions.items ++ map (held_at l.device) (take l.entry-index l.entry-items)
