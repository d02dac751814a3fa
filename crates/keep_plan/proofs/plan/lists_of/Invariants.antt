use Rattle.std.proofs.Common.{◌≡◌}
use Rattle.keep_plan.proofs.plan.lists_of.Given as goal

abbrev pub invariant-loop-draft : goal.invariant-loop-draft
invariant-loop-draft l = l.lists.items ≡ l.yielded
