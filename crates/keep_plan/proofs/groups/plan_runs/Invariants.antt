use Rattle.std.proofs.Common.{length}
use Rattle.keep_plan.proofs.Runs.{SoFar}
use Rattle.keep_plan.proofs.groups.plan_runs.Given as goal

abbrev pub invariant-loop-first : goal.invariant-loop-first
invariant-loop-first l = SoFar l.config l.threshold l.mentions l.rest l.drafts l.lost.items

abbrev pub decreases-loop-first : goal.decreases-loop-first
decreases-loop-first l = length l.rest
