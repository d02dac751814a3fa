use Rattle.std.proofs.Common.{◌≡◌, ◌++◌, take, drop}
use Rattle.keep_plan.specs.Decided.{with_decided}
use Rattle.keep_plan.specs.Drafted.{each_from}
use Rattle.keep_plan.proofs.give.give_all.Given as goal

abbrev pub invariant-loop-place : goal.invariant-loop-place
invariant-loop-place l = l.drafts ≡ each_from 0 (with_decided l.decision l.config l.threshold l.entries) (take l.place l.fn.drafts) ++ drop l.place l.fn.drafts
