use Rattle.std.proofs.Common.{◌≡◌, take, length, sum_by}
use Rattle.keep_balance.proofs.totals.pull_items.Given as goal

abbrev pub invariant-loop-list : goal.invariant-loop-list
invariant-loop-list l = l.items ≡ sum_by (λ x. length x.pull) (take l.list-index l.lists)
