use Rattle.std.proofs.Common.{◌≡◌, ◌+◌, ℕ, List, take}
use Rattle.keep_table.specs.Wants.{counted, mentions}
use Rattle.keep_table.proofs.wants.Wants.add.Given as goal

-- the digests so far are counted once more
abbrev pub invariant-loop-index : goal.invariant-loop-index
invariant-loop-index l = (h : List ℕ) (n : ℕ) → counted l.self h n ≡ counted l.fn.self h n + mentions h n l.want (take l.index l.named)
