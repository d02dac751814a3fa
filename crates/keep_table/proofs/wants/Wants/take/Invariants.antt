use Rattle.std.proofs.Common.{◌≡◌, ◌+◌, ℕ, List, take}
use Rattle.keep_table.specs.Wants.{counted, mentions}
use Rattle.keep_table.proofs.wants.Wants.take.Given as goal

-- the digests so far are counted once less
abbrev pub invariant-loop-digest : goal.invariant-loop-digest
invariant-loop-digest l = (h : List ℕ) (n : ℕ) → counted l.self h n + mentions h n l.want (take l.digest-index l.named) ≡ counted l.fn.self h n
