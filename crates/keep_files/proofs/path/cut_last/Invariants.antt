use Rattle.std.proofs.Common.{◌≡◌, drop, None}
use Rattle.keep_normal.specs.Normal.{cut_last}
use Rattle.keep_files.proofs.path.cut_last.Given as goal

-- no `/` stands from here on
abbrev pub invariant-loop-at : goal.invariant-loop-at
invariant-loop-at l = cut_last (drop l.at l.path) ≡ None
