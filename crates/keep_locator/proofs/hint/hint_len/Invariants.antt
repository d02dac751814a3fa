use Rattle.std.proofs.Common.{◌≡◌, ◌+◌, ◌==◌, drop}
use Rattle.std.specs.List.{position_or_len}
use Rattle.keep_locator.proofs.hint.hint_len.Given as goal

abbrev pub invariant-loop-at : goal.invariant-loop-at
invariant-loop-at l = l.at + position_or_len (λ c. c == 43) (drop l.at l.text) ≡ position_or_len (λ c. c == 43) (drop 1 l.text) + 1
