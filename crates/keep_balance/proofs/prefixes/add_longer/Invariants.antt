use Rattle.std.proofs.Common.{◌≡◌, ◌++◌, ◌∷◌, [], map, take}
use Rattle.keep_history.specs.Rounds.{digits}
use Rattle.keep_balance.proofs.prefixes.add_longer.Given as goal

abbrev pub invariant-loop-digit : goal.invariant-loop-digit
invariant-loop-digit l = l.more.items ≡ l.initial.more.items ++ map (λ x. l.fn.text ++ x ∷ []) (take l.digit-index digits)
