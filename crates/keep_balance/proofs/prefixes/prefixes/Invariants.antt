use Rattle.std.proofs.Common.{◌≡◌}
use Rattle.keep_history.specs.Rounds.{prefixes}
use Rattle.keep_balance.proofs.prefixes.prefixes.Given as goal

abbrev pub invariant-loop-digit : goal.invariant-loop-digit
invariant-loop-digit l = l.texts.items ≡ prefixes l._digit
