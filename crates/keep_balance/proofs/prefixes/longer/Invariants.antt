use Rattle.std.proofs.Common.{◌≡◌, take}
use Rattle.keep_history.specs.Rounds.{longer}
use Rattle.keep_balance.proofs.prefixes.longer.Given as goal

abbrev pub invariant-loop-text : goal.invariant-loop-text
invariant-loop-text l = l.more.items ≡ longer (take l.text-index l.texts)
