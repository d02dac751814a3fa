use Rattle.keep_calls.proofs.Rules.{HasFirst}
use Rattle.keep_calls.proofs.volumes.volumes_of.Given as goal

-- the first devices are open
abbrev pub invariant-loop-number : goal.invariant-loop-number
invariant-loop-number l = HasFirst l.config l.number l.volumes.items
