use Rattle.std.proofs.Common.{take, reverse}
use Rattle.keep_core.specs.Seen.{IsKnown}
use Rattle.keep_core.proofs.held.referred.Given as goal

-- what is kept is right after the events so far
abbrev pub invariant-loop-index : goal.invariant-loop-index
invariant-loop-index l = IsKnown l.config (reverse (take l.index l.events)) l.held
