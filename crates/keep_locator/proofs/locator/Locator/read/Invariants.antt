use Rattle.keep_locator.proofs.ParserStates.{placed}
use Rattle.keep_locator.proofs.ParsedPrefix.{Reads}
use Rattle.keep_locator.proofs.locator.Locator.read.Given as goal

abbrev pub invariant-loop-at : goal.invariant-loop-at
invariant-loop-at l = Reads l.text (placed l.state) l.at
