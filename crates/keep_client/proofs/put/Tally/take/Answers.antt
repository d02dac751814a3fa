use Rattle.std.proofs.Common.{sym}
use Rattle.keep_client.proofs.Asked.{keep_tallied, tallied-miss}
use Rattle.keep_client.proofs.put.Tally.take.Goals as goal

pub returns-in-Some : goal.returns-in-Some
returns-in-Some c = keep_tallied c.args.block.now c.args.self.now c.keep.new.self c.args.said.now c.in-Some.locator.now c.keep.result (sym c.in-Some.ensures) c.keep.ensures

pub returns-in-None : goal.returns-in-None
returns-in-None c before tallied = rw c.miss.ensures (tallied-miss c.args.block.now before c.args.self.now c.args.said.now tallied (sym c.in-None.ensures))
