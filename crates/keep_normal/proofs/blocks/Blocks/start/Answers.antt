use Rattle.std.proofs.Common.{◌∙◌, sym, arith}
use Rattle.keep_normal.proofs.BlockStarts.{start-le}
use Rattle.keep_normal.proofs.blocks.Blocks.start.Goals as goal

pub returns-in-Some-clause-bound : goal.returns-in-Some-clause-bound
returns-in-Some-clause-bound c =
    let bs = c.args.self.now.locators.items in
    let least = start-le bs c.args.locator.now c.in-Some.start.now (sym (c.in-Some.ensures.value ∙ c.requires.starts c.args.locator.now)) in
    let small = c.args.self.now.locators.small in
    omega (arith, least, small, c.requires.summed, c.requires.bounded)
