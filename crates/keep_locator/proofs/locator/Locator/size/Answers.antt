use Rattle.std.proofs.Common.{arith}
use Rattle.keep_spec.proofs.LocatorText.{size-lt}
use Rattle.keep_locator.proofs.locator.Locator.size.Goals as goal

pub returns-clause-bound : goal.returns-clause-bound
returns-clause-bound c = omega (arith, c.self.invariant.size, size-lt c.self.inside.text.now c.self.invariant.whole)
