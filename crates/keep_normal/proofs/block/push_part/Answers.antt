use Rattle.std.proofs.Common.{arith}
use Rattle.keep_spec.proofs.LocatorText.{size-lt}
use Rattle.keep_normal.proofs.block.push_part.Goals as goal

pub overflow_cast-first : goal.overflow_cast-first
overflow_cast-first c =
    let short = size-lt c.args.locator.now c.requires.locator in
    omega arith

pub overflow_cast-last : goal.overflow_cast-last
overflow_cast-last c =
    let short = size-lt c.args.locator.now c.requires.locator in
    omega arith
