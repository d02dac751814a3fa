-- The bound follows from how many digits there are.
use Rattle.std.proofs.Common.{subst, sym, IfSome, ◌<◌, ◌^◌, length}
use Rattle.keep_clock.proofs.Numbers.{number_bounded}
use Rattle.keep_clock.proofs.parsing.read_number.Goals as goal

pub returns-clause-bound : goal.returns-clause-bound
returns-clause-bound c = subst (λ o. IfSome o (λ n. n < 10 ^ length c.args.text.now)) (sym c.read_number.ensures) (number_bounded c.args.text.now)
