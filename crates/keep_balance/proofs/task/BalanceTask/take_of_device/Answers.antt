use Rattle.std.proofs.Common.{sym, subst}
use Rattle.keep_balance.specs.Standing.{given, IsAfter}
use Rattle.keep_balance.proofs.task.BalanceTask.take_of_device.Goals as goal

pub returns-in-Device-clause-taken : goal.returns-in-Device-clause-taken
returns-in-Device-clause-taken c = λ tick s shows placed.
    subst (λ a. IsAfter c.args.self.now (given tick a) s c.take_accepted.new.self c.take_accepted.result) (sym c.in-Device.is)
    (c.take_accepted.ensures.taken tick s shows placed)
