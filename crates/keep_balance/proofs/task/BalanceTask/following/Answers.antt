use Rattle.std.proofs.Common.{◌≤◌, length, arith, subst}
use Rattle.keep_spec.specs.Config.{IsGood}
use Rattle.keep_balance.specs.declared.task.BalanceTask.{BalanceTask}
use Rattle.keep_balance.proofs.Planned.{few-devices}
use Rattle.keep_balance.proofs.task.BalanceTask.following.Goals as goal

pub returns-in_err-next-clause-none : goal.returns-in_err-next-clause-none
returns-in_err-next-clause-none c = λ _.
    let config = c.args.self.now.config in
    let few : length config.devices ≤ 64 = few-devices config (subst (λ (t : BalanceTask). IsGood t.config) c.self.view_is c.self.invariant) in
    omega (arith, few, c.in_err-next.ensures, c.ranges.device.fits)
