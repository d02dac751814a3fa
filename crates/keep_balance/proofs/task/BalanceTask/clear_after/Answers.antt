use Rattle.std.proofs.Common.{inr}
use Rattle.keep_balance.specs.Gathering.{IsClearAfter, IsPageFrom}
use Rattle.keep_balance.proofs.Pages.{mapped}
use Rattle.keep_balance.proofs.task.BalanceTask.clear_after.Goals as goal

pub returns-in-None : goal.returns-in-None
returns-in-None c =
    mapped (λ asked. IsPageFrom c.args.self.now 0 0 asked.0 asked.1) (λ asked. IsClearAfter c.args.self.now c.args.device asked.0 asked.1) c.pages_from.result
    (λ asked h. inr (c.following.ensures.none c.in-None.is, h)) c.pages_from.ensures
