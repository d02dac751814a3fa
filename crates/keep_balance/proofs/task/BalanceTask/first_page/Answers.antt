use Rattle.std.proofs.Common.{sym, ◌∙◌}
use Rattle.keep_balance.proofs.Pages.{no-texts, not-found}
use Rattle.keep_balance.proofs.task.BalanceTask.first_page.Goals as goal

pub returns-in-None : goal.returns-in-None
returns-in-None c = rw c.scan_query.ensures (no-texts c.args.self.now c.args.device (not-found c.args.self.now c.args.device 0 (sym c.in-None.is ∙ c.in_ok-asked.ensures)))
