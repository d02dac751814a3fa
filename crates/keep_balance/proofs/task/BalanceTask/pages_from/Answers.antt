use Rattle.std.proofs.Common.{arith, sym, ◌∙◌}
use Rattle.keep_balance.specs.Gathering.{IsFirstPage, IsPageFrom}
use Rattle.keep_balance.proofs.Pages.{first-follows, mapped, none-follow, not-found, page-found}
use Rattle.keep_balance.proofs.task.BalanceTask.pages_from.Goals as goal

pub returns-in-Some : goal.returns-in-Some
returns-in-Some c = page-found c.args.self.now c.args.device c.args.next c.in-Some.asked (sym c.in-Some.is ∙ c.in_ok-asked.ensures)

pub returns-in-Some-following : goal.returns-in-Some-following
returns-in-Some-following c =
    let gone = not-found c.args.self.now c.args.device c.args.next (grind (arith, c.in_ok-asked.ensures)) in
    mapped (λ asked. IsFirstPage c.args.self.now c.in-Some-following.device asked.0 asked.1) (λ asked. IsPageFrom c.args.self.now c.args.device c.args.next asked.0 asked.1) c.first_page.result
    (λ asked h. first-follows c.args.self.now c.args.device c.args.next c.in-Some-following.device asked.0 asked.1 gone c.in-Some-following.ensures.some.0 c.in-Some-following.ensures.some.1 h) c.first_page.ensures

pub returns-in-None : goal.returns-in-None
returns-in-None c = rw c.scan_query.ensures (none-follow c.args.self.now c.args.device c.args.next (not-found c.args.self.now c.args.device c.args.next (grind (arith, c.in_ok-asked.ensures))) (c.following.ensures.none c.in-None.is))
