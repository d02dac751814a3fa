use Rattle.std.proofs.Common.{◌≡◌, None, sym, ◌∙◌, subst}
use Rattle.std.proofs.lemmas.Result.{IfOk-weaker}
use Rattle.keep_history.specs.Balance.{disordered}
use Rattle.keep_balance.specs.Standing.{IsRead}
use Rattle.keep_balance.proofs.Planned.{none-here, rows-read}
use Rattle.keep_balance.proofs.task.BalanceTask.take_rows.Goals as goal

pub returns-clause-taken : goal.returns-clause-taken
returns-clause-taken c =
    let t = c.args.self.now in
    let new = c.keep_rows.new.self in
    let ordered : disordered t.cleared_at c.args.tick ≡ None = sym c.disordered.ensures ∙ none-here c.disordered.result c.in_default.not-Some in
    IfOk-weaker c.keep_rows.result (λ end. IsRead c.args.last c.in_ok-rows.rows.items t new end) _
    (λ end read s shows placed. rows-read t new s c.args.rows.now c.args.last c.args.tick end shows placed ordered
    (subst (λ rows. IsRead c.args.last rows t new end) c.in_ok-rows.ensures read))
    c.keep_rows.ensures.read
