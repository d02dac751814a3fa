use Rattle.std.proofs.Common.{◌≡◌, ◌+◌, sym, subst, arith}
use Rattle.keep_event.specs.declared.event.Answer.TheVariants as A
use Rattle.keep_history.specs.Balance.{Balancing}
use Rattle.keep_balance.specs.Standing.{given, IsAfter, IsAt, IsHanding}
use Rattle.keep_balance.proofs.Planned.{accepted-hands, accepting, refused-hands}
use Rattle.keep_balance.proofs.task.BalanceTask.take_accepted.Goals as goal

pub returns-in-Accepted-clause-taken : goal.returns-in-Accepted-clause-taken
returns-in-Accepted-clause-taken c = λ tick s shows placed.
    subst (λ a. IsAfter c.args.self.now (given tick (A.Device a)) s c.hand_on.new.self c.hand_on.result) (sym c.in-Accepted.is)
    (accepted-hands c.args.self.now c.args.device s shows placed c.in-Accepted.trash c.in-Accepted.pull tick c.hand_on.new.self c.hand_on.result c.hand_on.ensures.handed)

pub returns-in-Stale-clause-taken : goal.returns-in-Stale-clause-taken
returns-in-Stale-clause-taken c = λ tick s shows placed.
    let t = c.args.self.now in
    let new = c.hand_on-in-Stale.new.self in
    let end = c.hand_on-in-Stale.result in
    let h = accepting t c.args.device s shows placed in
    let more : c.saturating_add-self.result ≡ t.stale + 1 = omega (arith, h.few, c.saturating_add-self.ensures, c.ranges.device.fits) in
    subst (λ a. IsAfter t (given tick (A.Device a)) s new end) (sym c.in-Stale.is)
    (refused-hands t c.args.device s shows placed c.in-Stale.held tick new end
    (subst (λ n. (s : Balancing) → IsHanding (record t { stale = n }) (c.args.device + 1) s → IsAt (record t { stale = n }) s new end) more c.hand_on-in-Stale.ensures.handed))
