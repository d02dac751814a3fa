use Rattle.std.proofs.Common.{◌≡◌, refl, ◌∙◌, ap, subst}
use Rattle.keep_spec.specs.Config.{Configuration, IsGood}
use Rattle.keep_history.specs.Rounds.{prefixes}
use Rattle.keep_steps.proofs.Opens.{task-made}
use Rattle.keep_balance.proofs.Shown.{round-opens, round-ready}
use Rattle.keep_balance.proofs.task.BalanceTask.open.Goals as goal

pub returns : goal.returns
returns c =
    let good : IsGood c.args.config.now = subst IsGood c.config.view_is c.config.invariant in
    let texts : c.in_ok-prefixes.prefixes.items ≡ prefixes c.args.config.now.index_digits = c.in_ok-prefixes.ensures ∙ ap (λ (s : Configuration). prefixes s.index_digits) c.config.view_is in
    record {
      opened = λ reading. task-made _ _ _ _ (round-opens c.args.config.now reading) (round-ready c.args.config.now _ c.in_ok-config.ensures good texts refl refl refl);
    }
