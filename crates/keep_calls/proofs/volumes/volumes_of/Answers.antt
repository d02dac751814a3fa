use Rattle.std.proofs.Common.{◌≡◌, ◌+◌, length, ◌∙◌, ap, sym, subst, arith}
use Rattle.keep_spec.specs.Config.{Configuration}
use Rattle.keep_calls.proofs.Rules.{HasFirst, rules-next, rules-all}
use Rattle.keep_calls.proofs.volumes.volumes_of.Goals as goal

pub loop-number-preserved : goal.loop-number-preserved
loop-number-preserved c =
    let n : c.len-count.result ≡ length c.args.config.now.devices = c.len-count.ensures ∙ ap (λ (x : Configuration). length x.devices) c.config.view_is in
    subst (HasFirst c.args.config.now (c.loop-number.number + 1)) (sym c.in_ok-push.ensures.items)
    (rules-next c.args.config.now c.loop-number.number c.loop-number.volumes.items c.in_ok-volume.volume (omega (arith, n, c.loop-number-test.true)) c.loop-number.invariant c.in_ok-volume.ensures)

pub returns : goal.returns
returns c =
    let n : c.len-count.result ≡ length c.args.config.now.devices = c.len-count.ensures ∙ ap (λ (x : Configuration). length x.devices) c.config.view_is in
    rules-all c.args.config.now c.loop-number.number c.loop-number.volumes.items (omega (arith, n, c.loop-number-test.false, c.loop-number.auto.number-end)) c.loop-number.invariant
