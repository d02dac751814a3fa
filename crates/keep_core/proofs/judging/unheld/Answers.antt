use Rattle.std.proofs.Common.{reverse, filter, not, ap, ◌∙◌, sym}
use Rattle.std.specs.BTreeSet.{contains}
use Rattle.std.specs.Ordering.{nat_cmp}
use Rattle.std.specs.Cmp.Lexicographic.{slice_cmp}
use Rattle.keep_core.specs.Unheld.{protected_digests}
use Rattle.keep_core.proofs.HeldNowhere.{lacks-none, lacks-next}
use Rattle.keep_core.proofs.judging.unheld.Goals as goal

pub loop-device-init : goal.loop-device-init
loop-device-init c = c.in_ok-unheld.ensures ∙ sym (lacks-none (reverse c.args.events.now) (protected_digests c.args.config.now (reverse c.args.events.now)))

pub loop-device-preserved : goal.loop-device-preserved
loop-device-preserved c =
    let past = reverse c.args.events.now in
    c.in_ok-unheld-2.ensures
    ∙ ap (filter (λ h. not (contains (slice_cmp nat_cmp) c.in_ok-held.held h))) c.loop-device.invariant
    ∙ lacks-next past c.loop-device.device (contains (slice_cmp nat_cmp) c.in_ok-held.held) (protected_digests c.args.config.now past) c.in_ok-held.ensures
