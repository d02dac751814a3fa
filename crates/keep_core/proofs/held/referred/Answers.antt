use Rattle.std.proofs.Common.{◌+◌, ℕ, List, take, reverse, subst, sym, ap, arith}
use Rattle.std.specs.Prelude.{◌↔◌}
use Rattle.keep_spec.specs.Members.{IsIn}
use Rattle.keep_safety.specs.Rows.{refs}
use Rattle.keep_core.specs.Seen.{IsKnown}
use Rattle.keep_core.proofs.HeldDigests.{mapped, referred-is}
use Rattle.keep_core.proofs.HeldVersions.{knows-next}
use Rattle.keep_core.proofs.LiveDigests.{whole}
use Rattle.keep_core.proofs.Reversed.{past-next, past-length}
use Rattle.keep_core.proofs.held.referred.Goals as goal

pub loop-index-preserved : goal.loop-index-preserved
loop-index-preserved c =
    let config = c.args.config.now in
    let e = c.index-events-index.result in
    let i = c.loop-index.index in
    let past = reverse (take i c.args.events.now) in
    subst (λ p. IsKnown config p c.note.new.held) (sym (past-next c.args.events.now i e c.loop-index-test.true c.index-events-index.is))
    (knows-next config past e c.loop-index.held c.note.new.held (i + 1) c.in_ok-change.change c.loop-index.invariant (sym (ap (λ n. n + 1) (past-length c.args.events.now i c.loop-index-test.true))) c.in_ok-change.ensures c.in_ok-note.ensures.collections c.in_ok-note.ensures.sweeps)

pub returns : goal.returns
returns c =
    let config = c.args.config.now in
    let events = c.args.events.now in
    mapped _ (λ v. (h : List ℕ) → IsIn h v.items ↔ IsIn h (refs config (reverse events))) c.all_named.result
    (λ v is. referred-is config (reverse events) c.loop-index.held (subst (λ es. IsKnown config (reverse es) c.loop-index.held) (whole c.loop-index.index events (omega (arith, c.loop-index-test.false))) c.loop-index.invariant) c.all_named.ensures.found v.items is)
    c.all_named.ensures.named
