use Rattle.std.proofs.Common.{◌≡◌, ◌+◌, ◌++◌, ◌∷◌, [], reverse, arith, refl, sym, ap, ◌∙◌, append-nil, cond, filter}
use Rattle.keep_safety.specs.Holds.{holds}
use Rattle.keep_spec.specs.Members.{numbers_from}
use Rattle.keep_core.proofs.Numbers.{filter_next}
use Rattle.keep_core.proofs.holding.holders_among.Goals as goal
use Rattle.keep_core.proofs.holding.holders_among.Goals.{else-holds-via-then-holds+else-is_err, else-holds-via-else-holds}

pub loop-device-preserved : goal.loop-device-preserved
loop-device-preserved c =
    let n = c.loop-device.device in
    let next = filter_next (λ d. holds d c.args.digest.now (reverse c.args.events.now)) n (n + 1) refl in
    let is = c.holds.ensures in
    elim c.else-holds.branch [
      | else-holds-via-then-holds+else-is_err w ↦
          (let ok : w.push.result ≡ w.push.result = refl in grind (arith, next, is, w.push.ensures, w.is_err.ensures, w.if-is_err.false, w.if-holds.true, w.found-is, c.loop-device.invariant))
      | else-holds-via-else-holds w ↦
          ap (λ v. v.items) w.found-is ∙ c.loop-device.invariant ∙ sym (append-nil _) ∙ ap (λ b. filter (λ d. holds d c.args.digest.now (reverse c.args.events.now)) (numbers_from 0 n) ++ cond b (n ∷ []) []) (sym w.if-holds.false ∙ is) ∙ sym next
    ]
