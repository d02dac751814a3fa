use Rattle.std.proofs.Common.{◌≡◌, ◌+◌, ◌-◌, ◌∙◌, ap, drop, length, arith}
use Rattle.std.proofs.lemmas.List.{take_all, length-drop}
use Rattle.keep_normal.specs.Normal.{cut_last}
use Rattle.keep_normal.proofs.LastSlash.{cut_last-found}
use Rattle.keep_files.proofs.path.cut_last.Goals as goal

pub returns-then-path-at-eq47 : goal.returns-then-path-at-eq47
returns-then-path-at-eq47 c =
    let path = c.args.path.now in
    let at = c.loop-at.at in
    let next : at - 1 + 1 ≡ at = omega (arith, c.loop-at-test.true) in
    cut_last-found (at - 1) path _ (omega (arith, c.loop-at-test.true, c.loop-at.auto.at)) c.if-path-at-eq47.true
    (take_all (length path - (at - 1 + 1)) (drop (at - 1 + 1) path) (omega (arith, length-drop (at - 1 + 1) path)))
    (ap (λ n. cut_last (drop n path)) next ∙ c.loop-at.invariant)
