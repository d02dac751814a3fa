use Rattle.std.proofs.Common.{◌≡◌, ◌-◌, length, take, drop, arith, length-drop}
use Rattle.std.proofs.lemmas.List.{take_all}
use Rattle.keep_base.proofs.Interrupted.{newlines-plain}
use Rattle.keep_base.proofs.Plain.{IsPlain-from_none}
use Rattle.keep_base.proofs.lines.find.Goals as goal

pub returns-clause-memory : goal.returns-clause-memory
returns-clause-memory g c = λ _.
    let read = c.deref.result.now in
    let start = c.args.start.now in
    let whole : take (length read - start) (drop start read) ≡ drop start read = take_all _ _ (omega (arith, length-drop start read)) in
    rw (← c.deref.ensures.value, ← whole) (newlines-plain _ (IsPlain-from_none _ _ _ c.newline_from.ensures c.in_default.not-Some))
