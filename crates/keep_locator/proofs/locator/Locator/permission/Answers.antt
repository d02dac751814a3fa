use Rattle.std.proofs.Common.{sym, ◌∙◌}
use Rattle.std.proofs.lemmas.Option.{cond_some}
use Rattle.keep_spec.specs.Locator.{is_permission_hint, permission_of}
use Rattle.keep_locator.proofs.HintText.{found_only, found_second}
use Rattle.keep_locator.proofs.locator.Locator.permission.Goals as goal

pub returns-then-is_some : goal.returns-then-is_some
returns-then-is_some c =
    let hint = c.in-Some.hint.now in
    let is = (cond_some (is_permission_hint hint) (permission_of hint) c.in-Some-read_permission.permission (sym c.in-Some-read_permission.ensures)).0 in
    found_second c.loop-hint.found c.args.self.now c.loop-hint.rest.now hint c.in-Some.after.now (sym c.is_some.ensures ∙ c.if-is_some.true) is c.in-Some.ensures.hints c.loop-hint.invariant

pub returns : goal.returns
returns c = found_only c.loop-hint.found c.args.self.now c.loop-hint.rest.now c.in_default.ensures.hints c.loop-hint.invariant
