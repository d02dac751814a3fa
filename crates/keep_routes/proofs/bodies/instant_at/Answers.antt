use Rattle.std.proofs.Common.{IfSome, subst, sym, ◌∙◌}
use Rattle.keep_spec.specs.Times.{IsReading}
use Rattle.keep_routes.proofs.Times.{instant_below}
use Rattle.keep_routes.proofs.bodies.instant_at.Goals as goal

pub returns-in-Some-clause-reading : goal.returns-in-Some-clause-reading
returns-in-Some-clause-reading c = subst (λ o. IfSome o IsReading) (sym (c.ok.ensures.value ∙ c.read_instant.ensures)) (instant_below _)
