use Rattle.std.proofs.Common.{rules, ◌+◌, ℕ, ◌≤◌, sym, subst, ◌∙◌}
use Rattle.keep_spec.specs.Causes.{Rose}
use Rattle.keep_event.proofs.Plans.{sum-rises, planned-call, passed-call}
use Rattle.keep_event.proofs.failing.FailingPortPort.ask.Goals as goal

pub returns-then-is_failing-clause-failed : goal.returns-then-is_failing-clause-failed
returns-then-is_failing-clause-failed g c =
    let before = g.P.Port.faults c.args.self.now.port in
    let P : ℕ → Type 0 = λ n. Rose (before + c.args.self.now.faults) n × (before + c.args.self.now.faults ≤ n) in
    subst P (search rules) (sum-rises before c.args.self.now.faults c.is_failing.new.self.faults c.is_failing.ensures.never_falls (search rules))

pub returns-then-is_failing-clause-planned : goal.returns-then-is_failing-clause-planned
returns-then-is_failing-clause-planned g c =
    (g.P.Port.faults c.args.self.now.port, (search rules, planned-call _ _ (sym c.is_failing.ensures.listed ∙ c.if-is_failing.true)))

pub returns-clause-planned : goal.returns-clause-planned
returns-clause-planned g c =
    (g.P.Port.faults c.ask.new.self, (search rules, passed-call _ _ _ c.ask.result (sym c.is_failing.ensures.listed ∙ c.if-is_failing.false) (search rules)))
