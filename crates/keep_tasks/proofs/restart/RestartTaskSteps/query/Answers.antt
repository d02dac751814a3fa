use Rattle.std.proofs.Common.{[], ap, sym, ◌∙◌}
use Rattle.std.proofs.lemmas.List.{append-nil}
use Rattle.keep_tasks.proofs.restart.RestartTaskSteps.query.Goals as goal

pub returns-clause-named : goal.returns-clause-named
returns-clause-named c = λ next answers open_ h. ap next (sym (append-nil answers)) ∙ h.goes []
