use Rattle.std.proofs.Common.{ap, sym, ◌∙◌}
use Rattle.keep_core.proofs.Sweeps.{first-above, first_number}
use Rattle.keep_core.proofs.held.last_sweep.Goals as goal

pub returns-in-Some : goal.returns-in-Some
returns-in-Some c = ap first_number (sym c.in-Some.ensures.steps ∙ c.range-later.ensures.between tt) ∙ first-above c.args.time c.args.sweeps.now.entries

pub returns-in-None : goal.returns-in-None
returns-in-None c = ap first_number (sym c.in-None.ensures.steps.0 ∙ c.range-later.ensures.between tt) ∙ first-above c.args.time c.args.sweeps.now.entries
