use Rattle.keep_table.proofs.Due.{kept-from, kept-upto}
use Rattle.keep_table.proofs.kept.Kept.first_due.Goals as goal

pub returns-in-None-clause-none : goal.returns-in-None-clause-none
returns-in-None-clause-none c = λ t v lt.
    let h = c.range-due.ensures.in_range tt in
    rw (← c.self.view_is) (h.5 c.in-None.ensures.steps.0 (c.args.number, t, v) (kept-from c.args.number t v, kept-upto c.args.number t v c.args.reading lt))
