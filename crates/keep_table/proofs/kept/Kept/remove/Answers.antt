use Rattle.keep_table.proofs.Due.{at-kept, kept-removed}
use Rattle.keep_table.proofs.kept.Kept.remove.Goals as goal

pub returns : goal.returns
returns c = λ n t v.
    rw (← c.self.view_is, c.in-Kept.is, c.remove.ensures.updates.0 (n, t, v))
    (kept-removed _ _ _ (at-kept c.args.number c.in-Kept.until c.args.revision n t v))
