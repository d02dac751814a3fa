use Rattle.keep_table.proofs.Due.{at-kept, kept-added}
use Rattle.keep_table.proofs.kept.Kept.add.Goals as goal

pub returns : goal.returns
returns c = λ n t v.
    rw (← c.self.view_is, c.in-Kept.is, c.in-Ok.ensures.updates.0 (n, t, v))
    (kept-added _ _ _ (at-kept c.args.number c.in-Kept.until c.args.revision n t v))
