use Rattle.keep_table.proofs.Due.{kept-added}
use Rattle.keep_table.proofs.Triples.{at-place}
use Rattle.keep_table.proofs.places.Places.add.Goals as goal

pub returns-clause-added : goal.returns-clause-added
returns-clause-added c = λ n u v.
    rw (← c.self.view_is, c.in-Ok.ensures.updates.0 (n, u, v))
    (kept-added _ _ _ (at-place c.args.number c.args.version c.args.revision n u v))
