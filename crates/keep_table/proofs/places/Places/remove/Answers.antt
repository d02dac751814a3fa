use Rattle.keep_table.proofs.Due.{kept-removed}
use Rattle.keep_table.proofs.Triples.{at-place}
use Rattle.keep_table.proofs.places.Places.remove.Goals as goal

pub returns : goal.returns
returns c = λ n u v.
    rw (← c.self.view_is, c.remove.ensures.updates.0 (n, u, v))
    (kept-removed _ _ _ (at-place c.args.number c.args.version c.args.revision n u v))
