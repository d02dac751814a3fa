use Rattle.keep_event.specs.Table.{outlasts}
use Rattle.keep_table.proofs.Few.{few-filter}
use Rattle.keep_table.proofs.Orderly.{orderly-filter, outlasts-together, collections-filter}
use Rattle.keep_table.proofs.table.Table.sweep.Goals as goal

pub invariant_of-self : goal.invariant_of-self
invariant_of-self c =
    rw (c.drop_swept.ensures, c.drop_gone-collections.ensures.rest) (
      orderly-filter c.self.inside.numbers c.self.inside.revisions (outlasts c.args.reading c.self.inside.collections) c.self.inside.records (outlasts-together c.args.reading c.self.inside.collections) c.self.invariant.0,
      collections-filter c.self.inside.numbers _ c.self.inside.collections c.self.invariant.1,
      few-filter c.self.inside.rules.versions (outlasts c.args.reading c.self.inside.collections) c.self.inside.records c.self.invariant.2,
    )
