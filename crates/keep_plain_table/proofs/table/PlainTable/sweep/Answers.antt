use Rattle.keep_event.specs.Table.{outlasts}
use Rattle.keep_plain_table.proofs.Versions.{versions-filtered}
use Rattle.keep_plain_table.proofs.table.PlainTable.sweep.Goals as goal

pub invariant_of-self : goal.invariant_of-self
invariant_of-self c = rw c.drop_swept.ensures (versions-filtered c.self.inside.revisions (outlasts c.args.reading c.deref-4.result.now) c.self.inside.records.items c.self.invariant)
