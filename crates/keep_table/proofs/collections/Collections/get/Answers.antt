use Rattle.keep_event.specs.declared.table.Collection.{Collection}
use Rattle.keep_table.proofs.Keyed.{found}
use Rattle.keep_table.proofs.collections.Collections.get.Goals as goal

pub returns : goal.returns
returns c = rw (c.copied.ensures, c.get.ensures.value, ← c.self.view_is) (found (λ (x : Collection). x.number) c.args.number c.self.inside.held.entries c.self.invariant.by_number)
