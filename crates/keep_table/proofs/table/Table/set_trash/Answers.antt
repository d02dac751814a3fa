use Rattle.keep_table.proofs.Orderly.{collections-map}
use Rattle.keep_table.proofs.table.Table.set_trash.Goals as goal

pub invariant_of-self : goal.invariant_of-self
invariant_of-self c =
    rw c.set_times.ensures
    (c.self.invariant.0, collections-map c.self.inside.numbers c.args.collection _ _ c.self.inside.collections c.self.invariant.1, c.self.invariant.2)
