use Rattle.std.proofs.Common.{refl}
use Rattle.keep_event.specs.Table as machine
use Rattle.keep_table.proofs.table.Table.begin_round.Goals as goal

pub returns : goal.returns
unfolding machine.begin_round
returns c = rw (← c.self.view_is) (record { answered = refl; changed = refl; rules = refl })
