use Rattle.keep_rounds.proofs.Alone.{rounds-in-order}
use Rattle.keep_rounds.proofs.rounds_are_in_order.Goals as goal

pub returns : goal.returns
returns c = rounds-in-order
