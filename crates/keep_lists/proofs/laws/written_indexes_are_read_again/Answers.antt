use Rattle.keep_lists.proofs.Written.{index-again}
use Rattle.keep_lists.proofs.laws.written_indexes_are_read_again.Goals as goal

pub returns : goal.returns
returns c = index-again
