use Rattle.keep_lists.proofs.Shorter.{cut-off}
use Rattle.keep_lists.proofs.laws.cut_indexes_are_cut_off.Goals as goal

pub returns : goal.returns
returns c = cut-off
