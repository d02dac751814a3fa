use Rattle.keep_plan.proofs.Items.{pull-is}
use Rattle.keep_plan.proofs.laws.pull_items_fill_gaps.Goals as goal

pub returns : goal.returns
returns c = pull-is
