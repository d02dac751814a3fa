use Rattle.keep_plan.proofs.Items.{item-is}
use Rattle.keep_plan.proofs.laws.trash_items_are_of_others.Goals as goal

pub returns : goal.returns
returns c = item-is
