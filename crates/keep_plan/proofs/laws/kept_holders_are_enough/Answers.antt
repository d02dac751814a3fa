use Rattle.keep_plan.proofs.Items.{kept-enough}
use Rattle.keep_plan.proofs.laws.kept_holders_are_enough.Goals as goal

pub returns : goal.returns
returns c = kept-enough
