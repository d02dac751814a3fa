use Rattle.keep_rounds.proofs.Theorem.{runs-are-allowed}
use Rattle.keep_rounds.proofs.runs_are_allowed.Goals as goal

pub returns : goal.returns
returns c = runs-are-allowed
