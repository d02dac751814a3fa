use Rattle.keep_rounds.proofs.Theorem.{runs-are-safe}
use Rattle.keep_rounds.proofs.runs_are_safe.Goals as goal

pub returns : goal.returns
returns c = runs-are-safe
