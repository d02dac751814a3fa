use Rattle.keep_safety.proofs.Theorem.{histories-are-safe}
use Rattle.keep_safety.proofs.laws.signatures_keep_blocks.Goals as goal

pub returns : goal.returns
returns c = histories-are-safe
