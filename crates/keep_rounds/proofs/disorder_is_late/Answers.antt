use Rattle.keep_rounds.proofs.Late.{disorder-is-late}
use Rattle.keep_rounds.proofs.disorder_is_late.Goals as goal

pub returns : goal.returns
returns c = disorder-is-late
