use Rattle.keep_wire.specs.Replies.{response_grammar, response_of}
use Rattle.keep_wire.proofs.ResponseLines.{responses_lined}
use Rattle.keep_wire.proofs.There.{something_next}
use Rattle.keep_wire.proofs.Whole.{next_response_determined}
use Rattle.keep_wire.proofs.laws.responses_determined.Goals as goal

pub returns-clause-next : goal.returns-clause-next
returns-clause-next c = next_response_determined

pub returns-clause-next_there : goal.returns-clause-next_there
returns-clause-next_there c = something_next response_grammar responses_lined response_of
