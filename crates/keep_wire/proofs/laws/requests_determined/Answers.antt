use Rattle.keep_wire.proofs.Whole.{next_determined, whole_determined}
use Rattle.keep_wire.specs.Requests.{request_grammar, request_of}
use Rattle.keep_wire.proofs.RequestLines.{requests_lined}
use Rattle.keep_wire.proofs.There.{something_next, requests_there}
use Rattle.keep_wire.proofs.laws.requests_determined.Goals as goal

pub returns-clause-next : goal.returns-clause-next
returns-clause-next c = next_determined

pub returns-clause-whole : goal.returns-clause-whole
returns-clause-whole c = whole_determined

pub returns-clause-next_there : goal.returns-clause-next_there
returns-clause-next_there c = something_next request_grammar requests_lined request_of

pub returns-clause-whole_there : goal.returns-clause-whole_there
returns-clause-whole_there c = requests_there
