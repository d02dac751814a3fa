use Rattle.keep_steps.specs.Steps.{answered}
use Rattle.keep_workers.proofs.Pulls.{pull-taken}
use Rattle.keep_workers.proofs.pull.PullWorkerSteps.take.Goals as goal

pub returns-clause-taken : goal.returns-clause-taken
returns-clause-taken c = λ next answers h. pull-taken c.args.self.now _ (answered c.args.reply.now) c.in_ok-end.end c.in_ok-end.ensures.stays c.in_ok-end.ensures.moved next answers h

pub returns-clause-askable : goal.returns-clause-askable
returns-clause-askable c = λ devices h.
    let m = c.in_ok-end.ensures.askable devices h in
    record { query = m.query; sources = m.sources; own = m.own; known = m.known }
