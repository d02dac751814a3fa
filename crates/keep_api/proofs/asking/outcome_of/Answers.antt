use Rattle.keep_history.specs.Tasks.{next, opened}
use Rattle.keep_api.specs.Sessions.{seen, serving}
use Rattle.keep_api.proofs.Routed.{opened-ended, opened-task, outcome-ended, outcome-finished}
use Rattle.keep_api.proofs.asking.outcome_of.Goals as goal

pub returns-in-Ok-Ended-clause-asked : goal.returns-in-Ok-Ended-clause-asked
returns-in-Ok-Ended-clause-asked g c = λ server.
    let config = c.args.config.now in
    let is = opened-ended config (opened config c.args.opening c.args.reading) c.in-Ok-Ended.outcome (rw c.in-Ok-Ended.field-0-is at c.in-Ok-Ended.ensures.opened) in
    outcome-ended (serving config server c.args.actor) c.args.reading c.args.opening (seen g.P.Port.told g.P.Port.world g.P.Port.stamp c.args.port.now) c.in-Ok-Ended.outcome is

pub returns-in-Ok-Task-clause-asked : goal.returns-in-Ok-Task-clause-asked
returns-in-Ok-Task-clause-asked g c = λ server.
    let config = c.args.config.now in
    let t = opened-task config (opened config c.args.opening c.args.reading) c.in-Ok-Task.task (rw c.in-Ok-Task.field-0-is at c.in-Ok-Task.ensures.opened) in
    outcome-finished (serving config server c.args.actor) c.args.reading c.args.opening (seen g.P.Port.told g.P.Port.world g.P.Port.stamp c.args.port.now) (seen g.P.Port.told g.P.Port.world g.P.Port.stamp c.finish.new.port) t.0 t.1.0 c.finish.result
    (c.finish.ensures.finished (next config t.0) t.1.1.1.0)
