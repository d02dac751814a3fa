use Rattle.std.proofs.Common.{refl, ◌∙◌, ap, ◌++◌}
use Rattle.keep_running.specs.Running.{sure}
use Rattle.keep_run.specs.Asked.{StopsTurns, device_of, line_at}
use Rattle.keep_run.proofs.Facts.{on_err}
use Rattle.keep_run.proofs.Queries.{turn-spent, turn-refused, turn-part, turn-ends, turn-asks}
use Rattle.keep_run.proofs.asking.ask_once.Goals as goal

pub returns-in-Err-Spent-clause-done : goal.returns-in-Err-Spent-clause-done
returns-in-Err-Spent-clause-done g c = λ config w s told standing.
    let old = c.args.open_task.now in
    let asked = rw c.in-Err-Spent.field-0-is at c.in-Err-Spent.ensures.asked in
    turn-spent config c.args.cluster.now c.step.new.port w s old (record { task = c.step.new.self; actor = old.actor }) told standing (sure old.task) c.in-Err-Spent.field-0-0 c.args.name.now c.args.out.now.items asked c.in-Err-Spent.ensures.unchanged refl

pub returns-in-Err-NoMemory-clause-stopped : goal.returns-in-Err-NoMemory-clause-stopped
returns-in-Err-NoMemory-clause-stopped g c = λ config w s told standing.
    let old = c.args.open_task.now in
    let asked = rw c.in-Err-NoMemory.field-0-is at c.in-Err-NoMemory.ensures.asked in
    turn-refused config c.args.cluster.now c.step.new.port w s old old told standing (sure old.task) asked

pub returns-in_err-push_line-clause-stopped : goal.returns-in_err-push_line-clause-stopped
returns-in_err-push_line-clause-stopped g c =
    let old = c.args.open_task.now in
    on_err {P = StopsTurns 1 c.args.cluster.now c.step.new.port old} _ (λ config w s told standing.
    turn-part config c.args.cluster.now c.step.new.port w s old old told standing (sure old.task) c.in-Ok.step c.in-Ok.ensures.asked)

pub returns-in-Some-clause-done : goal.returns-in-Some-clause-done
returns-in-Some-clause-done g c = λ config w s told standing.
    let old = c.args.open_task.now in
    let printed = c.in_ok-push_line.ensures ∙ ap (λ d. c.args.out.now.items ++ line_at c.args.name.now d c.in-Ok.step.reply.answer) (c.device_of-device.ensures ∙ ap device_of c.query.ensures.query) in
    turn-ends config c.args.cluster.now c.step.new.port w s old (record { task = c.step.new.self; actor = old.actor }) told standing (sure old.task) c.in-Ok.step c.in-Ok.ensures.asked c.in-Some.outcome c.args.name.now c.args.out.now.items c.push_line.new.out.items c.in-Ok.ensures.taken c.in-Some.is printed

pub returns-clause-done : goal.returns-clause-done
returns-clause-done g c = λ config w s told standing.
    let old = c.args.open_task.now in
    let printed = c.in_ok-push_line.ensures ∙ ap (λ d. c.args.out.now.items ++ line_at c.args.name.now d c.in-Ok.step.reply.answer) (c.device_of-device.ensures ∙ ap device_of c.query.ensures.query) in
    turn-asks config c.args.cluster.now c.step.new.port w s old (record { task = c.step.new.self; actor = old.actor }) told standing (sure old.task) c.in-Ok.step c.in-Ok.ensures.asked c.args.name.now c.args.out.now.items c.push_line.new.out.items c.in-Ok.ensures.taken c.in-None.is refl printed
