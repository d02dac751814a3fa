use Rattle.keep_run.proofs.Commands.{step-if, step-unless, finish-if, finish-unless}
use Rattle.keep_run.proofs.stage.do_command.Goals as goal

pub returns-in-Step-clause-done : goal.returns-in-Step-clause-done
returns-in-Step-clause-done g c = rw c.in-Step.is (step-if c.args.config.now c.args.stage.now c.ask_named.new.stage c.in-Step.name c.in-Step.reading c.args.out.now.items c.ask_named.new.out.items c.ask_named.result c.ask_named.ensures.done)

pub returns-in-Step-clause-stopped : goal.returns-in-Step-clause-stopped
returns-in-Step-clause-stopped g c = rw c.in-Step.is (step-unless c.args.config.now c.args.stage.now c.ask_named.new.stage c.in-Step.name c.in-Step.reading c.ask_named.result c.ask_named.ensures.stopped)

pub returns-in-Finish-clause-done : goal.returns-in-Finish-clause-done
returns-in-Finish-clause-done g c = rw c.in-Finish.is (finish-if c.args.config.now c.args.stage.now c.ask_named-in-Finish.new.stage c.in-Finish.name c.in-Finish.reading c.args.out.now.items c.ask_named-in-Finish.new.out.items c.ask_named-in-Finish.result c.ask_named-in-Finish.ensures.done)

pub returns-in-Finish-clause-stopped : goal.returns-in-Finish-clause-stopped
returns-in-Finish-clause-stopped g c = rw c.in-Finish.is (finish-unless c.args.config.now c.args.stage.now c.ask_named-in-Finish.new.stage c.in-Finish.name c.in-Finish.reading c.ask_named-in-Finish.result c.ask_named-in-Finish.ensures.stopped)
