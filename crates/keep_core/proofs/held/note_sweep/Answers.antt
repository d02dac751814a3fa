use Rattle.std.proofs.Common.{◌∙◌, sym}
use Rattle.keep_core.proofs.Sweeps.{taken-out, put-in}
use Rattle.keep_core.proofs.held.note_sweep.Goals as goal

pub loop-sweeps-preserved : goal.loop-sweeps-preserved
loop-sweeps-preserved c = λ t off. taken-out c.args.reading t c.pop_first.result c.loop-sweeps.sweeps.entries c.pop_first.new.self.entries (sym c.begins_by.ensures ∙ c.loop-sweeps-test.true) off c.pop_first.ensures.removal c.pop_first.ensures.unchanged ∙ c.loop-sweeps.invariant t off

pub returns-in-Ok : goal.returns-in-Ok
returns-in-Ok c = λ t. put-in c.args.reading c.args.events t c.loop-sweeps.sweeps.entries c.args.sweeps.now.entries c.insert.new.self.entries (sym c.begins_by.ensures ∙ c.loop-sweeps-test.false) c.in-Ok.ensures.entries c.loop-sweeps.invariant
