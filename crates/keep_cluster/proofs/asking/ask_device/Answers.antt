use Rattle.std.proofs.Common.{rules, sym, ◌∙◌}
use Rattle.std.proofs.lemmas.List.{get_or_default}
use Rattle.keep_cluster.proofs.asking.ask_device.Goals as goal

pub returns : goal.returns
returns g c = record {
  before = c.index_mut.result.now;
  after = c.step.new.self;
  found = λ d. get_or_default c.args.volumes.now.items c.args.device d c.index_mut.result.now c.requires.device ∙ sym c.index_mut.ensures.value;
  changed = search rules;
  line = c.step.ensures.line;
  may_fault = c.step.ensures.may_fault;
  listed = c.step.ensures.listed;
}
