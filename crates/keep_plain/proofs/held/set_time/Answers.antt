use Rattle.std.proofs.Common.{rules, sym}
use Rattle.keep_event.specs.Store.{with_time}
use Rattle.keep_plain.proofs.Cuts.{change-at}
use Rattle.keep_plain.proofs.held.set_time.Goals as goal

pub returns-in-Ok : goal.returns-in-Ok
returns-in-Ok c = sym (change-at c.args.name.now c.args.held.now.items c.in-Ok.i (search rules) (with_time c.args.mtime) c.index_mut.result.now (search rules))
