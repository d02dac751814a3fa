use Rattle.std.proofs.Common.{refl}
use Rattle.keep_tasks.proofs.Tables.{table-begins}
use Rattle.keep_tasks.proofs.table.TableTask.open.Goals as goal

pub returns : goal.returns
returns c = record { opened = (refl, (table-begins c.args.config.now c.args.query c.in_ok-ends.ends c.in_ok-ends.ensures, c.requires.askable)) }
