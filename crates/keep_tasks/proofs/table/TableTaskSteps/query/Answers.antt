use Rattle.keep_tasks.proofs.Tables.{table-asks}
use Rattle.keep_tasks.proofs.table.TableTaskSteps.query.Goals as goal

pub returns-clause-named : goal.returns-clause-named
returns-clause-named c = λ next answers open_ h. table-asks c.args.self.now.query c.args.self.now.ends next answers h
