use Rattle.keep_event.specs.declared.device.DeviceQuery.TheVariants as Q
use Rattle.keep_history.specs.Tasks.{on_device, by_all, fetch_end, not_fetched}
use Rattle.keep_tasks.proofs.Walking.{walk-asks}
use Rattle.keep_tasks.proofs.get.GetTaskSteps.query.Goals as goal

pub returns-clause-named : goal.returns-clause-named
returns-clause-named c = λ next answers open_ h. walk-asks (Q.Fetch h.digest) (on_device fetch_end) (by_all not_fetched) _ next answers h.walks
