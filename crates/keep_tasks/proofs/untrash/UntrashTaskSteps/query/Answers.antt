use Rattle.keep_event.specs.declared.device.DeviceQuery.TheVariants as Q
use Rattle.keep_history.specs.Tasks.{on_device, by_all, no_end, untrashed}
use Rattle.keep_tasks.proofs.Walking.{walk-asks}
use Rattle.keep_tasks.proofs.untrash.UntrashTaskSteps.query.Goals as goal

pub returns-clause-named : goal.returns-clause-named
returns-clause-named c = λ next answers open_ h. walk-asks (Q.Untrash h.digest) (on_device no_end) (by_all untrashed) _ next answers h.walks
