use Rattle.keep_event.specs.declared.device.DeviceQuery.TheVariants as Q
use Rattle.std.proofs.Common.{Some}
use Rattle.keep_history.specs.Tasks.{on_device, by_all, touch_end, not_touched}
use Rattle.keep_tasks.proofs.Walking.{walk-asks}
use Rattle.keep_tasks.proofs.touch.TouchTaskSteps.query.Goals as goal

pub returns-clause-named : goal.returns-clause-named
returns-clause-named c = λ next answers open_ h. walk-asks (Q.Touch h.digest (Some h.id)) (on_device (touch_end h.config h.token h.digest h.text)) (by_all not_touched) _ next answers h.walks
