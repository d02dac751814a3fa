use Rattle.std.proofs.Common.{rules, sym, ◌∙◌, ap, subst, ◌≡◌, ◌≤◌}
use Rattle.keep_event.specs.Store as store
use Rattle.keep_event.specs.Device.{with_held}
use Rattle.keep_event.specs.declared.device.DeviceAnswer.TheVariants.{ReadOnly, Idle, Emptied}
use Rattle.keep_volume.specs.Calls.{state_with, over, VolumeView}
use Rattle.keep_volume.proofs.Lines.{stays-line, over-line, told-all, told-map}
use Rattle.keep_volume.proofs.Machine.{empty-read-only, empty-idle, empty-done}
use Rattle.keep_volume.proofs.volume.Volume.empty_next.Goals as goal

pub returns-then-self-clause-line : goal.returns-then-self-clause-line
returns-then-self-clause-line g c =
    let d = c.args.self.now in
    stays-line _ d ReadOnly (told-all d.held (λ es. empty-read-only d.rules c.args.reading (state_with d es) (search rules))) (λ e. cc e)

pub returns-in_default-clause-line : goal.returns-in_default-clause-line
returns-in_default-clause-line g c =
    let d = c.args.self.now in
    rw c.first_due.ensures.unchanged (stays-line _ d Idle (told-map d.held (λ es k. empty-idle d.rules c.args.reading (state_with d es) (search rules) (search rules)) c.first_due.ensures.value) (λ e. cc e))

pub returns-in-Ok-clause-line : goal.returns-in-Ok-clause-line
returns-in-Ok-clause-line g c =
    let d = c.args.self.now in
    let n = c.in-Some.name in
    let is : c.remove.new.self ≡ over d (store.without n) c.remove.new.self.faults = c.in-Ok.ensures.0 ∙ ap (λ d. over d (store.without n) c.remove.new.self.faults) c.first_due.ensures.unchanged in
    over-line _ d c.remove.new.self (store.without n) is (subst (λ (v : VolumeView). v.faults ≤ c.remove.new.self.faults) c.first_due.ensures.unchanged c.in-Ok.ensures.1) (Emptied n.digest c.unwrap_or-deadline.result)
    (told-map d.held (λ es k. empty-done d.rules c.args.reading (state_with d es) (search rules) n (sym c.in-Some.is ∙ k) ∙ ap (λ v. record { answer = Emptied n.digest v; state = with_held (store.without n es) (state_with d es) }) (search rules)) c.first_due.ensures.value)
    (λ e. cc e)
