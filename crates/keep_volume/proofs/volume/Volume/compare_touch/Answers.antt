use Rattle.std.proofs.Common.{rules, sym, ◌∙◌, ap, arith}
use Rattle.keep_event.specs.Device.{stays}
use Rattle.keep_event.specs.declared.device.DeviceAnswer.TheVariants.{ReadOnly, Absent, Touched}
use Rattle.keep_volume.specs.Calls.{state_with}
use Rattle.keep_volume.proofs.Lines.{stays-line, over-line, over-over, told-all, told-map}
use Rattle.keep_volume.proofs.Machine.{compare-read-only, compare-absent, compare-other, compare-same, touch_at, other-not-fault}
use Rattle.keep_volume.proofs.volume.Volume.compare_touch.Goals as goal

pub returns-then-self-clause-line : goal.returns-then-self-clause-line
returns-then-self-clause-line g c =
    let d = c.args.self.now in
    stays-line _ d ReadOnly (told-all d.held (λ es. compare-read-only d.rules c.args.block.now c.args.reading (state_with d es) (search rules))) (λ e. cc e)

pub returns-in-Ok-None-clause-line : goal.returns-in-Ok-None-clause-line
returns-in-Ok-None-clause-line g c =
    let d = c.args.self.now in
    over-line _ d c.stored.new.self (λ es. es) c.stored.ensures.unchanged c.stored.ensures.cause.never_falls Absent
    (told-map d.held (λ es k. compare-absent d.rules c.args.block.now c.args.reading (state_with d es) (search rules) (search rules)) c.in-Ok-None.ensures.value) (λ e. cc e)

pub returns-then-ne-clause-line : goal.returns-then-ne-clause-line
returns-then-ne-clause-line g c =
    let d = c.args.self.now in
    over-line _ d c.stored.new.self (λ es. es) c.stored.ensures.unchanged c.stored.ensures.cause.never_falls c.other_bytes.result
    (told-map d.held (λ es k. compare-other d.rules c.args.block.now c.args.reading (state_with d es) (search rules) c.in-Ok-Some.stored (search rules) (search rules) ∙ ap (λ v. stays v (state_with d es)) (search rules)) c.in-Ok-Some.ensures.value) (λ e. absurd (other-not-fault _ _ (sym c.other_bytes.ensures.answer ∙ e)))

pub returns-in-Ok-clause-line : goal.returns-in-Ok-clause-line
returns-in-Ok-clause-line g c =
    let d = c.args.self.now in
    let m = c.renewed_time-mtime.result in
    let n = c.replica-name.result in
    let h = touch_at n m in
    over-line _ d c.renew.new.self h (over-over d c.stored.new.self c.renew.new.self h c.stored.ensures.unchanged c.in-Ok.ensures.0) (omega (arith, c.stored.ensures.cause.never_falls, c.in-Ok.ensures.1)) (Touched m)
    (told-map d.held (λ es k. compare-same d.rules c.args.block.now c.args.reading (state_with d es) c.in-Ok-Some.stored n m (search rules) (search rules) c.renewed_time-mtime.ensures (search rules) (search rules)) c.in-Ok-Some.ensures.value)
    (λ e. cc e)
