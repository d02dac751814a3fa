use Rattle.std.proofs.Common.{rules, sym, ◌∙◌, ap, ◌≡◌, arith}
use Rattle.keep_event.specs.declared.device.DeviceAnswer.TheVariants.{ReadOnly, Collision, Written}
use Rattle.std.proofs.Common.{subst}
use Rattle.keep_event.specs.Device as machine
use Rattle.keep_volume.specs.Calls.{state_with, IsLine, VolumeView}
use Rattle.keep_volume.proofs.Lines.{stays-line, over-line, after-line, over-over, told-all, told-map}
use Rattle.keep_volume.proofs.Machine.{write-read-only, write-absent, write-collision, write-corrupt, write-same, touch_at}
use Rattle.keep_volume.proofs.volume.Volume.write.Goals as goal

pub returns-then-self-clause-line : goal.returns-then-self-clause-line
returns-then-self-clause-line g c =
    let d = c.args.self.now in
    stays-line _ d ReadOnly (told-all d.held (λ es. write-read-only d.rules c.args.block.now c.args.reading (state_with d es) (search rules))) (λ e. cc e)

pub returns-then-eq-clause-line : goal.returns-then-eq-clause-line
returns-then-eq-clause-line g c =
    let d = c.args.self.now in
    over-line _ d c.stored.new.self (λ es. es) c.stored.ensures.unchanged c.stored.ensures.cause.never_falls Collision
    (told-map d.held (λ es k. write-collision d.rules c.args.block.now c.args.reading (state_with d es) (search rules) c.in-Ok-Some.stored (search rules) (search rules) (search rules)) c.in-Ok-Some.ensures.value) (λ e. cc e)

pub returns-in-Ok-clause-line : goal.returns-in-Ok-clause-line
returns-in-Ok-clause-line g c =
    let d = c.args.self.now in
    let m = c.renewed_time-mtime.result in
    let n = c.replica-name.result in
    let h = touch_at n m in
    over-line _ d c.renew.new.self h (over-over d c.stored.new.self c.renew.new.self h c.stored.ensures.unchanged c.in-Ok.ensures.0) (omega (arith, c.stored.ensures.cause.never_falls, c.in-Ok.ensures.1)) (Written m)
    (told-map d.held (λ es k. write-same d.rules c.args.block.now c.args.reading (state_with d es) c.in-Ok-Some.stored n m (search rules) (search rules) c.renewed_time-mtime.ensures (search rules) (search rules)) c.in-Ok-Some.ensures.value)
    (λ e. cc e)

pub returns-in-Ok-None-clause-line : goal.returns-in-Ok-None-clause-line
returns-in-Ok-None-clause-line g c =
    let d = c.args.self.now in
    let same_rules : c.stored.new.self.rules ≡ d.rules = ap (λ (d : VolumeView). d.rules) c.stored.ensures.unchanged in
    after-line _ (machine.placed d.rules c.args.block.now c.args.reading) d c.stored.new.self c.place.new.self c.place.result c.stored.ensures.unchanged c.stored.ensures.cause.never_falls
    (subst (λ r. IsLine (machine.placed r c.args.block.now c.args.reading) c.stored.new.self c.place.new.self c.place.result) same_rules c.place.ensures.line)
    (told-map d.held (λ es k. write-absent d.rules c.args.block.now c.args.reading (state_with d es) (search rules) (search rules)) c.in-Ok-None.ensures.value)

pub returns-then-ne-clause-line : goal.returns-then-ne-clause-line
returns-then-ne-clause-line g c =
    let d = c.args.self.now in
    let m = c.renewed_time-mtime.result in
    let same_rules : c.stored.new.self.rules ≡ d.rules = ap (λ (d : VolumeView). d.rules) c.stored.ensures.unchanged in
    after-line _ (machine.placed d.rules c.args.block.now m) d c.stored.new.self c.place-then-ne.new.self c.place-then-ne.result c.stored.ensures.unchanged c.stored.ensures.cause.never_falls
    (subst (λ r. IsLine (machine.placed r c.args.block.now m) c.stored.new.self c.place-then-ne.new.self c.place-then-ne.result) same_rules c.place-then-ne.ensures.line)
    (told-map d.held (λ es k. write-corrupt d.rules c.args.block.now c.args.reading (state_with d es) (search rules) c.in-Ok-Some.stored (search rules) (search rules) (search rules) ∙ ap (λ v. machine.placed d.rules c.args.block.now v (state_with d es)) (sym c.renewed_time-mtime.ensures)) c.in-Ok-Some.ensures.value)
