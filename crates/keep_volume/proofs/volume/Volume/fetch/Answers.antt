use Rattle.std.proofs.Common.{rules, ◌∙◌, ap}
use Rattle.keep_event.specs.declared.device.DeviceAnswer.TheVariants.{Block, Absent, Corrupt}
use Rattle.keep_event.specs.Device.{stays}
use Rattle.keep_volume.specs.Calls.{state_with}
use Rattle.keep_volume.proofs.Lines.{over-line, told-map}
use Rattle.keep_volume.proofs.Machine.{fetch-absent, fetch-corrupt, fetch-block}
use Rattle.keep_volume.proofs.volume.Volume.fetch.Goals as goal

pub returns-in-Ok-None-clause-line : goal.returns-in-Ok-None-clause-line
returns-in-Ok-None-clause-line g c =
    let d = c.args.self.now in
    over-line _ d c.stored.new.self (λ es. es) c.stored.ensures.unchanged c.stored.ensures.cause.never_falls Absent
    (told-map d.held (λ es k. fetch-absent c.args.digest.now (state_with d es) (search rules)) c.in-Ok-None.ensures.value) (λ e. cc e)

pub returns-then-ne-clause-line : goal.returns-then-ne-clause-line
returns-then-ne-clause-line g c =
    let d = c.args.self.now in
    over-line _ d c.stored.new.self (λ es. es) c.stored.ensures.unchanged c.stored.ensures.cause.never_falls (Corrupt c.digest_of-found.result)
    (told-map d.held (λ es k. fetch-corrupt c.args.digest.now (state_with d es) c.in-Ok-Some.stored (search rules) (search rules) ∙ ap (λ v. stays (Corrupt v) (state_with d es)) (search rules)) c.in-Ok-Some.ensures.value) (λ e. cc e)

pub returns-clause-line : goal.returns-clause-line
returns-clause-line g c =
    let d = c.args.self.now in
    over-line _ d c.stored.new.self (λ es. es) c.stored.ensures.unchanged c.stored.ensures.cause.never_falls (Block c.in-Ok-Some.stored.bytes)
    (told-map d.held (λ es k. fetch-block c.args.digest.now (state_with d es) c.in-Ok-Some.stored (search rules) (search rules)) c.in-Ok-Some.ensures.value) (λ e. cc e)
