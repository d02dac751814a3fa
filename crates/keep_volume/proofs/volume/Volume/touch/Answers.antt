use Rattle.std.proofs.Common.{rules, sym, ◌∙◌}
use Rattle.keep_event.specs.declared.device.DeviceAnswer.TheVariants.{ReadOnly, Absent, Touched}
use Rattle.keep_event.specs.Store as store
use Rattle.keep_event.specs.Store.{find}
use Rattle.keep_volume.specs.Calls.{state_with}
use Rattle.keep_volume.proofs.Lines.{stays-line, over-line, told-all, told-map}
use Rattle.keep_volume.proofs.Machine.{touch-read-only, touch-absent, touch-set, none-there}
use Rattle.keep_volume.proofs.volume.Volume.touch.Goals as goal

pub returns-then-self-clause-line : goal.returns-then-self-clause-line
returns-then-self-clause-line g c =
    let d = c.args.self.now in
    stays-line _ d ReadOnly (told-all d.held (λ es. touch-read-only d.rules c.args.digest.now c.args.reading (state_with d es) (search rules))) (λ e. cc e)

pub returns-in_default-clause-line : goal.returns-in_default-clause-line
returns-in_default-clause-line g c =
    let d = c.args.self.now in
    stays-line _ d Absent (told-map d.held (λ es k. touch-absent d.rules c.args.digest.now c.args.reading (state_with d es) (search rules) (none-there _ (search rules))) c.known.ensures) (λ e. cc e)

pub returns-in-Ok-clause-line : goal.returns-in-Ok-clause-line
returns-in-Ok-clause-line g c =
    let d = c.args.self.now in
    let m = c.renewed_time-mtime.result in
    over-line _ d c.renew.new.self (λ es. store.touch c.replica-name.result m es (find c.replica-name.result es)) c.in-Ok.ensures.0 c.in-Ok.ensures.1 (Touched m)
    (told-map d.held (λ es k. touch-set d.rules c.args.digest.now c.args.reading (state_with d es) c.in-Some.known c.replica-name.result m (search rules) c.replica-name.ensures c.renewed_time-mtime.ensures (sym c.in-Some.is ∙ k)) c.known.ensures)
    (λ e. cc e)
