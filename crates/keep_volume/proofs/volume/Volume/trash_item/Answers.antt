use Rattle.std.proofs.Common.{rules, sym, ◌∙◌, refl, ap, arith}
use Rattle.std.specs.Prelude.{◌+◌}
use Rattle.std.proofs.lemmas.Bool.Decides.{nat_tests}
use Rattle.keep_event.specs.Device.{copy}
use Rattle.keep_event.specs.Store as store
use Rattle.keep_event.specs.Store.{find}
use Rattle.keep_event.specs.declared.device.DeviceAnswer.TheVariants.{ReadOnly, Gone, Skipped, Young, Trashed}
use Rattle.keep_volume.specs.Calls.{state_with}
use Rattle.keep_volume.proofs.Lines.{item-stays, item-over, told-all, told-map}
use Rattle.keep_volume.proofs.Machine.{item-read-only, item-gone, item-skipped, item-young, item-trashed, none-there}
use Rattle.keep_volume.proofs.volume.Volume.trash_item.Goals as goal

pub returns-then-self-clause-item : goal.returns-then-self-clause-item
returns-then-self-clause-item g c =
    let d = c.args.self.now in
    item-stays _ d ReadOnly (told-all d.held (λ es. item-read-only d.rules c.args.item c.args.reading (state_with d es) (search rules))) (λ e. cc e)

pub returns-in_default-clause-item : goal.returns-in_default-clause-item
returns-in_default-clause-item g c =
    let d = c.args.self.now in
    item-stays _ d (Gone c.args.item.digest) (told-map d.held (λ es k. item-gone d.rules c.args.item c.args.reading (state_with d es) (search rules) (none-there _ (search rules))) c.known.ensures) (λ e. cc e)

pub returns-then-mtime-item-clause-item : goal.returns-then-mtime-item-clause-item
returns-then-mtime-item-clause-item g c =
    let d = c.args.self.now in
    item-stays _ d (Skipped c.args.item.digest c.in-Some.sized.mtime) (told-map d.held (λ es k. item-skipped d.rules c.args.item c.args.reading (state_with d es) c.in-Some.sized c.replica-name.result (search rules) c.replica-name.ensures (sym c.in-Some.is ∙ k) (search rules)) c.known.ensures) (λ e. cc e)

pub returns-then-reading-mtime-clause-item : goal.returns-then-reading-mtime-clause-item
returns-then-reading-mtime-clause-item g c =
    let d = c.args.self.now in
    item-stays _ d (Young c.args.item.digest c.in-Some.sized.mtime) (told-map d.held (λ es k. item-young d.rules c.args.item c.args.reading (state_with d es) c.in-Some.sized c.replica-name.result (search rules) c.replica-name.ensures (sym c.in-Some.is ∙ k) (search rules) (rw (← c.self.view_is) (grind (arith, nat_tests)))) c.known.ensures) (λ e. cc e)

pub returns-clause-item : goal.returns-clause-item
returns-clause-item g c =
    let d = c.args.self.now in
    let m = c.in-Some.sized.mtime in
    let n = c.replica-name.result in
    let deadline = c.args.reading + c.nanos_of.result in
    item-over _ d c.rename.new.self (λ es. store.rename n (copy c.args.item.digest deadline) m es (find n es)) c.in_ok-rename.ensures.0 c.in_ok-rename.ensures.1 (Trashed c.args.item.digest deadline c.self.inside.round)
    (told-map d.held (λ es k. item-trashed d.rules c.args.item c.args.reading (state_with d es) c.in-Some.sized n (search rules) c.replica-name.ensures (sym c.in-Some.is ∙ k) (search rules) (rw (← c.self.view_is) (grind (arith, nat_tests))) deadline c.self.inside.round (rw (← c.self.view_is) (ap (λ x. c.args.reading + x) c.nanos_of.ensures.nanos)) (rw (← c.self.view_is) refl)) c.known.ensures) (λ e. cc e)
