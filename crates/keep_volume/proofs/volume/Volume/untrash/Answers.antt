use Rattle.std.proofs.Common.{rules, sym, ◌∙◌, ap, max}
use Rattle.keep_event.specs.Device.{with_held}
use Rattle.keep_event.specs.Store as store
use Rattle.keep_event.specs.Store.{find}
use Rattle.keep_event.specs.declared.device.DeviceAnswer.TheVariants.{ReadOnly, Present, NoTrash, Back}
use Rattle.keep_volume.specs.Calls.{state_with}
use Rattle.keep_volume.proofs.Lines.{stays-line, over-line, told-all, told-map, told-both}
use Rattle.keep_volume.proofs.Machine.{untrash-read-only, untrash-present, untrash-none, untrash-back, none-there}
use Rattle.keep_volume.proofs.volume.Volume.untrash.Goals as goal

pub returns-then-self-clause-line : goal.returns-then-self-clause-line
returns-then-self-clause-line g c =
    let d = c.args.self.now in
    stays-line _ d ReadOnly (told-all d.held (λ es. untrash-read-only d.rules c.args.digest.now c.args.reading (state_with d es) (search rules))) (λ e. cc e)

pub returns-in-Some-clause-line : goal.returns-in-Some-clause-line
returns-in-Some-clause-line g c =
    let d = c.args.self.now in
    stays-line _ d (Present c.in-Some.known.mtime) (told-map d.held (λ es k. untrash-present d.rules c.args.digest.now c.args.reading (state_with d es) (search rules) c.in-Some.known (search rules)) c.known.ensures) (λ e. cc e)

pub returns-in_default-last_copy-clause-line : goal.returns-in_default-last_copy-clause-line
returns-in_default-last_copy-clause-line g c =
    let d = c.args.self.now in
    stays-line _ d NoTrash (told-both d.held (λ es k l. untrash-none d.rules c.args.digest.now c.args.reading (state_with d es) (search rules) (none-there _ (search rules)) (search rules)) c.known.ensures c.last_copy.ensures.last_copy) (λ e. cc e)

pub returns-in-Ok-clause-line : goal.returns-in-Ok-clause-line
returns-in-Ok-clause-line g c =
    let d = c.args.self.now in
    let m = c.renewed_time-mtime.result in
    let from = c.in-Some-last_copy.copy in
    let to = c.replica-name.result in
    over-line _ d c.rename.new.self (λ es. store.rename from to m es (find from es)) c.in-Ok.ensures.0 c.in-Ok.ensures.1 (Back m)
    (told-both d.held (λ es k l. untrash-back d.rules c.args.digest.now c.args.reading (state_with d es) (search rules) (none-there _ (search rules)) (from, c.in-Some-last_copy.sized) (sym c.in-Some-last_copy.is ∙ l)
    ∙ ap (λ t. record { answer = Back (max c.in-Some-last_copy.sized.mtime c.args.reading); state = with_held (store.rename from t (max c.in-Some-last_copy.sized.mtime c.args.reading) es (find from es)) (state_with d es) }) (sym c.replica-name.ensures)
    ∙ ap (λ v. record { answer = Back v; state = with_held (store.rename from to v es (find from es)) (state_with d es) }) (sym c.renewed_time-mtime.ensures)) c.known.ensures c.last_copy.ensures.last_copy)
    (λ e. cc e)
