use Rattle.std.proofs.Common.{refl, rules, ap, Ok, ◌≡◌, ◌∙◌}
use Rattle.keep_event.specs.declared.device.DeviceAnswer.TheVariants.{Idle, ReadOnly}
use Rattle.keep_event.specs.Device as machine
use Rattle.keep_volume.specs.Calls.{state_with}
use Rattle.keep_volume.specs.Steps.{without_first}
use Rattle.keep_volume.proofs.Lines.{stays-line, taken-line, told-all}
use Rattle.keep_volume.proofs.Machine.{none-at-first, some-at-first, trash-idle, trash-taken}
use Rattle.keep_volume.proofs.volume.Volume.trash_next.Goals as goal

pub returns-in_default-clause-line : goal.returns-in_default-clause-line
returns-in_default-clause-line g c =
    let d = c.args.self.now in
    stays-line _ d Idle (told-all d.held (λ es. trash-idle d.rules c.args.reading (state_with d es) (search rules))) (λ e. cc e)

pub returns-in-Ok-clause-line : goal.returns-in-Ok-clause-line
returns-in-Ok-clause-line g c =
    let d = c.args.self.now in
    taken-line _ (machine.trash_item d.rules c.in-Some.item c.args.reading) d c.trash_item.new.self c.advance.new.self c.in-Ok.answer c.in-Ok.ensures.item c.advance.ensures
    (told-all d.held (λ es. trash-taken d.rules c.args.reading (state_with d es) c.in-Some.item (search rules)))

pub returns-in_default-clause-idle : goal.returns-in_default-clause-idle
returns-in_default-clause-idle g c = record { given = λ e. (refl, refl); only = λ e. none-at-first c.args.self.now.trash (search rules) }

pub returns-in-Ok-clause-idle : goal.returns-in-Ok-clause-idle
returns-in-Ok-clause-idle g c = record { given = λ e. absurd (some-at-first c.args.self.now.trash c.in-Some.item (search rules) e); only = λ e. absurd (let same : c.in-Ok.answer ≡ Idle = cc e in c.in-Ok.ensures.busy (ap Ok same)) }

pub returns-in_default-clause-read_only : goal.returns-in_default-clause-read_only
returns-in_default-clause-read_only g c = λ _ busy. absurd (busy (none-at-first c.args.self.now.trash (search rules)))

pub returns-in-Ok-clause-read_only : goal.returns-in-Ok-clause-read_only
returns-in-Ok-clause-read_only g c = λ only _.
    let r = c.in-Ok.ensures.read_only only in
    let same : c.in-Ok.answer ≡ ReadOnly = cc r.0 in
    (ap Ok same, c.advance.ensures ∙ ap without_first r.1)

pub returns-in-Err-clause-read_only : goal.returns-in-Err-clause-read_only
returns-in-Err-clause-read_only g c = λ only _. let r = (c.in-Err.ensures.read_only only).0 in cc r
