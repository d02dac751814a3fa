use Rattle.std.proofs.Common.{rules, ◌∙◌, refl}
use Rattle.keep_event.specs.declared.device.DeviceAnswer.TheVariants.{Stale, Cleared}
use Rattle.std.proofs.Common.{drop, []}
use Rattle.keep_event.specs.Device as machine
use Rattle.keep_event.specs.Device.{State}
use Rattle.keep_volume.proofs.Lines.{stays-line, becomes-line, anyway-at, told-all, option_map-same}
use Rattle.keep_volume.proofs.Notes.{noted-still}
use Rattle.keep_volume.proofs.Machine.{clear-stale, clear-done}
use Rattle.keep_volume.proofs.volume.Volume.clear.Goals as goal

pub returns-then-round-self-clause-line : goal.returns-then-round-self-clause-line
returns-then-round-self-clause-line g c = rw (← c.self.view_is) (stays-line _ _ (Stale c.self.inside.round) (told-all (g.S.Store.held c.self.inside.store) (λ es. clear-stale c.args.round _ (search rules))) (λ e. cc e))

pub returns-clause-line : goal.returns-clause-line
returns-clause-line g c = rw (c.drop_lists.ensures, ← c.self.view_is)
    (becomes-line _ _ _ c.set_note.ensures.cause.never_falls refl (noted-still _ _ _ c.set_note.result c.set_note.ensures.ok c.set_note.ensures.err) Cleared (λ es. es) (c.set_note.ensures.unchanged ∙ option_map-same _) (told-all (g.S.Store.held c.self.inside.store) (λ es. clear-done c.args.round _ (search rules))) (λ e. cc e))

pub returns-then-round-self-clause-whatever_is_told : goal.returns-then-round-self-clause-whatever_is_told
returns-then-round-self-clause-whatever_is_told g c = rw (← c.self.view_is) (λ es.
    let s : State = record { held = es; round = c.self.inside.round; trash = drop c.self.inside.trash_done c.self.inside.trash.items; pull = c.self.inside.pull.items } in
    anyway-at (machine.clear c.args.round) s s (Stale c.self.inside.round) (clear-stale c.args.round s (search rules)))

pub returns-clause-whatever_is_told : goal.returns-clause-whatever_is_told
returns-clause-whatever_is_told g c = rw (c.drop_lists.ensures, ← c.self.view_is) (λ es.
    let s : State = record { held = es; round = c.self.inside.round; trash = drop c.self.inside.trash_done c.self.inside.trash.items; pull = c.self.inside.pull.items } in
    anyway-at (machine.clear c.args.round) s (record { held = es; round = c.args.round; trash = []; pull = [] }) Cleared (clear-done c.args.round s (search rules)))
