use Rattle.std.proofs.Common.{rules, refl, sym, ◌∙◌, ap}
use Rattle.std.specs.Prelude.{is_some}
use Rattle.keep_event.specs.Store.{put, stored, size_of}
use Rattle.keep_event.specs.declared.device.DeviceAnswer.TheVariants.{Full, Written}
use Rattle.keep_volume.proofs.Lines.{stays-line, becomes-line, told-map}
use Rattle.keep_volume.proofs.Sizes.{both-change, put-sizes, counts-told}
use Rattle.keep_volume.proofs.Machine.{placed-full, placed-put}
use Rattle.keep_volume.proofs.volume.Volume.place.Goals as goal

pub returns-then-used-size_at-clause-line : goal.returns-then-used-size_at-clause-line
returns-then-used-size_at-clause-line g c = rw (← c.self.view_is)
    (stays-line _ _ (Full c.used-used.result c.self.inside.rules.capacity)
    (told-map (g.S.Store.held c.self.inside.store) (λ es k. placed-full c.self.inside.rules c.args.block.now c.args.mtime _ c.replica-name.result (search rules) c.used-used.result c.size_at.result (k.0 ∙ sym c.used-used.ensures.value) (k.1 ∙ sym c.size_at.ensures.value) (search rules))
    (counts-told c.replica-name.result (g.S.Store.held c.self.inside.store) c.self.inside.index.entries c.self.invariant.remembers)) (λ e. cc e))

pub invariant_of-self-2 : goal.invariant_of-self-2
invariant_of-self-2 g c =
    let x = stored c.args.mtime c.args.block.now in
    record {
      remembers = both-change (g.S.Store.held c.self.inside.store) _ c.self.inside.index.entries _ (put c.replica-name.result x) (put c.replica-name.result (size_of x)) c.self.invariant.remembers (search rules) (search rules) (put-sizes c.replica-name.result x);
      done = c.self.invariant.done;
      noted = search rules;
    }

pub returns-clause-line : goal.returns-clause-line
returns-clause-line g c = rw (← c.self.view_is)
    (becomes-line _ _ _ c.put.ensures.cause.never_falls refl (ap is_some c.put.ensures.note) (Written c.args.mtime) (put c.replica-name.result (stored c.args.mtime c.args.block.now)) (search rules)
    (told-map (g.S.Store.held c.self.inside.store) (λ es k. placed-put c.self.inside.rules c.args.block.now c.args.mtime _ c.replica-name.result (search rules) c.used-used.result c.size_at.result (k.0 ∙ sym c.used-used.ensures.value) (k.1 ∙ sym c.size_at.ensures.value) (search rules))
    (counts-told c.replica-name.result (g.S.Store.held c.self.inside.store) c.self.inside.index.entries c.self.invariant.remembers)) (λ e. cc e))
