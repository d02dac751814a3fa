use Rattle.std.proofs.Common.{rules, refl, arith}
use Rattle.keep_event.specs.declared.device.DeviceAnswer.TheVariants.{Stale, Accepted}
use Rattle.keep_volume.proofs.Lines.{stays-line, becomes-line, exactly, told-all, option_map-same}
use Rattle.keep_volume.proofs.Machine.{accept-stale, accept-done}
use Rattle.keep_volume.proofs.volume.Volume.accept.Goals as goal

pub returns-then-round-self-clause-line : goal.returns-then-round-self-clause-line
returns-then-round-self-clause-line g c = rw (← c.self.view_is) (stays-line _ _ (Stale c.self.inside.round) (told-all (g.S.Store.held c.self.inside.store) (λ es. accept-stale c.args.round c.args.lists _ (search rules))) (λ e. cc e))

pub returns-then-round-self-clause-exact : goal.returns-then-round-self-clause-exact
returns-then-round-self-clause-exact g c = rw (← c.self.view_is) (exactly _ _ _ (Stale c.self.inside.round) (λ es. accept-stale c.args.round c.args.lists _ (search rules)) refl refl refl refl)

pub returns-clause-line : goal.returns-clause-line
returns-clause-line g c = rw (← c.self.view_is, c.from.ensures.0, c.into_vec.ensures, c.into_vec-2.ensures, c.len-trash.ensures, c.len-pull.ensures)
    (becomes-line _ _ _ (omega arith) refl refl (Accepted _ _) (λ es. es) (option_map-same _) (told-all (g.S.Store.held c.self.inside.store) (λ es. accept-done c.args.round c.args.lists _ (search rules))) (λ e. cc e))

pub returns-clause-exact : goal.returns-clause-exact
returns-clause-exact g c = rw (← c.self.view_is, c.from.ensures.0, c.into_vec.ensures, c.into_vec-2.ensures, c.len-trash.ensures, c.len-pull.ensures)
    (exactly _ _ _ (Accepted _ _) (λ es. accept-done c.args.round c.args.lists _ (search rules)) refl refl refl refl)
