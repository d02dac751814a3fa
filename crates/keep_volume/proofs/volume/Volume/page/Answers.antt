use Rattle.std.proofs.Common.{rules}
use Rattle.keep_event.specs.declared.device.DeviceAnswer.TheVariants.{Stale, Page}
use Rattle.keep_volume.proofs.Lines.{stays-line, told-all, told-map}
use Rattle.keep_volume.proofs.Sizes.{page-told}
use Rattle.keep_volume.proofs.Machine.{page-stale, page-done}
use Rattle.keep_volume.proofs.volume.Volume.page.Goals as goal

pub returns-then-self-round-clause-line : goal.returns-then-self-round-clause-line
returns-then-self-round-clause-line g c = rw (← c.self.view_is) (stays-line _ _ (Stale c.self.inside.round) (told-all (g.S.Store.held c.self.inside.store) (λ es. page-stale c.args.prefix.now c.args.round _ (search rules))) (λ e. cc e))

pub returns-clause-line : goal.returns-clause-line
returns-clause-line g c = rw (← c.self.view_is, c.of.ensures, c.in_ok-entries.ensures)
    (stays-line _ _ (Page _) (told-map (g.S.Store.held c.self.inside.store) (λ es k. page-done c.args.prefix.now c.args.round _ (search rules) _ k) (page-told c.args.prefix.now (g.S.Store.held c.self.inside.store) c.self.inside.index.entries c.self.invariant.remembers)) (λ e. cc e))
