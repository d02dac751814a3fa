use Rattle.std.proofs.Common.{refl, arith}
use Rattle.keep_event.specs.declared.device.DeviceAnswer.TheVariants.{Restarted}
use Rattle.keep_volume.specs.Calls.{state_with}
use Rattle.keep_volume.specs.Steps.{without_lists}
use Rattle.keep_volume.proofs.Lines.{becomes-line, exactly, told-all, option_map-same}
use Rattle.keep_volume.proofs.Machine.{restart-done}
use Rattle.keep_volume.proofs.volume.Volume.restart.Goals as goal

pub returns-clause-line : goal.returns-clause-line
returns-clause-line g c =
    let d = c.args.self.now in
    rw c.drop_lists.ensures (becomes-line _ d (without_lists d) (omega arith) refl refl Restarted (λ es. es) (option_map-same d.held) (told-all d.held (λ es. restart-done (state_with d es))) (λ e. cc e))

pub returns-clause-exact : goal.returns-clause-exact
returns-clause-exact g c =
    let d = c.args.self.now in
    rw c.drop_lists.ensures (exactly _ d (without_lists d) Restarted (λ es. restart-done (state_with d es)) refl refl refl refl)
