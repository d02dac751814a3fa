-- Opening what was given back leaves what a restart leaves.
use Rattle.std.proofs.Common.{◌≡◌, ℕ, List, [], Option, None, Some, option_map, IfSome, refl, sym, ◌∙◌, ap}
use Rattle.keep_event.specs.Device as machine
use Rattle.keep_event.specs.Device.{State, Reply}
use Rattle.keep_event.specs.declared.names.Name.{Name}
use Rattle.keep_event.specs.declared.names.Stored.{Stored}
use Rattle.keep_volume.specs.Calls.{VolumeView, IsReopened, state_with}
use Rattle.keep_volume.proofs.Machine.{restart-done}

pub reopened : (told : Option (List (Name × Stored))) (noted : Option ℕ) (d : VolumeView) → told ≡ d.held → IfSome noted (λ n. n ≡ d.round) → IsReopened told noted d
reopened told None d h r = tt
reopened told (Some n) d h r = λ v o. ap (option_map (state_with v)) (o.held ∙ h) ∙ again v (o.round ∙ r) o.trash o.pull d.held
  where
    again : (v : VolumeView) → v.round ≡ d.round → v.trash ≡ [] → v.pull ≡ [] → (held : Option (List (Name × Stored))) → option_map (state_with v) held ≡ option_map (λ s. (machine.restart s).state) (option_map (state_with d) held)
    again v e t p None = refl
    again v e t p (Some es) = ap Some (rw (e, t, p) (sym (ap (λ (r : Reply). r.state) (restart-done (state_with d es)))))
