use Rattle.std.proofs.Common.{◌<◌, ◌≡◌, IfSome, List, length, subst, sym, ap, ◌∙◌}
use Rattle.std.specs.Prelude.{bytes_eq, find, option_map}
use Rattle.keep_spec.specs.Config.{Configuration, IsGood}
use Rattle.keep_spec.specs.declared.config.Mount.{Mount}
use Rattle.keep_event.specs.Lists.{device_of_mount}
use Rattle.keep_routes.proofs.Mounts.{mount_within}
use Rattle.keep_routes.proofs.paths.device_of_mount.Goals as goal

pub returns-clause-within : goal.returns-clause-within
returns-clause-within c =
    let mounts : c.as_slice.result.now ≡ c.args.config.now.mounts = c.as_slice.ensures ∙ ap (λ (v : Configuration). v.mounts) c.config.view_is in
    let found = λ (ms : List Mount). option_map (λ (m : Mount). m.device) (find (λ (m : Mount). bytes_eq m.uuid c.args.uuid.now) ms) in
    let is : c.find_mount.result ≡ device_of_mount c.args.config.now c.args.uuid.now = c.find_mount.ensures ∙ ap found mounts in
    subst (λ o. IfSome o (λ n. n < length c.args.config.now.devices)) (sym is) (mount_within c.args.config.now c.args.uuid.now (subst IsGood c.config.view_is c.config.invariant))
