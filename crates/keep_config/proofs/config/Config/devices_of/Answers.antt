use Rattle.std.proofs.Common.{◌≡◌, All, ◌<◌, length, ap, ◌∙◌, subst}
use Rattle.std.proofs.lemmas.Result.{IfOk-weaker}
use Rattle.keep_spec.specs.Config.{IsGood, firsts}
use Rattle.keep_spec.proofs.Mounted.{devices_of-within}
use Rattle.keep_config.proofs.Firsts.{on_server}
use Rattle.keep_config.proofs.config.Config.devices_of.Goals as goal

pub returns-clause-within : goal.returns-clause-within
returns-clause-within c =
    let good : IsGood c.args.self.now = subst IsGood c.self.view_is c.self.invariant in
    let mounts : c.as_slice.result.now ≡ c.args.self.now.mounts = c.as_slice.ensures ∙ ap (λ s. s.mounts) c.self.view_is in
    IfOk-weaker c.devices_on.result (λ v. v.items ≡ firsts (on_server c.args.server c.as_slice.result.now)) (λ v. All (λ d. d < length c.args.self.now.devices) v.items)
    (λ v e. rw (e, mounts) (devices_of-within c.args.self.now c.args.server good))
    c.devices_on.ensures
