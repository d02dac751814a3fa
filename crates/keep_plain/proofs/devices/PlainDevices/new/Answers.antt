use Rattle.std.proofs.Common.{rules, ◌≡◌, ◌++◌, ◌∷◌, [], ◌∙◌, ap}
use Rattle.keep_event.specs.Device.{initial}
use Rattle.keep_plain.proofs.Lists.{one-more}
use Rattle.keep_plain.proofs.devices.PlainDevices.new.Goals as goal

pub loop-preserved : goal.loop-preserved
loop-preserved c =
    let pushed : c.push.new.self.items ≡ c.loop.empty.items ++ initial ∷ [] = search rules in
    pushed ∙ ap (λ v. v ++ initial ∷ []) c.loop.invariant ∙ one-more initial c.args.devices.now c.loop.index c.loop-test.true
