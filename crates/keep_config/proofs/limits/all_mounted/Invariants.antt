use Rattle.std.proofs.Common.{◌≡◌}
use Rattle.keep_spec.specs.Config.{all_mounted}
use Rattle.keep_config.proofs.limits.all_mounted.Given as goal

-- the devices below decide
abbrev pub invariant-loop-device : goal.invariant-loop-device
invariant-loop-device l = all_mounted l.device l.mounts ≡ all_mounted l.devices l.mounts
