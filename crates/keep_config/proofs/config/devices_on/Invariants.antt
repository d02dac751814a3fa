use Rattle.std.proofs.Common.{◌≡◌, drop, []}
use Rattle.keep_config.proofs.Firsts.{devices_with}
use Rattle.keep_config.proofs.config.devices_on.Given as goal

-- the devices so far, and then those of the mounts that are left
abbrev pub invariant-loop-mount : goal.invariant-loop-mount
invariant-loop-mount l = devices_with l.devices.items l.server (drop l.mount-index l.mounts) ≡ devices_with [] l.server l.mounts
