use Rattle.std.proofs.Common.{sym, subst}
use Rattle.keep_cluster.specs.Cluster.{HasDevices}
use Rattle.keep_cluster.proofs.Devices.{two_devices}
use Rattle.keep_sessions.proofs.sessions.devices.Goals as goal

pub returns : goal.returns
returns c = subst (HasDevices c.args.config.now) (sym c.in_ok-volumes.ensures) (two_devices c.args.config.now c.in_ok-first.first c.in_ok-second.second c.requires c.in_ok-first.ensures c.in_ok-second.ensures)
