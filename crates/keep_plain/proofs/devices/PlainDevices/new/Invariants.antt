use Rattle.std.proofs.Common.{◌≡◌, take, map}
use Rattle.keep_event.specs.Device.{initial}
use Rattle.keep_plain.proofs.devices.PlainDevices.new.Given as goal

abbrev pub invariant-loop : goal.invariant-loop
invariant-loop l = l.empty.items ≡ map (λ d. initial) (take l.index l.devices)
