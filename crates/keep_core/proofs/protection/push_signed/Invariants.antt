use Rattle.std.proofs.Common.{◌≡◌, ◌++◌, take}
use Rattle.std.specs.List.{flat_map}
use Rattle.keep_core.specs.Seen.{live_of}
use Rattle.keep_core.proofs.protection.push_signed.Given as goal

abbrev pub invariant-loop-event : goal.invariant-loop-event
invariant-loop-event l = l.digests.items ≡ l.initial.digests.items ++ flat_map (live_of l.config l.latest) (take l.event-index l.events)
