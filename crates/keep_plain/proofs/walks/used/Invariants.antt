use Rattle.std.proofs.Common.{◌≡◌, ◌≤◌, ◌*◌, ◌^◌, take}
use Rattle.keep_event.specs.Device.{used}
use Rattle.keep_plain.proofs.walks.used.Given as goal

abbrev pub invariant-loop-entry : goal.invariant-loop-entry
invariant-loop-entry l = record {
  sum : l.bytes ≡ used (take l.entry-index l.held);
  few : l.bytes ≤ l.entry-index * 2 ^ 64;
}
