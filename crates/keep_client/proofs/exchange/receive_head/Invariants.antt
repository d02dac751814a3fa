use Rattle.std.proofs.Common.{◌≡◌, ◌≤◌, ◌-◌, ◌+◌, length}
use Rattle.keep_wire.specs.declared.message.TheConstants.{HEAD_MAX}
use Rattle.keep_client.specs.declared.link.Standing.TheVariants as standing
use Rattle.keep_client.specs.Saying.{AreNeeded}
use Rattle.keep_client.proofs.Heard.{IsBefore}
use Rattle.keep_client.proofs.Told.{IsReading}
use Rattle.keep_client.proofs.exchange.receive_head.Given as goal

abbrev pub invariant-loop-bytes : goal.invariant-loop-bytes
invariant-loop-bytes g l = record {
  told : IsReading l.bytes.items (g.L.Link.told l.fn.link) (g.L.Link.told l.link);
  standing : g.L.Link.standing l.link ≡ standing.Open;
  needed : AreNeeded l.bytes.items;
  before : IsBefore l.bytes.items;
  never_falls : g.L.Link.faults l.fn.link ≤ g.L.Link.faults l.link;
}

abbrev pub decreases-loop-bytes : goal.decreases-loop-bytes
decreases-loop-bytes g l = (HEAD_MAX + 1) - length l.bytes.items
