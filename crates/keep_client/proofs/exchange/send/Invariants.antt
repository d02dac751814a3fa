use Rattle.std.proofs.Common.{◌≡◌, ◌≤◌, length}
use Rattle.keep_client.specs.declared.link.Standing.TheVariants as standing
use Rattle.keep_client.proofs.Told.{IsSending}
use Rattle.keep_client.proofs.exchange.send.Given as goal

abbrev pub invariant-loop-rest : goal.invariant-loop-rest
invariant-loop-rest g l = record {
  told : IsSending l.request l.rest (g.L.Link.told l.fn.link) (g.L.Link.told l.link);
  standing : g.L.Link.standing l.link ≡ standing.Open;
  never_falls : g.L.Link.faults l.fn.link ≤ g.L.Link.faults l.link;
}

abbrev pub decreases-loop-rest : goal.decreases-loop-rest
decreases-loop-rest g l = length l.rest
