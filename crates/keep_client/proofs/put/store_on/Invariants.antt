use Rattle.std.proofs.Common.{◌≡◌, ◌≤◌, ◌<◌}
use Rattle.keep_spec.specs.Causes.{Rose}
use Rattle.keep_client.specs.declared.link.Standing.TheVariants as standing
use Rattle.keep_client.proofs.Asked.{IsStoring}
use Rattle.keep_client.proofs.put.store_on.Given as goal

abbrev pub invariant-loop-server : goal.invariant-loop-server
invariant-loop-server g l = record {
  storing : IsStoring l.servers l.request l.server-index l.block l.copies (g.L.Link.told l.fn.link) (g.L.Link.told l.link) l.tally;
  closed : g.L.Link.standing l.fn.link ≡ standing.Closed → g.L.Link.standing l.link ≡ standing.Closed;
  never_falls : g.L.Link.faults l.fn.link ≤ g.L.Link.faults l.link;
  blames : 0 < l.tally.failed → Rose (g.L.Link.faults l.fn.link) (g.L.Link.faults l.link);
}
