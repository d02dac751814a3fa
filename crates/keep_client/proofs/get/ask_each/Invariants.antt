use Rattle.std.proofs.Common.{◌≡◌, ◌≤◌, ◌<◌}
use Rattle.keep_spec.specs.Causes.{Rose}
use Rattle.keep_client.specs.declared.link.Standing.TheVariants as standing
use Rattle.keep_client.proofs.Asked.{IsAsking}
use Rattle.keep_client.proofs.get.ask_each.Given as goal

abbrev pub invariant-loop-server : goal.invariant-loop-server
invariant-loop-server g l = record {
  asking : IsAsking l.servers l.request l.server-index l.block (g.L.Link.told l.fn.link) (g.L.Link.told l.link) l.misses;
  closed : g.L.Link.standing l.fn.link ≡ standing.Closed → g.L.Link.standing l.link ≡ standing.Closed;
  never_falls : g.L.Link.faults l.fn.link ≤ g.L.Link.faults l.link;
  blames : 0 < l.misses.failed → Rose (g.L.Link.faults l.fn.link) (g.L.Link.faults l.link);
}
