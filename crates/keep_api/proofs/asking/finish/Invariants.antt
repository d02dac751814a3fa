use Rattle.std.proofs.Common.{◌≡◌, ◌≤◌, List, [], false}
use Rattle.keep_event.specs.Port.{NoneFalls}
use Rattle.keep_history.specs.Next.{Answered, Next}
use Rattle.keep_api.specs.Sessions.{seen}
use Rattle.keep_api.proofs.Asked.{IsAsking}
use Rattle.keep_api.proofs.asking.finish.Given as goal

abbrev pub invariant-loop : goal.invariant-loop
invariant-loop g l = record {
  open_still : g.T.Steps.has_ended l.left ≡ false;
  askable : g.T.Steps.may_ask l.left (g.P.Port.devices l.port);
  asking : (next : List Answered → Next) → g.T.Steps.stands l.fn.task next [] → IsAsking l.actor next (g.T.Steps.stands l.left) (seen g.P.Port.told g.P.Port.world g.P.Port.stamp l.fn.port) (seen g.P.Port.told g.P.Port.world g.P.Port.stamp l.port);
  faults : g.P.Port.faults l.fn.port ≤ g.P.Port.faults l.port;
  spents : g.P.Port.spent l.fn.port ≤ g.P.Port.spent l.port;
  store_faults : NoneFalls (g.P.Port.store_faults l.fn.port) (g.P.Port.store_faults l.port);
  devices : g.P.Port.devices l.port ≡ g.P.Port.devices l.fn.port;
}
