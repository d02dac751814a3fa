use Rattle.std.proofs.Common.{◌≡◌, ◌≤◌, None}
use Rattle.keep_event.specs.Port.{NoneFalls}
use Rattle.keep_wire.specs.Told.{requests_failed, requests_left, requests_name, requests_source}
use Rattle.keep_api.specs.Sessions.{IsGoing, seen, serving, told}
use Rattle.keep_api.proofs.connection.serve.Given as goal

abbrev pub invariant-loop-number : goal.invariant-loop-number
invariant-loop-number g l = record {
  unfailed : requests_failed l.requests ≡ None;
  name : requests_name l.requests ≡ requests_name l.fn.requests;
  devices : g.P.Port.devices l.port ≡ g.P.Port.devices l.fn.port;
  source_never_falls : g.R.Source.faults (requests_source l.fn.requests) ≤ g.R.Source.faults (requests_source l.requests);
  sink_never_falls : g.W.Sink.faults l.fn.sink ≤ g.W.Sink.faults l.sink;
  clock_never_falls : g.C.Clock.faults l.fn.clock ≤ g.C.Clock.faults l.clock;
  port_never_falls : g.P.Port.faults l.fn.port ≤ g.P.Port.faults l.port;
  spent_never_falls : g.P.Port.spent l.fn.port ≤ g.P.Port.spent l.port;
  stores_never_fall : NoneFalls (g.P.Port.store_faults l.fn.port) (g.P.Port.store_faults l.port);
  going : IsGoing (serving l.config l.server l.actor) l.number (requests_left l.fn.requests) (requests_left l.requests)
      (told g.C.Clock.reading g.W.Sink.taken (seen g.P.Port.told g.P.Port.world g.P.Port.stamp l.fn.port) l.fn.clock l.fn.sink) (told g.C.Clock.reading g.W.Sink.taken (seen g.P.Port.told g.P.Port.world g.P.Port.stamp l.port) l.clock l.sink);
}
