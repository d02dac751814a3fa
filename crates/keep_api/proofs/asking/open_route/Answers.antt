use Rattle.std.proofs.Common.{◌≡◌, ◌∙◌, Ok, Err}
use Rattle.keep_event.specs.declared.port.PortError.TheVariants as F
use Rattle.keep_api.specs.Sessions.{seen, serving, uuid_of}
use Rattle.keep_api.proofs.Routed.{routed-responded}
use Rattle.keep_api.proofs.asking.open_route.Goals as goal

pub returns-in-Ok-outcome_response-clause-routed : goal.returns-in-Ok-outcome_response-clause-routed
returns-in-Ok-outcome_response-clause-routed g c = λ server.
    let uuid : c.as_slice.result.now ≡ uuid_of c.args.opening = c.as_slice.ensures ∙ c.in-Ok.ensures in
    routed-responded (serving c.args.config.now server c.args.actor) c.args.reading c.args.opening (seen g.P.Port.told g.P.Port.world g.P.Port.stamp c.args.port.now) (seen g.P.Port.told g.P.Port.world g.P.Port.stamp c.outcome_of.new.port) c.in_ok-outcome.outcome (c.in_ok-outcome.ensures.asked server)
    (Ok c.in-Ok-outcome_response.response) (rw uuid at c.in-Ok-outcome_response.ensures.response)

pub returns-clause-routed : goal.returns-clause-routed
returns-clause-routed g c = λ server.
    routed-responded (serving c.args.config.now server c.args.actor) c.args.reading c.args.opening (seen g.P.Port.told g.P.Port.world g.P.Port.stamp c.args.port.now) (seen g.P.Port.told g.P.Port.world g.P.Port.stamp c.outcome_of.new.port) c.in_ok-outcome.outcome (c.in_ok-outcome.ensures.asked server)
    (Err F.NoMemory) tt
