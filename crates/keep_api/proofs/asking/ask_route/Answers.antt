use Rattle.std.proofs.Common.{sym, subst, Ok}
use Rattle.keep_api.specs.Sessions.{IsRouted, seen, serving}
use Rattle.keep_api.proofs.Routed.{routed-refused}
use Rattle.keep_api.proofs.asking.ask_route.Goals as goal

pub returns-in-Open-clause-routed : goal.returns-in-Open-clause-routed
returns-in-Open-clause-routed g c = λ server.
    subst (λ route. IsRouted (serving c.args.config.now server c.args.actor) c.args.reading route (seen g.P.Port.told g.P.Port.world g.P.Port.stamp c.args.port.now) (seen g.P.Port.told g.P.Port.world g.P.Port.stamp c.open_route.new.port) c.open_route.result) (sym c.in-Open.is) (c.open_route.ensures.routed server)

pub returns-in-Ask-clause-routed : goal.returns-in-Ask-clause-routed
returns-in-Ask-clause-routed g c = λ server.
    subst (λ route. IsRouted (serving c.args.config.now server c.args.actor) c.args.reading route (seen g.P.Port.told g.P.Port.world g.P.Port.stamp c.args.port.now) (seen g.P.Port.told g.P.Port.world g.P.Port.stamp c.ask_device.new.port) c.ask_device.result) (sym c.in-Ask.is) (c.ask_device.ensures.routed c.args.config.now server c.args.reading)

pub returns-in-Ok-clause-routed : goal.returns-in-Ok-clause-routed
returns-in-Ok-clause-routed g c = λ server.
    let s = serving c.args.config.now server c.args.actor in
    let shown = seen g.P.Port.told g.P.Port.world g.P.Port.stamp c.args.port.now in
    subst (λ route. IsRouted s c.args.reading route shown shown (Ok c.in-Ok.response)) (sym c.in-Refuse.is) (routed-refused s c.args.reading c.in-Refuse.refusal shown (Ok c.in-Ok.response) c.in-Ok.ensures.response)
