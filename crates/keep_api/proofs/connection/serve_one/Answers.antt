use Rattle.std.proofs.Common.{subst, Err, Ok}
use Rattle.keep_api.specs.Sessions.{IsRouted, IsSent, bytes_of, seen, serving}
use Rattle.keep_api.proofs.Routed.{exchange-none, exchange-sent, exchange-stopped, exchange-unread}
use Rattle.keep_event.specs.declared.port.PortError.TheVariants as F
use Rattle.keep_api.proofs.connection.serve_one.Goals as goal

pub returns-in-Err-clause-exchanged : goal.returns-in-Err-clause-exchanged
returns-in-Err-clause-exchanged g c =
    exchange-unread (serving c.args.config.now c.args.server c.args.actor) c.args.number c.args.request (seen g.P.Port.told g.P.Port.world g.P.Port.stamp c.args.port.now) (g.C.Clock.reading c.args.clock.now) (g.C.Clock.reading c.now.new.self) (g.W.Sink.taken c.args.sink.now) c.in-Err.ensures.reading

pub returns-in-Err-route_of-clause-exchanged : goal.returns-in-Err-route_of-clause-exchanged
returns-in-Err-route_of-clause-exchanged g c =
    exchange-none (serving c.args.config.now c.args.server c.args.actor) c.args.number c.args.request (g.C.Clock.reading c.args.clock.now) (g.C.Clock.reading c.now.new.self) c.in-Ok.reading c.in-Ok.ensures.bound c.in-Ok.ensures.reading (seen g.P.Port.told g.P.Port.world g.P.Port.stamp c.args.port.now) (g.W.Sink.taken c.args.sink.now)

pub returns-in-Err-Failed-clause-exchanged : goal.returns-in-Err-Failed-clause-exchanged
returns-in-Err-Failed-clause-exchanged g c =
    let s = serving c.args.config.now c.args.server c.args.actor in
    let before = seen g.P.Port.told g.P.Port.world g.P.Port.stamp c.args.port.now in
    let after = seen g.P.Port.told g.P.Port.world g.P.Port.stamp c.ask_route.new.port in
    let routed = c.in-Err-Failed.ensures.routed c.args.server in
    exchange-stopped s c.args.number c.args.request (g.C.Clock.reading c.args.clock.now) (g.C.Clock.reading c.now.new.self) c.in-Ok.reading c.in-Ok.ensures.bound c.in-Ok.ensures.reading before after F.Failed (g.W.Sink.taken c.args.sink.now)
    (subst (λ route. IsRouted s c.in-Ok.reading route before after (Err F.Failed)) c.in-Ok-route_of.ensures.route routed)

pub returns-in-Err-Spent-clause-exchanged : goal.returns-in-Err-Spent-clause-exchanged
returns-in-Err-Spent-clause-exchanged g c =
    let s = serving c.args.config.now c.args.server c.args.actor in
    let before = seen g.P.Port.told g.P.Port.world g.P.Port.stamp c.args.port.now in
    let after = seen g.P.Port.told g.P.Port.world g.P.Port.stamp c.ask_route.new.port in
    let routed = c.in-Err-Spent.ensures.routed c.args.server in
    exchange-stopped s c.args.number c.args.request (g.C.Clock.reading c.args.clock.now) (g.C.Clock.reading c.now.new.self) c.in-Ok.reading c.in-Ok.ensures.bound c.in-Ok.ensures.reading before after (F.Spent c.in-Err-Spent.drawn) (g.W.Sink.taken c.args.sink.now)
    (subst (λ route. IsRouted s c.in-Ok.reading route before after (Err (F.Spent c.in-Err-Spent.drawn))) c.in-Ok-route_of.ensures.route routed)

pub returns-in-Err-NoMemory-clause-exchanged : goal.returns-in-Err-NoMemory-clause-exchanged
returns-in-Err-NoMemory-clause-exchanged g c =
    let s = serving c.args.config.now c.args.server c.args.actor in
    let before = seen g.P.Port.told g.P.Port.world g.P.Port.stamp c.args.port.now in
    let after = seen g.P.Port.told g.P.Port.world g.P.Port.stamp c.ask_route.new.port in
    let routed = c.in-Err-NoMemory.ensures.routed c.args.server in
    exchange-stopped s c.args.number c.args.request (g.C.Clock.reading c.args.clock.now) (g.C.Clock.reading c.now.new.self) c.in-Ok.reading c.in-Ok.ensures.bound c.in-Ok.ensures.reading before after F.NoMemory (g.W.Sink.taken c.args.sink.now)
    (subst (λ route. IsRouted s c.in-Ok.reading route before after (Err F.NoMemory)) c.in-Ok-route_of.ensures.route routed)

pub returns-clause-exchanged : goal.returns-clause-exchanged
returns-clause-exchanged g c =
    let s = serving c.args.config.now c.args.server c.args.actor in
    let before = seen g.P.Port.told g.P.Port.world g.P.Port.stamp c.args.port.now in
    let after = seen g.P.Port.told g.P.Port.world g.P.Port.stamp c.ask_route.new.port in
    let response = c.in-Ok-ask_route.response in
    let routed = c.in-Ok-ask_route.ensures.routed c.args.server in
    exchange-sent s c.args.number c.args.request (g.C.Clock.reading c.args.clock.now) (g.C.Clock.reading c.now.new.self) c.in-Ok.reading c.in-Ok.ensures.bound c.in-Ok.ensures.reading before after response (g.W.Sink.taken c.args.sink.now) (g.W.Sink.taken c.send.new.sink)
    (subst (λ route. IsRouted s c.in-Ok.reading route before after (Ok response)) c.in-Ok-route_of.ensures.route routed) c.send.result c.send.ensures.sent

pub returns-clause-clock : goal.returns-clause-clock
returns-clause-clock g c = λ is. absurd (subst (IsSent (bytes_of c.in-Ok-ask_route.response) (g.W.Sink.taken c.args.sink.now) (g.W.Sink.taken c.send.new.sink)) is c.send.ensures.sent)

pub returns-clause-port : goal.returns-clause-port
returns-clause-port g c = λ is. absurd (subst (IsSent (bytes_of c.in-Ok-ask_route.response) (g.W.Sink.taken c.args.sink.now) (g.W.Sink.taken c.send.new.sink)) is c.send.ensures.sent)

pub returns-clause-spent : goal.returns-clause-spent
returns-clause-spent g c = λ drawn is. absurd (subst (IsSent (bytes_of c.in-Ok-ask_route.response) (g.W.Sink.taken c.args.sink.now) (g.W.Sink.taken c.send.new.sink)) is c.send.ensures.sent)

pub returns-clause-drawn : goal.returns-clause-drawn
returns-clause-drawn g c = λ drawn is. absurd (subst (IsSent (bytes_of c.in-Ok-ask_route.response) (g.W.Sink.taken c.args.sink.now) (g.W.Sink.taken c.send.new.sink)) is c.send.ensures.sent)
