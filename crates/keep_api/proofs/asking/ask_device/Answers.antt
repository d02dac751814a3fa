use Rattle.std.proofs.Common.{ap, Ok, Err}
use Rattle.keep_event.specs.declared.event.Query.TheVariants as Q
use Rattle.keep_event.specs.declared.port.PortError.TheVariants as F
use Rattle.keep_api.specs.Sessions.{seen, serving}
use Rattle.keep_api.proofs.Asked.{drawn-all, error_in}
use Rattle.keep_api.proofs.Made.{made-not, made-one}
use Rattle.keep_api.proofs.Routed.{routed-asked, routed-unasked}
use Rattle.keep_api.proofs.asking.ask_device.Goals as goal

pub returns-in-Ok-reply_response-clause-routed : goal.returns-in-Ok-reply_response-clause-routed
returns-in-Ok-reply_response-clause-routed g c = λ config server reading.
    let asked = c.in-Ok.ensures in
    routed-asked (serving config server c.args.actor) reading c.args.device c.args.query (seen g.P.Port.told g.P.Port.world g.P.Port.stamp c.args.port.now) (seen g.P.Port.told g.P.Port.world g.P.Port.stamp c.ask.new.self) c.in-Ok.reply
    (made-one c.args.actor (Q.Device c.args.device c.args.query) _ _ c.in-Ok.reply asked.told asked.world asked.stamped)
    (Ok c.in-Ok-reply_response.response) c.in-Ok-reply_response.ensures.response

pub returns-in-Err-clause-routed : goal.returns-in-Err-clause-routed
returns-in-Err-clause-routed g c = λ config server reading.
    let asked = c.in-Err.ensures in
    routed-unasked (serving config server c.args.actor) reading c.args.device c.args.query (seen g.P.Port.told g.P.Port.world g.P.Port.stamp c.args.port.now) (seen g.P.Port.told g.P.Port.world g.P.Port.stamp c.ask.new.self) c.in-Err.error
    (made-not c.args.actor (Q.Device c.args.device c.args.query) _ _ c.in-Err.error asked.told asked.world asked.stamped)

pub returns-clause-routed : goal.returns-clause-routed
returns-clause-routed g c = λ config server reading.
    let asked = c.in-Ok.ensures in
    routed-asked (serving config server c.args.actor) reading c.args.device c.args.query (seen g.P.Port.told g.P.Port.world g.P.Port.stamp c.args.port.now) (seen g.P.Port.told g.P.Port.world g.P.Port.stamp c.ask.new.self) c.in-Ok.reply
    (made-one c.args.actor (Q.Device c.args.device c.args.query) _ _ c.in-Ok.reply asked.told asked.world asked.stamped)
    (Err F.NoMemory) tt

pub returns-in-Err-clause-drawn : goal.returns-in-Err-clause-drawn
returns-in-Err-clause-drawn g c = λ drawn is. drawn-all _ _ (Err c.in-Err.error) drawn c.in-Err.ensures.spent (ap Err (ap error_in is))
