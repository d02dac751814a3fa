use Rattle.keep_client.proofs.Told.{conversed, conversed-unsent, mapped}
use Rattle.keep_client.specs.Steps.{IsReceived, IsConversed}
use Rattle.keep_client.proofs.exchange.converse.Goals as goal

pub returns-in-Ok-clause-said : goal.returns-in-Ok-clause-said
returns-in-Ok-clause-said g c =
    mapped (IsReceived (g.L.Link.told c.send.new.link) (g.L.Link.told c.receive.new.link))
    (IsConversed c.args.request.now (g.L.Link.told c.args.link.now) (g.L.Link.told c.receive.new.link)) c.receive.result
    (λ said h. conversed _ tt said _ _ _ c.in-Ok.ensures.sent h) c.receive.ensures.said

pub returns-in-Err-clause-said : goal.returns-in-Err-clause-said
returns-in-Err-clause-said g c = conversed-unsent _ _ _ _ c.in-Err.ensures.sent
