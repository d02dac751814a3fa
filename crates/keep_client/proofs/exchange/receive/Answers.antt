use Rattle.keep_client.specs.declared.exchange.Heard.TheVariants as heard
use Rattle.keep_client.specs.Steps.{HasHeard, IsBodyReceived, IsReceived}
use Rattle.keep_client.proofs.Told.{received-body, mapped}
use Rattle.keep_client.proofs.exchange.receive.Goals as goal

pub returns-in-Ok-Head-clause-said : goal.returns-in-Ok-Head-clause-said
returns-in-Ok-Head-clause-said g c =
    let head : HasHeard (g.L.Link.told c.args.link.now) (g.L.Link.told c.receive_head.new.link) (heard.Head c.in-Ok-Head.status c.in-Ok-Head.size) = rw c.in-Ok-Head.field-0-is at c.in-Ok-Head.ensures.heard in
    mapped (IsBodyReceived c.in-Ok-Head.status c.in-Ok-Head.size (g.L.Link.told c.receive_head.new.link) (g.L.Link.told c.receive_body.new.link))
    (IsReceived (g.L.Link.told c.args.link.now) (g.L.Link.told c.receive_body.new.link)) c.receive_body.result
    (λ said h. received-body c.in-Ok-Head.status c.in-Ok-Head.size said _ _ _ head h) c.receive_body.ensures.said
