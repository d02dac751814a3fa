use Rattle.keep_client.proofs.Told.{said-conversed, said-unopened, mapped}
use Rattle.keep_client.specs.Steps.{IsConversed, HasSaid}
use Rattle.keep_client.proofs.exchange.exchange.Goals as goal

pub returns-in-Ok-clause-said : goal.returns-in-Ok-clause-said
returns-in-Ok-clause-said g c =
    mapped (IsConversed c.args.request.now (g.L.Link.told c.open.new.self) (g.L.Link.told c.converse-said.new.link))
    (HasSaid c.args.server c.args.request.now (g.L.Link.told c.args.link.now) (g.L.Link.told c.close.new.self)) c.converse-said.result
    (λ said h. said-conversed _ _ said _ _ _ _ c.in-Ok.ensures.told h c.close.ensures.told) c.converse-said.ensures.said

pub returns-in-Err-clause-said : goal.returns-in-Err-clause-said
returns-in-Err-clause-said g c = said-unopened _ _ _ _ c.in-Err.ensures.told
