use Rattle.keep_client.proofs.scripted.ScriptedLinkLink.open.Goals as goal

pub returns-then-opens-clause-told : goal.returns-then-opens-clause-told
returns-then-opens-clause-told c = c.begin.ensures.noted

pub returns-clause-told : goal.returns-clause-told
returns-clause-told c = c.begin-2.ensures.noted
