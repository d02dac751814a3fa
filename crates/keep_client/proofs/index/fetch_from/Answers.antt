use Rattle.keep_client.proofs.Asked.{but_all, one-said}
use Rattle.keep_client.proofs.index.fetch_from.Goals as goal

pub returns-in-Ok-clause-answer : goal.returns-in-Ok-clause-answer
returns-in-Ok-clause-answer g c = but_all _ c.fetched.result _ (c.in-Ok.said, one-said _ _ _ _ _ c.in-Ok.ensures.said, c.fetched.ensures.answer)
