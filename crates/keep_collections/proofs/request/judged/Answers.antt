use Rattle.keep_collections.proofs.Locators.{all-locators}
use Rattle.keep_collections.proofs.request.judged.Goals as goal

pub refusal_of-requires : goal.refusal_of-requires
refusal_of-requires c = all-locators _ c.in-Ok.manifest c.in-Ok.ensures.manifest
