use Rattle.keep_spec.specs.Manifest.{named}
use Rattle.keep_collections.proofs.Ascending.{is-ascending}
use Rattle.keep_core.proofs.digests.digests_of.Goals as goal

pub returns-in_ok-digests-in-Ok : goal.returns-in_ok-digests-in-Ok
returns-in_ok-digests-in-Ok c =
    let digests = c.in_ok-digests-in-Ok.digests.items in
    rw c.in-Ok.ensures.manifest (is-ascending digests (named c.in-Ok.manifest) c.in_ok-digests-in-Ok.ensures.ascending c.in_ok-digests-in-Ok.ensures.named)
