use Rattle.std.proofs.Common.{◌≡◌, refl}
use Rattle.keep_spec.specs.Manifest.{named}
use Rattle.keep_event.specs.Requests as requests
use Rattle.keep_collections.proofs.Ascending.{is-ascending}
use Rattle.keep_collections.proofs.request.made_of.Goals as goal

pub returns : goal.returns
returns c =
    let digests : c.of.result ≡ requests.digests_of c.args.request.now.text =
    rw (c.of.ensures, c.requires.manifest) (is-ascending c.in_ok-named.named.items (named c.args.manifest.now) c.in_ok-named.ensures.ascending c.in_ok-named.ensures.named) in
    rw (c.in_ok-text.ensures, c.as_slice.ensures, digests, c.requires.portable) refl
