use Rattle.std.proofs.Common.{◌≡◌, ◌∙◌, ap}
use Rattle.std.specs.List.{list_all}
use Rattle.keep_manifest.specs.Good.{is_good_stream, is_good_manifest}
use Rattle.keep_manifest.proofs.GoodManifests.{good_tests}
use Rattle.keep_manifest.proofs.good.is_good.Goals as goal

pub returns : goal.returns
returns c =
    let same : c.are_good_streams.result ≡ is_good_manifest c.args.manifest.now = c.are_good_streams.ensures ∙ ap (list_all is_good_stream) c.as_slice.ensures in
    rw same (good_tests c.args.manifest.now)
