use Rattle.std.proofs.Common.{◌≡◌, take}
use Rattle.std.specs.List.{flat_map}
use Rattle.keep_spec.specs.Manifest.{named_in}
use Rattle.keep_manifest.proofs.digests.collect_named.Given as goal

abbrev pub invariant-loop-stream : goal.invariant-loop-stream
invariant-loop-stream l = l.digests.items ≡ flat_map (λ s. named_in s.locators) (take l.stream-index l.stream-items)
