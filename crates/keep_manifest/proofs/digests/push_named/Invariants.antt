use Rattle.std.proofs.Common.{◌≡◌, ◌++◌, take}
use Rattle.keep_spec.specs.Manifest.{named_in}
use Rattle.keep_manifest.proofs.digests.push_named.Given as goal

abbrev pub invariant-loop-locator : goal.invariant-loop-locator
invariant-loop-locator l = l.digests.items ≡ l.initial.digests.items ++ named_in (take l.locator-index l.locators)
