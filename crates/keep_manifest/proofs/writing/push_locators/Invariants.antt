use Rattle.std.proofs.Common.{◌≡◌, ◌++◌, take}
use Rattle.std.specs.List.{flat_map}
use Rattle.keep_spec.specs.Manifest.{follow}
use Rattle.keep_manifest.proofs.writing.push_locators.Given as goal

abbrev pub invariant-loop-locator : goal.invariant-loop-locator
invariant-loop-locator l = l.text.items ≡ l.initial.text.items ++ flat_map follow (take l.locator-index l.locators)
