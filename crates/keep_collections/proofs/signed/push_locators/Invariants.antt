use Rattle.std.proofs.Common.{◌≡◌, ◌++◌, map, take}
use Rattle.keep_collections.proofs.signed.push_locators.Given as goal

abbrev pub invariant-loop-locator : goal.invariant-loop-locator
invariant-loop-locator l = map (λ t. t.now) l.locators.items ≡ map (λ t. t.now) l.initial.locators.items ++ take l.locator-index l.more
