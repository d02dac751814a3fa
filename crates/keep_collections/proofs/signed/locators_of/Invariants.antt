use Rattle.std.proofs.Common.{◌≡◌, map, take}
use Rattle.std.specs.List.{flat_map}
use Rattle.keep_collections.proofs.signed.locators_of.Given as goal

abbrev pub invariant-loop-stream : goal.invariant-loop-stream
invariant-loop-stream l = map (λ t. t.now) l.locators.items ≡ flat_map (λ s. s.locators) (take l.stream-index l.stream-items)
