use Rattle.std.proofs.Common.{◌≡◌, ◌*◌, ◌^◌, ◌≤◌, drop}
use Rattle.keep_manifest.proofs.TotalSizes.{with_total}
use Rattle.keep_manifest.proofs.good.total_of.Given as goal

-- the total so far and that of the rest are that of all
abbrev pub invariant-loop-locator : goal.invariant-loop-locator
invariant-loop-locator l =
    (with_total l.total (drop l.locator-index l.locators) ≡ with_total 0 l.locators) × (l.total ≤ 10 ^ 19 * l.locator-index)
