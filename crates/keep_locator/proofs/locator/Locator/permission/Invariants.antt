use Rattle.std.proofs.Common.{◌≡◌, ◌++◌, length, map}
use Rattle.std.specs.Prelude.{filter}
use Rattle.std.specs.Option.{option_to_list}
use Rattle.keep_spec.specs.Locator.{cut_before_plus, hints, is_permission_hint, permission_of}
use Rattle.keep_locator.proofs.locator.Locator.permission.Given as goal

abbrev pub invariant-loop-hint : goal.invariant-loop-hint
invariant-loop-hint l =
    option_to_list l.found ++ map permission_of (filter is_permission_hint (cut_before_plus l.rest))
    ≡ map permission_of (filter is_permission_hint (hints l.fn.self))

abbrev pub decreases-loop-hint : goal.decreases-loop-hint
decreases-loop-hint l = length l.rest
