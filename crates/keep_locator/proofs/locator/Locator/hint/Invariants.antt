use Rattle.std.proofs.Common.{◌≡◌, ◌-◌}
use Rattle.std.specs.Prelude.{slice_get}
use Rattle.keep_spec.specs.Locator.{cut_before_plus, hints}
use Rattle.keep_locator.proofs.locator.Locator.hint.Given as goal

abbrev pub invariant-loop-passed : goal.invariant-loop-passed
invariant-loop-passed l = slice_get (cut_before_plus l.rest) (l.index - l._passed) ≡ slice_get (hints l.fn.self) l.index
