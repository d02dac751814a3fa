use Rattle.std.proofs.Common.{◌≡◌, ◌++◌, length}
use Rattle.keep_spec.specs.SignedText.{with_locators}
use Rattle.keep_spec.specs.Locator.{stripped}
use Rattle.keep_normal.proofs.hash.stripped_text.Given as goal

abbrev pub invariant-loop-part : goal.invariant-loop-part
invariant-loop-part l = l.out.items ++ with_locators stripped l.rest ≡ with_locators stripped l.text

abbrev pub decreases-loop-part : goal.decreases-loop-part
decreases-loop-part l = length l.rest
