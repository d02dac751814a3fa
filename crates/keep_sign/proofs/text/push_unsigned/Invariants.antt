use Rattle.std.proofs.Common.{◌≡◌, ◌++◌, length}
use Rattle.keep_spec.specs.Locator.{cut_before_plus}
use Rattle.keep_spec.specs.SignedText.{unsigned}
use Rattle.keep_sign.proofs.SignedToken.{others}
use Rattle.keep_sign.proofs.text.push_unsigned.Given as goal

abbrev pub invariant-loop-hint : goal.invariant-loop-hint
invariant-loop-hint l = l.out.items ++ others (cut_before_plus l.rest) ≡ l.fn.out.items ++ unsigned l.fn.locator

abbrev pub decreases-loop-hint : goal.decreases-loop-hint
decreases-loop-hint l = length l.rest
