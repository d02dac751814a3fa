use Rattle.keep_locator.proofs.LongestPrefix.{begins-to_test, begins-from_test}
use Rattle.keep_locator.proofs.laws.prefixes_are_decidable.Goals as goal

pub returns : goal.returns
returns c = λ front. (begins-to_test front, begins-from_test front)
