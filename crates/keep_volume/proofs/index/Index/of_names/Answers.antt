use Rattle.keep_volume.proofs.Passes.{none-passed}
use Rattle.keep_volume.proofs.index.Index.of_names.Goals as goal

pub invariant_of-result : goal.invariant_of-result
invariant_of-result c = record { sum = c.in_ok-names.ensures.used; small = c.in_ok-names.ensures.small; passed = none-passed 18446744073709551615 c.in_ok-names.names.entries }
