use Rattle.keep_sign.proofs.SignedLocator.{other-invalid}
use Rattle.keep_sign.proofs.laws.other_signatures_are_invalid.Goals as goal

pub returns : goal.returns
returns c = other-invalid
