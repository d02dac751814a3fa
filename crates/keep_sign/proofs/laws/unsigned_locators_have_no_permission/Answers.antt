use Rattle.keep_sign.proofs.SignedLocator.{unsigned-locator}
use Rattle.keep_sign.proofs.laws.unsigned_locators_have_no_permission.Goals as goal

pub returns-clause-locator : goal.returns-clause-locator
returns-clause-locator c = λ text whole. (unsigned-locator text whole).whole

pub returns-clause-stripped : goal.returns-clause-stripped
returns-clause-stripped c = λ text whole. (unsigned-locator text whole).same_stripped

pub returns-clause-hints : goal.returns-clause-hints
returns-clause-hints c = λ text whole. (unsigned-locator text whole).own_hints
