use Rattle.keep_sign.proofs.SignedLocator.{signed-whole, signed-stripped, signed-locator, signed-valid}
use Rattle.keep_sign.proofs.laws.signed_locators_are_valid.Goals as goal

pub returns-clause-locator : goal.returns-clause-locator
returns-clause-locator c = signed-whole

pub returns-clause-stripped : goal.returns-clause-stripped
returns-clause-stripped c = signed-stripped

pub returns-clause-hints : goal.returns-clause-hints
returns-clause-hints c = λ text token secret expiry ttl whole some. (signed-locator text token secret expiry ttl whole some).own_hints

pub returns-clause-valid : goal.returns-clause-valid
returns-clause-valid c = signed-valid
