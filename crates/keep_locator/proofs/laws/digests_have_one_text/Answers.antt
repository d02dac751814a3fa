use Rattle.keep_spec.proofs.DigestText.{digest_of-encode, text_of_digest}
use Rattle.keep_locator.proofs.laws.digests_have_one_text.Goals as goal

pub returns-clause-own_text : goal.returns-clause-own_text
returns-clause-own_text c = digest_of-encode

pub returns-clause-no_other_text : goal.returns-clause-no_other_text
returns-clause-no_other_text c = text_of_digest
