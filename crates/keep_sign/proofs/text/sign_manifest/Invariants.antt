use Rattle.std.proofs.Common.{◌≡◌, ◌++◌, length}
use Rattle.keep_spec.specs.SignedText.{signed, with_locators}
use Rattle.keep_sign.proofs.text.sign_manifest.Given as goal

abbrev pub invariant-loop-part : goal.invariant-loop-part
invariant-loop-part l = l.out.items ++ with_locators (signed l.token l.expiry l.ttl l.secret) l.rest ≡ with_locators (signed l.token l.expiry l.ttl l.secret) l.text

abbrev pub decreases-loop-part : goal.decreases-loop-part
decreases-loop-part l = length l.rest
