use Rattle.std.proofs.Common.{◌++◌, ap, ◌∙◌}
use Rattle.sha1.specs.Sha1.{sha1}
use Rattle.keep_spec.specs.Sign.{padded_key, short_key, hmac}
use Rattle.keep_sign.proofs.mac.MacState.finalize.Goals as goal

pub returns : goal.returns
unfolding hmac
returns c =
    λ key text h.
    c.finalize-2.ensures _ (c.update.ensures _ h.outer) ∙ ap (λ x. sha1 (padded_key (short_key key) 0x5c ++ x)) (c.finalize.ensures _ h.inner)
