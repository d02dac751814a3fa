use Rattle.std.proofs.Common.{sym, ◌∙◌}
use Rattle.keep_sign.proofs.SignedToken.{signed-none, signed-some}
use Rattle.keep_sign.proofs.text.push_signed.Goals as goal

pub returns-then-is_empty_block : goal.returns-then-is_empty_block
returns-then-is_empty_block c =
    signed-none c.args.part.now c.in-Ok.locator c.args.out.now.items _ c.args.token.now c.args.secret.now c.args.expiry c.args.ttl c.in-Ok.ensures.parsed
    (sym c.is_empty_block.ensures ∙ c.if-is_empty_block.true) c.in_ok-push_unsigned.ensures

pub returns : goal.returns
returns c =
    signed-some c.args.part.now c.in-Ok.locator c.args.out.now.items c.push_unsigned.new.out.items _ c.args.token.now c.args.secret.now c.digest.result c.args.expiry c.args.ttl
    c.in-Ok.ensures.parsed (sym c.is_empty_block.ensures ∙ c.if-is_empty_block.false) c.in_ok-push_unsigned.ensures c.digest.ensures.value c.in_ok-push_permission_hint.ensures
