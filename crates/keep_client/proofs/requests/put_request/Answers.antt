use Rattle.std.proofs.Common.{arith, rules, ◌≡◌, ◌∷◌}
use Rattle.hex.specs.Hex.{encode_lower}
use Rattle.md5.specs.Md5.{md5}
use Rattle.keep_client.proofs.Paths.{can_put, digest_plain}
use Rattle.keep_client.proofs.requests.put_request.Goals as goal

pub write_request-requires : goal.write_request-requires
write_request-requires c =
    let path : c.deref.result.now ≡ 47 ∷ encode_lower (md5 c.args.block.now) = search rules in
    let token = c.sent_as.ensures in
    rw (path, token) (can_put (47 ∷ encode_lower (md5 c.args.block.now)) c.args.token.now (omega arith) (digest_plain c.args.block.now))
