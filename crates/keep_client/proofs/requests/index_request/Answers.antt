use Rattle.std.proofs.Common.{arith, rules, ◌≡◌}
use Rattle.keep_client.specs.Answers.{index_path}
use Rattle.keep_client.proofs.Paths.{can_get, index_plain, uuid_plain, decimal_plain, digits_plain}
use Rattle.keep_client.proofs.requests.index_request.Goals as goal

pub write_request-requires : goal.write_request-requires
write_request-requires c =
    let path : c.deref.result.now ≡ index_path c.args.mount.now c.args.round c.args.prefix.now = search rules in
    rw (path, c.sent_as.ensures) (can_get (index_path c.args.mount.now c.args.round c.args.prefix.now) c.args.token.now (omega arith) (index_plain c.args.mount.now _ c.args.prefix.now
    (uuid_plain c.args.mount.now c.index_path.ensures.form) (decimal_plain c.args.round (omega (arith, c.ranges.round.fits))) (digits_plain c.args.prefix.now c.requires)))
