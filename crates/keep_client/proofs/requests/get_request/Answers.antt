use Rattle.std.proofs.Common.{arith, rules, ◌≡◌, ◌∷◌}
use Rattle.keep_client.proofs.Paths.{can_get, locator_plain}
use Rattle.keep_client.proofs.requests.get_request.Goals as goal

pub write_request-requires : goal.write_request-requires
write_request-requires c =
    let path : c.deref.result.now ≡ 47 ∷ c.args.locator.now = search rules in
    rw (path, c.sent_as.ensures) (can_get (47 ∷ c.args.locator.now) c.args.token.now (omega arith) (locator_plain c.args.locator.now c.requires))
