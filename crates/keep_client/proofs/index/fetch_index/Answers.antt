use Rattle.std.proofs.Common.{subst, sym, ◌∙◌, ◌≡◌, rules}
use Rattle.std.specs.Prelude.{IfSome, Some}
use Rattle.keep_client.specs.Answers.{IsFetchedFrom, index_request, server_of}
use Rattle.keep_client.proofs.index.fetch_index.Goals as goal

pub returns-clause-answer : goal.returns-clause-answer
returns-clause-answer g c =
    let server : Some c.in-Some.server ≡ server_of c.args.config.now c.args.mount.now = sym c.in-Some.is ∙ c.server_of.ensures in
    let same : c.as_slice-2.result.now ≡ index_request c.args.config.now.system_token c.args.mount.now c.args.round c.args.prefix.now = search rules in
    subst (λ o. IfSome o (λ server. IsFetchedFrom server (index_request c.args.config.now.system_token c.args.mount.now c.args.round c.args.prefix.now)
    (g.L.Link.told c.args.link.now) (g.L.Link.told c.fetch_from.new.link) c.fetch_from.result)) server
    (subst (λ r. IsFetchedFrom c.in-Some.server r (g.L.Link.told c.args.link.now) (g.L.Link.told c.fetch_from.new.link) c.fetch_from.result) same c.fetch_from.ensures.answer)
