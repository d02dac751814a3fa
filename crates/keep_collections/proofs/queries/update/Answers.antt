use Rattle.std.proofs.Common.{◌≡◌, ◌↔◌, sym, ◌∙◌, subst, Some, None}
use Rattle.std.specs.Prelude.{IsTrue}
use Rattle.keep_spec.specs.Config.{token_of}
use Rattle.keep_event.specs.Table as machine
use Rattle.keep_event.specs.Requests as requests
use Rattle.keep_table.specs.Contents.{is_updated}
use Rattle.keep_collections.specs.Verdicts.{IsVerdict, IsGoodUpdate}
use Rattle.keep_collections.specs.declared.request.Verdict.TheVariants.{Good, Refused}
use Rattle.keep_collections.proofs.Changes.{good-updated, line-updated, request-updated}
use Rattle.keep_collections.proofs.queries.update.Goals as goal

pub returns-in-Good-clause-updated_where_good : goal.returns-in-Good-clause-updated_where_good
returns-in-Good-clause-updated_where_good c =
    let s = c.args.table.now.state in
    let found : IsVerdict (requests.refusal_of_request c.args.config.now c.args.reading c.args.request.now) (requests.made_of c.args.request.now) (Good c.in-Good.made) =
    subst (IsVerdict (requests.refusal_of_request c.args.config.now c.args.reading c.args.request.now) (requests.made_of c.args.request.now)) c.in-Good.is c.in_ok-made.ensures in
    let known : token_of c.args.config.now c.args.request.now.token ≡ Some c.in-Some.token =
    subst (λ text. token_of c.args.config.now text ≡ Some c.in-Some.token) c.as_slice.ensures (sym c.token.ensures ∙ c.in-Some.is) in
    let free : machine.refusal_of (machine.updatable c.args.reading c.in-Some.token c.args.collection s) ≡ None = sym c.may_update.ensures ∙ c.in_default-may_update.is in
    let exact : IsTrue (is_updated (machine.update c.args.table.now.rules c.args.reading c.in-Some.token c.args.collection c.in-Good.made c.args.preserve s).answer)
    ↔ IsGoodUpdate c.args.config.now c.args.reading c.args.collection c.args.request.now s =
    rw c.requires.rules (good-updated c.args.config.now c.args.reading c.args.collection c.args.request.now s c.in-Some.token c.in-Good.made c.args.preserve known free found.0) in
    line-updated (machine.update c.args.table.now.rules c.args.reading c.in-Some.token c.args.collection c.in-Good.made c.args.preserve s) _ _ c.update.result _ c.update.ensures.line exact

pub returns-in-Refused-clause-updated_where_good : goal.returns-in-Refused-clause-updated_where_good
returns-in-Refused-clause-updated_where_good c =
    let found : IsVerdict (requests.refusal_of_request c.args.config.now c.args.reading c.args.request.now) (requests.made_of c.args.request.now) (Refused c.in-Refused.refusal) =
    subst (IsVerdict (requests.refusal_of_request c.args.config.now c.args.reading c.args.request.now) (requests.made_of c.args.request.now)) c.in-Refused.is c.in_ok-made.ensures in
    request-updated c.args.config.now c.args.reading c.args.collection c.args.request.now c.args.table.now.state c.in-Refused.refusal found
