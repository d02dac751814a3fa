use Rattle.std.proofs.Common.{◌≡◌, sym, ◌∙◌, subst, Some}
use Rattle.std.specs.Prelude.{IsTrue}
use Rattle.std.proofs.lemmas.Result.{IfOk-weaker}
use Rattle.keep_spec.specs.Config.{token_of}
use Rattle.keep_event.specs.Requests as requests
use Rattle.keep_collections.specs.Verdicts.{IsVerdict, is_saved}
use Rattle.keep_collections.specs.declared.request.Verdict.TheVariants.{Good, Refused}
use Rattle.keep_collections.proofs.Saves.{created-saved, good-request, refused-request}
use Rattle.keep_collections.proofs.Tokens.{token-below}
use Rattle.keep_collections.proofs.queries.save.Goals as goal

pub create-requires-clause-owner : goal.create-requires-clause-owner
create-requires-clause-owner c = rw c.requires.rules (token-below c.args.config.now c.as_slice.result.now c.in-Some.owner (sym c.token.ensures ∙ c.in-Some.is))

pub returns-in-Good-clause-saved_where_good : goal.returns-in-Good-clause-saved_where_good
returns-in-Good-clause-saved_where_good c =
    let found : IsVerdict (requests.refusal_of_request c.args.config.now c.args.reading c.args.request.now) (requests.made_of c.args.request.now) (Good c.in-Good.made) =
    subst (IsVerdict (requests.refusal_of_request c.args.config.now c.args.reading c.args.request.now) (requests.made_of c.args.request.now)) c.in-Good.is c.in_ok-made.ensures in
    let known : token_of c.args.config.now c.args.request.now.token ≡ Some c.in-Some.owner = subst (λ text. token_of c.args.config.now text ≡ Some c.in-Some.owner) c.as_slice.ensures (sym c.token.ensures ∙ c.in-Some.is) in
    let good = good-request c.args.config.now c.args.reading c.args.request.now c.in-Some.owner known found.0 in
    IfOk-weaker c.create.result (λ answer. IsTrue (is_saved answer)) _ (λ answer saved. (λ yes. good, λ yes. saved))
    (created-saved c.in-Some.owner c.in-Good.made _ _ _ c.create.result c.create.ensures)

pub returns-in-Refused-clause-saved_where_good : goal.returns-in-Refused-clause-saved_where_good
returns-in-Refused-clause-saved_where_good c =
    let found : IsVerdict (requests.refusal_of_request c.args.config.now c.args.reading c.args.request.now) (requests.made_of c.args.request.now) (Refused c.in-Refused.refusal) =
    subst (IsVerdict (requests.refusal_of_request c.args.config.now c.args.reading c.args.request.now) (requests.made_of c.args.request.now)) c.in-Refused.is c.in_ok-made.ensures in
    refused-request c.args.config.now c.args.reading c.args.request.now c.in-Refused.refusal found
