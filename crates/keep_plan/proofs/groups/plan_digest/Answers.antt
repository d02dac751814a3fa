use Rattle.std.proofs.Common.{◌≡◌, ◌∙◌, arith}
use Rattle.std.proofs.lemmas.Result.{on_ok_weaker}
use Rattle.keep_plan.specs.Decided.{with_decided}
use Rattle.keep_plan.specs.Drafted.{with_digest, each_from}
use Rattle.keep_plan.specs.Mentions.{holding_by}
use Rattle.keep_plan.proofs.Decided.{items-are}
use Rattle.keep_plan.proofs.Numbers.{each-same}
use Rattle.keep_plan.proofs.groups.plan_digest.Goals as goal

pub returns-clause-lists : goal.returns-clause-lists
returns-clause-lists c =
    let cfg = c.args.config.now in
    let h = c.args.digest in
    let ms = c.args.mentions.now in
    let x = c.in_ok-decision.decision in
    let t = c.args.threshold in
    let entries = c.decide.new.entries in
    let long = c.requires.drafts in
    on_ok_weaker c.give_all.result (λ (e : c.give_all.new.drafts ≡ each_from 0 (with_decided x cfg t entries) c.args.drafts.now). e ∙ each-same (with_decided x cfg t entries) (with_digest t (holding_by cfg h ms)) 0 c.args.drafts.now (λ d l low high. items-are cfg h ms entries c.decide.ensures.entries x c.in_ok-decision.ensures.decided t d (omega arith) l)) c.give_all.ensures
