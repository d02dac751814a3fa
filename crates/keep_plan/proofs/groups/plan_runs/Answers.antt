use Rattle.std.proofs.Common.{sym, arith}
use Rattle.std.proofs.lemmas.List.Sums.{prefix_len-le-length}
use Rattle.std.specs.Prelude.{bytes_eq}
use Rattle.keep_plan.specs.declared.mentions.Mention.{Mention}
use Rattle.keep_plan.proofs.Runs.{at-first, one-more-run, shorter, lists-long}
use Rattle.keep_plan.proofs.groups.plan_runs.Goals as goal

pub loop-first-init : goal.loop-first-init
loop-first-init c = at-first c.args.config.now c.args.threshold c.args.mentions.now c.args.drafts.now c.args.lost.now.items c.requires.sorted c.requires.no_items c.requires.none_lost

pub plan_digest-requires-clause-drafts : goal.plan_digest-requires-clause-drafts
plan_digest-requires-clause-drafts c = lists-long c.args.config.now c.args.threshold c.args.mentions.now c.loop-first.rest.now c.loop-first.drafts c.loop-first.lost.items c.loop-first.invariant

pub split_at-requires : goal.split_at-requires
split_at-requires c = let short = prefix_len-le-length (λ (m : Mention). bytes_eq c.in-Some.first.now.digest m.digest) c.loop-first.rest.now in omega (arith, c.count_of.ensures)

pub loop-first-smaller : goal.loop-first-smaller
loop-first-smaller c = shorter c.loop-first.rest.now c.in-Some.first.now c.count_of.result c.split_at.result.1.now (sym c.in-Some.ensures.value) c.count_of.ensures c.split_at.ensures.back

pub loop-first-preserved : goal.loop-first-preserved
loop-first-preserved c =
    one-more-run c.args.config.now c.args.threshold c.args.mentions.now c.loop-first.rest.now c.loop-first.drafts c.loop-first.lost.items c.in-Some.first.now c.count_of.result c.split_at.result.0.now c.split_at.result.1.now
    c.plan_digest.new.drafts c.plan_digest.new.lost.items c.loop-first.invariant (sym c.in-Some.ensures.value) c.count_of.ensures c.split_at.ensures.front c.split_at.ensures.back
    c.in_ok-plan_digest.ensures.lists c.in_ok-plan_digest.ensures.lost
