use Rattle.std.proofs.Common.{◌≡◌, ℕ, List, map, length, ap, sym, ◌∙◌}
use Rattle.keep_spec.specs.Members.{numbers_from}
use Rattle.keep_spec.specs.Times.{threshold}
use Rattle.keep_event.specs.Plan.{Holding, holding, digests_gathered}
use Rattle.keep_plan.specs.declared.mentions.Mention.{Mention}
use Rattle.keep_plan.specs.Mentions.{of_digest, mentions_of}
use Rattle.keep_plan.specs.Planned.{digests_in, holding_in, lists_by, lost_by}
use Rattle.keep_plan.proofs.Runs.{written-back}
use Rattle.keep_plan.proofs.Whole.{stable-at, holding-is, digests-are}
use Rattle.keep_plan.proofs.Promised.{trash-promised, kept-promised, pull-promised}
use Rattle.keep_plan.proofs.plan.Plan.of.Goals as goal

pub returns-clause-lists : goal.returns-clause-lists
returns-clause-lists c =
    let g = c.args.gather.now in
    let cfg = c.args.config.now in
    let sorted = c.sort_mentions.new.mentions.items in
    let given = c.in_ok-mentions.mentions.items in
    let t = c.threshold-threshold.result in
    let numbers = numbers_from 0 (length cfg.devices) in
    let same : (h : List ℕ) → of_digest h sorted ≡ of_digest h (mentions_of g) = λ h. stable-at given sorted c.in_ok-sort_mentions.ensures.stable h ∙ ap (of_digest h) c.in_ok-mentions.ensures in
    let time : t ≡ threshold cfg.ttl cfg.skew g.started = c.threshold-threshold.ensures ∙ ap (threshold cfg.ttl cfg.skew) c.started.ensures in
    let long : c.in_ok-drafts.drafts.len ≡ length c.in_ok-drafts.drafts.items = sym c.deref_mut.ensures.len ∙ ap length c.deref_mut.ensures.value in
    let kept : length c.plan_mentions.new.drafts ≡ length c.in_ok-drafts.drafts.items = c.plan_mentions.auto.drafts ∙ ap length c.deref_mut.ensures.value in
    c.in_ok-lists.ensures
    ∙ written-back c.in_ok-drafts.drafts.len c.in_ok-drafts.drafts.items c.plan_mentions.new.drafts kept long
    ∙ c.in_ok-plan_mentions.ensures.lists
    ∙ ap (λ (ms : List Mention). map (lists_by (holding_in cfg ms) t (digests_in ms)) numbers) c.deref.ensures.value
    ∙ ap (λ (f : List ℕ → Holding). map (lists_by f t (digests_in sorted)) numbers) (holding-is cfg g sorted same)
    ∙ ap (λ (ds : List (List ℕ)). map (lists_by (holding cfg g) t ds) numbers) (digests-are g sorted same)
    ∙ ap (λ (n : ℕ). map (lists_by (holding cfg g) n (digests_gathered g)) numbers) time

pub returns-clause-lost : goal.returns-clause-lost
returns-clause-lost c =
    let g = c.args.gather.now in
    let cfg = c.args.config.now in
    let sorted = c.sort_mentions.new.mentions.items in
    let given = c.in_ok-mentions.mentions.items in
    let same : (h : List ℕ) → of_digest h sorted ≡ of_digest h (mentions_of g) = λ h. stable-at given sorted c.in_ok-sort_mentions.ensures.stable h ∙ ap (of_digest h) c.in_ok-mentions.ensures in
    c.in_ok-plan_mentions.ensures.lost
    ∙ ap (λ (ms : List Mention). lost_by (holding_in cfg ms) (digests_in ms)) c.deref.ensures.value
    ∙ ap (λ (f : List ℕ → Holding). lost_by f (digests_in sorted)) (holding-is cfg g sorted same)
    ∙ ap (lost_by (holding cfg g)) (digests-are g sorted same)

pub returns-clause-trash : goal.returns-clause-trash
returns-clause-trash c = trash-promised c.args.config.now c.args.gather.now c.in_ok-lists.lists.items (returns-clause-lists c)

pub returns-clause-kept : goal.returns-clause-kept
returns-clause-kept c = kept-promised c.args.config.now c.args.gather.now c.in_ok-lists.lists.items (returns-clause-lists c)

pub returns-clause-pull : goal.returns-clause-pull
returns-clause-pull c = pull-promised c.args.config.now c.args.gather.now c.in_ok-lists.lists.items (returns-clause-lists c)
