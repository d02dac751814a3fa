use Rattle.std.proofs.Common.{◌<◌, ◌∙◌, All, ap, filter, nat_lt, rules, subst, sym}
use Rattle.std.proofs.lemmas.Bool.{ltb-true}
use Rattle.std.proofs.lemmas.Fn.{filter_same}
use Rattle.std.proofs.lemmas.List.Elements.{filter_passes}
use Rattle.keep_workers.proofs.pull.known_sources.Goals as goal

pub returns-clause-known : goal.returns-clause-known
returns-clause-known c =
    filter_same _ _ _ (λ x b f' k. search rules) _ _ c.retain.ensures.filtered ∙ ap (filter (λ d. nat_lt d c.args.devices)) c.in_ok-known.ensures.items

pub returns-clause-below : goal.returns-clause-below
returns-clause-below c = subst (λ ds. All (λ d. d < c.args.devices) ds) (sym (returns-clause-known c)) (λ k d h. ltb-true _ _ (filter_passes (λ d. nat_lt d c.args.devices) c.args.sources.now k d h))
