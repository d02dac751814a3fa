use Rattle.std.proofs.Common.{rules, not, filter, ◌∙◌, ap}
use Rattle.std.proofs.lemmas.Fn.{filter_same}
use Rattle.keep_history.specs.Tasks.{is_read_only}
use Rattle.keep_tasks.proofs.opening.writable.Goals as goal

pub returns-clause-devices : goal.returns-clause-devices
returns-clause-devices c =
    c.of.ensures ∙ filter_same _ _ _ (λ x b f' k. search rules) _ _ c.retain.ensures.filtered
    ∙ ap (filter (λ d. not (is_read_only c.args.config.now d))) c.in_ok-devices.ensures.devices
