use Rattle.std.proofs.Common.{◌∙◌, ap, sym, [], unwrap_or}
use Rattle.keep_spec.specs.Order.{greater_of}
use Rattle.keep_plan.proofs.Weights.{above-none}
use Rattle.keep_plan.proofs.order.heavier.Goals as goal

pub returns-in-None : goal.returns-in-None
returns-in-None c = above-none c.args.first ∙ ap (λ o. greater_of c.args.first (unwrap_or o [])) (sym c.in-None.is)
