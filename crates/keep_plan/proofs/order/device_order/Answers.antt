use Rattle.std.proofs.Common.{◌∙◌}
use Rattle.std.proofs.lemmas.Result.{IfOk-weaker}
use Rattle.keep_plan.proofs.Placed.{order-is}
use Rattle.keep_plan.proofs.order.device_order.Goals as goal

pub returns : goal.returns
returns c =
    IfOk-weaker c.by_weight.result _ _ (λ v e. e ∙ order-is c.args.config.now c.args.digest c.deref.result.now (c.deref.ensures.value ∙ c.in_ok-weights.ensures)) c.by_weight.ensures.list
