use Rattle.std.proofs.Common.{◌≡◌, Some, ap, sym, ◌∙◌}
use Rattle.keep_history.specs.declared.task.Outcome.TheVariants as O
use Rattle.keep_tasks.specs.Kinds.{block_unsigned}
use Rattle.keep_tasks.specs.Unsigned.{Beginning}
use Rattle.keep_tasks.proofs.Taking.{stored-is}
use Rattle.keep_tasks.proofs.put.stored.Goals as goal

same : {x y : Beginning} → Some x ≡ Some y → x ≡ y
same e = cc

pub returns-clause-end : goal.returns-clause-end
returns-clause-end c = λ config token bytes is.
    let here : c.in_ok-locator.locator ≡ block_unsigned config token bytes = same (sym c.in_ok-locator.was ∙ c.take.ensures.value ∙ is) in
    ap (λ v. Some (O.Stored v)) (c.sign.ensures ∙ stored-is config token bytes c.args.mtime _ here)
